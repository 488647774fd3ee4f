use Rattle.std.proofs.Common.{Some, cond, ap, ◌∙◌, arith}
use Rattle.std.specs.Prelude.{option_map, box_value}
use Rattle.std.specs.Str.{bytes_eq}
use Rattle.bson_keys.specs.Places.{place_in_tree}
use Rattle.bson_keys.proofs.KeyPlaces.{few_all}
use Rattle.bson_keys.proofs.places.MapKeys.push_to_tree.Goals as goal

pub returns-clause-places : goal.returns-clause-places
returns-clause-places c = λ text.
    let keys = c.args.self.now in
    ap (λ m. place_in_tree m text) c.in_ok-new.ensures.ok ∙ c.in_ok-insert.ensures text ∙ ap (cond (bytes_eq c.args.key.now text) (Some c.args.place)) (c.in_ok-places.ensures text ∙ few_all (option_map box_value keys.places) keys.first keys.count text (ap (option_map box_value) c.requires.none) (omega arith))
