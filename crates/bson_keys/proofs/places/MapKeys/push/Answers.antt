use Rattle.std.proofs.Common.{Some, cond, ap, sym, ◌∙◌, take, arith}
use Rattle.std.specs.Prelude.{option_map, box_value}
use Rattle.std.specs.Str.{bytes_eq}
use Rattle.bson_keys.specs.Places.{place_in_tree}
use Rattle.bson_keys.specs.KeysView.{place_found}
use Rattle.bson_keys.proofs.KeyPlaces.{texts_of, few_more}
use Rattle.bson_keys.proofs.places.MapKeys.push.Goals as goal

pub returns-in-Some-clause-places : goal.returns-in-Some-clause-places
returns-in-Some-clause-places c = λ text.
    let keys = c.args.self.now in
    c.in_ok-insert.ensures text
    ∙ ap (λ m. cond (bytes_eq c.args.key.now text) (Some c.args.place) (place_in_tree m text)) c.deref_mut.ensures.value
    ∙ ap (λ o. cond (bytes_eq c.args.key.now text) (Some c.args.place) (place_found (option_map box_value o) (texts_of (take keys.count keys.first)) text)) (sym c.in-Some.is)

pub returns-then-self-lt-FEW-clause-places : goal.returns-then-self-lt-FEW-clause-places
returns-then-self-lt-FEW-clause-places c = λ text.
    let keys = c.args.self.now in
    few_more (option_map box_value keys.places) keys.first keys.count c.args.place c.args.key text (ap (option_map box_value) c.in_default.is) (c.requires.next c.in_default.is) (omega arith)
