use Rattle.std.proofs.Common.{Some, cond, ap, ◌∙◌}
use Rattle.std.specs.Str.{bytes_eq}
use Rattle.bson_keys.specs.Places.{place_in_tree}
use Rattle.bson_keys.proofs.KeyPlaces.{tree_updates, put_again}
use Rattle.bson_keys.proofs.places.place_or_insert.Goals as goal

pub returns-in-None-clause-places : goal.returns-in-None-clause-places
returns-in-None-clause-places c = λ text.
    tree_updates c.args.key c.second_hash_of-hash.result c.args.places.now c.insert.new.self (Some c.args.place) c.second_hash_of-hash.ensures c.in_ok-insert.ensures.updates text

pub returns-in_ok-insert-in-Some-clause-places : goal.returns-in_ok-insert-in-Some-clause-places
returns-in_ok-insert-in-Some-clause-places c = λ text.
    let is = bytes_eq c.args.key.now text in
    tree_updates c.args.key c.second_hash_of-hash.result c.insert.new.self c.insert-in-Some.new.self (Some c.in-Some.found) c.second_hash_of-hash.ensures c.in_ok-insert-in-Some.ensures.updates text
    ∙ ap (cond is (Some c.in-Some.found)) (tree_updates c.args.key c.second_hash_of-hash.result c.args.places.now c.insert.new.self (Some c.args.place) c.second_hash_of-hash.ensures c.in_ok-insert.ensures.updates text)
    ∙ put_again is c.args.place c.in-Some.found (place_in_tree c.args.places.now text)
