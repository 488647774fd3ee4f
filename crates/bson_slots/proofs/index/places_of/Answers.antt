use Rattle.std.proofs.Common.{Some, cond, ap, ◌∙◌, map, take}
use Rattle.std.proofs.lemmas.Map.Text.{btree_map_updates_str}
use Rattle.std.specs.Str.{bytes_eq}
use Rattle.bson_slots.specs.Place.{place_of}
use Rattle.bson_slots.proofs.Places.{place_more}
use Rattle.bson_slots.proofs.index.places_of.Goals as goal

pub loop-place-preserved : goal.loop-place-preserved
loop-place-preserved g c = λ name.
    let named = g.T.Named.named in
    let i = c.loop-place.place in
    btree_map_updates_str c.name.result.now c.loop-place.places c.insert.new.self (Some i) c.in_ok-insert.ensures.updates name
    ∙ ap (cond (bytes_eq c.name.result.now name) (Some i)) (c.loop-place.invariant name)
    ∙ ap (λ n. cond (bytes_eq n name) (Some i) (place_of (map named (take i c.args.items.now)) name)) c.name.ensures
    ∙ place_more named c.args.items.now name i c.index-items-place.result c.requires c.loop-place-test.true c.index-items-place.is
