use Rattle.std.proofs.Common.{Some, cond, ap, sym, ◌∙◌}
use Rattle.std.specs.Str.{bytes_eq}
use Rattle.bson_keys.proofs.KeyPlaces.{place_more}
use Rattle.bson_keys.proofs.places.places_of.Goals as goal

pub loop-place-preserved : goal.loop-place-preserved
loop-place-preserved c = λ text.
    let i = c.loop-place.place in
    c.in_ok-insert.ensures text ∙ ap (cond (bytes_eq _ text) (Some i)) (c.loop-place.invariant text) ∙ sym (place_more c.args.keys.now i _ text c.loop-place-test.true)
