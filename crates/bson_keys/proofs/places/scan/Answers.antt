use Rattle.std.proofs.Common.{sym, ◌∙◌, arith}
use Rattle.bson_keys.proofs.KeyPlaces.{scan_found, scan_next}
use Rattle.bson_keys.proofs.places.scan.Goals as goal

pub returns-then-eq : goal.returns-then-eq
returns-then-eq c = sym (c.loop-place.invariant.1 ∙ scan_found c.args.keys.now c.loop-place.place _ c.args.text.now c.loop-place-test.true c.loop-place.invariant.0 (sym c.if-eq.ensures))

pub loop-place-preserved : goal.loop-place-preserved
loop-place-preserved c = (
  omega (arith, c.loop-place.invariant.0),
  c.loop-place.invariant.1 ∙ scan_next c.args.keys.now c.loop-place.place _ c.args.text.now c.loop-place-test.true c.loop-place.invariant.0 (sym c.if-eq.ensures),
)
