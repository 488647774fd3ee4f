use Rattle.std.proofs.Common.{◌≡◌, Bool, ap, sym, ◌∙◌, string_bytes, arith}
use Rattle.std.specs.Str.{bytes_eq}
use Rattle.bson_infer_run.proofs.NamePlaces.{scan_found, scan_next}
use Rattle.bson_infer_run.proofs.names.scan.Goals as goal

pub returns-then-eq : goal.returns-then-eq
returns-then-eq c =
    let k = c.index-texts-place.result in
    let test : bytes_eq (string_bytes k) c.args.name.now ≡ c.eq.result = ap (λ t. bytes_eq t c.args.name.now) (sym c.as_str.ensures.value) ∙ sym c.eq.ensures in
    sym
    (c.loop-place.invariant.1
    ∙ scan_found c.args.texts.now c.loop-place.place k c.args.name.now c.loop-place-test.true c.loop-place.invariant.0 c.index-texts-place.is (test ∙ c.if-eq.true))

pub loop-place-preserved : goal.loop-place-preserved
loop-place-preserved c =
    let k = c.index-texts-place.result in
    let test : bytes_eq (string_bytes k) c.args.name.now ≡ c.eq.result = ap (λ t. bytes_eq t c.args.name.now) (sym c.as_str.ensures.value) ∙ sym c.eq.ensures in (
      omega (arith, c.loop-place.invariant.0),
      c.loop-place.invariant.1
          ∙ scan_next c.args.texts.now c.loop-place.place k c.args.name.now c.loop-place-test.true c.loop-place.invariant.0 c.index-texts-place.is (test ∙ c.if-eq.false),
    )
