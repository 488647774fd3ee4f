use Rattle.std.proofs.Common.{◌≡◌, false, sym, subst, ◌∙◌, arith}
use Rattle.std.specs.Prelude.{nat_eq}
use Rattle.std.proofs.lemmas.Bool.{eqb-true}
use Rattle.std.proofs.lemmas.Bool.Decides.{nat_tests}
use Rattle.bson_itself.specs.Encoded.{IsBehind}
use Rattle.bson_itself.proofs.Parts.{counted, uncounted}
use Rattle.bson_itself.proofs.values.is_behind.Goals as goal

pub returns-then-subtype-ne2 : goal.returns-then-subtype-ne2
returns-then-subtype-ne2 c = λ _. let other : nat_eq c.args.subtype 2 ≡ false = grind (arith, nat_tests, c.if-subtype-ne2.true) in uncounted c.args.subtype c.args.bytes.now c.known_bytes.ensures other

pub returns-then-bytes-ge4 : goal.returns-then-bytes-ge4
returns-then-bytes-ge4 c = λ h.
    let b = c.args.bytes.now in
    let old : c.args.subtype ≡ 2 = omega (arith, c.if-subtype-ne2.false) in
    subst (λ subtype. IsBehind subtype b) (sym old) (counted b c.known_bytes.ensures (omega (arith, c.if-bytes-ge4.true)) (sym c.uint32_in.ensures ∙ eqb-true _ _ h))
