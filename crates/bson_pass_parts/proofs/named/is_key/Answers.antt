use Rattle.std.proofs.Common.{length, get_or, refl, ap, sym, ◌∙◌, arith}
use Rattle.std.proofs.lemmas.Bool.{eqb-true}
use Rattle.std.proofs.lemmas.Str.{is_utf8-from_IsUtf8}
use Rattle.bson_pass_parts.proofs.KnownNames.{name_cut}
use Rattle.bson_pass_parts.proofs.named.is_key.Goals as goal

pub returns-clause-text : goal.returns-clause-text
returns-clause-text c = λ h. is_utf8-from_IsUtf8 c.args.name.now c.utf8.name

pub returns-clause-cut : goal.returns-clause-cut
returns-clause-cut c = λ h.
    let bytes = c.args.bytes.now in
    let name = c.args.name.now in
    let long = ap length c.as_bytes-name.ensures.value in
    name_cut bytes name (length name) refl (omega (arith, long)) (λ k lt. c.loop-i.invariant k (omega (arith, long)))
    (ap (λ m. get_or bytes m 0) (sym long) ∙ eqb-true (get_or bytes (length c.as_bytes-name.result.now) 0) 0 h)
