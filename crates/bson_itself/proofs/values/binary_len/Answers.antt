use Rattle.std.proofs.Common.{◌+◌, drop, get_or, sym, ap, subst, refl, ◌∙◌, arith}
use Rattle.bson_itself.specs.Encoded.{IsBehind}
use Rattle.bson_itself.proofs.Parts.{binary_is}
use Rattle.bson_itself.proofs.values.binary_len.Goals as goal

pub returns-clause-binary : goal.returns-clause-binary
returns-clause-binary c =
    let b = c.args.bytes.now in
    let n = c.uint32_in-count.result in
    binary_is b (n + 5) c.known_bytes.ensures (omega arith) c.args.leaf (get_or b 4 0) (omega arith) (ap (λ m. m + 5) (sym c.uint32_in-count.ensures)) (omega arith) refl (omega arith) (c.if-not-is_taken_subtype.ensures refl)
    (subst (IsBehind (get_or b 4 0)) (c.split_at-2.ensures.back ∙ ap (drop 5) c.split_at.ensures.front) (c.if-not-is_behind.ensures refl))
