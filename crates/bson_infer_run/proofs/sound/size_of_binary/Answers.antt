use Rattle.std.proofs.Common.{◌∙◌, ap, inl, inr, arith, rules, length, subst}
use Rattle.bson_kinds.specs.Text.{AreBytes}
use Rattle.bson_infer_run.proofs.Fitting.{binary_answers}
use Rattle.bson_infer_run.proofs.sound.size_of_binary.Goals as goal
use Rattle.bson_infer_run.proofs.sound.size_of_binary.Goals.{then-binary-eq2, else-binary-eq2}

pub returns : goal.returns
returns c =
    let v = c.as_slice.ensures.value in
    binary_answers c.args.binary.now.subtype.0 c.size_of_bytes-len.result c.if-binary-eq2.more c.args.binary.now.bytes.items (search rules) (subst AreBytes v c.size_of_bytes-len.ensures.bytes) (c.size_of_bytes-len.ensures.size ∙ ap length v)
    (elim c.if-binary-eq2.branch [ then-binary-eq2 w ↦ inl (w.if-binary-eq2.true, w.more-is) | else-binary-eq2 w ↦ inr (w.if-binary-eq2.false, w.more-is) ]) (omega arith)
