use Rattle.std.proofs.Common.{arith}
use Rattle.bson_itself.proofs.Kept.{kind_kept}
use Rattle.bson_pass_parts.proofs.KeptLeaves.{kept_as_read}
use Rattle.bson_pass_parts.proofs.kept.is_extended_kept.Goals as goal

pub returns : goal.returns
returns c = λ h.
    let b = c.args.bytes.now in
    let test = c.is_itself.ensures in
    kept_as_read c.args.leaf c.args.levels c.args.kind b (kind_kept c.args.leaf c.args.levels c.args.kind b c.requires.kind (omega (arith, test.few h)) (test.itself h))
