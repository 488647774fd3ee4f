use Rattle.std.proofs.Common.{refl}
use Rattle.bson_pass_parts.proofs.Marked.{if_recast}
use Rattle.bson_one_pass.proofs.document.recast_at_once_utf8_lossy.Goals as goal

pub returns : goal.returns
returns c = record { recast = if_recast (λ v. v.items) c.recast_at_once.result c.args.shape.now c.args.bytes.now (c.if-not-borrows_nothing.ensures refl) c.recast_at_once.ensures.recast }
