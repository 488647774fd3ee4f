use Rattle.std.proofs.Common.{sym}
use Rattle.bson_shape.proofs.Sames.{same_fields-lengths}
use Rattle.bson_evolve_check.proofs.tables.are_same.Goals as goal

pub returns-then-a-b : goal.returns-then-a-b
returns-then-a-b c = sym (same_fields-lengths c.args.a.now c.args.b.now c.if-a-b.true)
