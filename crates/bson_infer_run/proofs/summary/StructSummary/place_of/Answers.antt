use Rattle.std.proofs.Common.{arith}
use Rattle.bson_infer_run.proofs.Places.{at_less}
use Rattle.bson_infer_run.proofs.summary.StructSummary.place_of.Goals as goal

pub returns-then-is_at-clause-within : goal.returns-then-is_at-clause-within
returns-then-is_at-clause-within c = omega (arith, at_less c.args.name.now c.args.self.now.names c.args.expected (c.is_at.ensures c.if-is_at.true), c.requires)
