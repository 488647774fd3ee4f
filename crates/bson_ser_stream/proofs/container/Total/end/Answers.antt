use Rattle.std.proofs.Common.{◌-◌, arith}
use Rattle.bson_ser_stream.proofs.Ended.{totals}
use Rattle.bson_ser_stream.proofs.container.Total.end.Goals as goal

pub returns-clause-ok : goal.returns-clause-ok
returns-clause-ok g c = totals c.args.out.now c.patch_i32.new.self c.args.self.start (c.len.result - c.args.self.start) c.args.steps.now c.patch_i32.new.steps (omega (arith, c.len.ensures)) (omega (arith, c.if-total-gt-MOST.false)) c.patch_i32.ensures
