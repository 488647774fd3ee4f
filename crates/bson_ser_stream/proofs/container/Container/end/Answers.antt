use Rattle.std.proofs.Common.{◌-◌, arith}
use Rattle.bson_ser_stream.proofs.Ended.{ends}
use Rattle.bson_ser_stream.proofs.container.Container.end.Goals as goal

pub returns-clause-ok : goal.returns-clause-ok
returns-clause-ok g c = ends c.args.out.now c.push.new.self c.patch_i32.new.self c.args.self.start (c.len.result - c.args.self.start) c.args.steps.now c.push.new.steps c.patch_i32.new.steps c.in_ok-push.ensures.ok (omega (arith, c.len.ensures)) (omega (arith, c.if-len-gt-MOST.false)) c.patch_i32.ensures
