use Rattle.std.proofs.Common.{◌∙◌, ap, arith, length, ◌<◌}
use Rattle.bson_salvaging.proofs.Steps.{leave_passed, leave_grown, left_all}
use Rattle.bson_salvaging.proofs.Windows.{takes_then, over}
use Rattle.bson_salvaging.proofs.stepping.leave_all.Goals as goal

pub returns-in_err-fill-clause-taken : goal.returns-in_err-fill-clause-taken
returns-in_err-fill-clause-taken g c = takes_then _ _ _ _ _ c.loop-next.invariant.leaving.grows c.in_err-fill.ensures.taken

pub returns-then-bytes-eq0-clause-leaves : goal.returns-then-bytes-eq0-clause-leaves
returns-then-bytes-eq0-clause-leaves g c =
    let passed = leave_passed _ _ c.pass.new.self _ _ _ _ c.in-Some.next c.loop-next.invariant.leaving (ap length c.bytes-held.ensures.bytes) c.pass.ensures.bytes c.pass.ensures.ended (omega (arith, c.in-Some.ensures)) in
    let none : length c.fill.new.self.bytes < 1 = omega (arith, c.if-bytes-eq0.true, ap length c.bytes.ensures.bytes) in
    left_all _ _ _ _ _ (leave_grown _ _ _ _ _ _ _ passed c.in_ok-fill.ensures.grows) (omega (arith, none)) (over c.fill.new.self 1 c.in_ok-fill.ensures.enough none)

pub loop-next-preserved : goal.loop-next-preserved
loop-next-preserved g c =
    let passed = leave_passed _ _ c.pass.new.self _ _ _ _ c.in-Some.next c.loop-next.invariant.leaving (ap length c.bytes-held.ensures.bytes) c.pass.ensures.bytes c.pass.ensures.ended (omega (arith, c.in-Some.ensures)) in
    record {
      leaving = leave_grown _ _ _ _ _ _ _ passed c.in_ok-fill.ensures.grows;
      some = omega (arith, c.if-bytes-eq0.false, ap length c.bytes.ensures.bytes);
      kept = c.in_ok-fill.ensures.kept (λ e. cc) ∙ c.loop-next.invariant.kept;
    }
