use Rattle.std.proofs.Common.{◌≤◌, ◌∙◌, ap, sym, arith, length, take}
use Rattle.bson_salvaging.specs.Looks.{is_walked, walked}
use Rattle.bson_salvaging.proofs.Elements.{no_not, not_so}
use Rattle.bson_salvaging.proofs.Steps.{damaged_if, left_if, faulty_if, step_kept, step_alone}
use Rattle.bson_salvaging.proofs.Windows.{longer, takes_then, takes_grown, grows_then}
use Rattle.bson_salvaging.proofs.stepping.next_stretch.Goals as goal

pub returns-in_default-clause-step : goal.returns-in_default-clause-step
returns-in_default-clause-step g c =
    damaged_if c.args.looks _ _ _ _ c.in_ok-length.ensures.grows c.damage.new.window _ c.damage.result (rw c.in_default.is at c.in_ok-length.ensures.settles) c.damage.ensures.leaves

pub returns-in_default-clause-taken : goal.returns-in_default-clause-taken
returns-in_default-clause-taken g c = takes_then _ _ _ _ _ c.in_ok-length.ensures.grows c.damage.ensures.taken

pub returns-then-walked-clause-step : goal.returns-then-walked-clause-step
returns-then-walked-clause-step g c =
    step_kept c.args.looks _ _ _ _ c.in_ok-length.ensures.grows c.in-Some.length (rw c.in-Some.is at c.in_ok-length.ensures.settles) (rw c.in-Some.is at c.in_ok-length.ensures.there) c.gained.result
    (ap (λ b. is_walked (take c.in-Some.length b)) (sym c.bytes.ensures.bytes) ∙ sym c.walk-walked.ensures.fine ∙ c.if-walked.true) c.gained.ensures

pub returns-then-looks-walked-clause-step : goal.returns-then-looks-walked-clause-step
returns-then-looks-walked-clause-step g c =
    left_if c.args.looks _ _ _ _ c.in_ok-length.ensures.grows c.in-Some.length (rw c.in-Some.is at c.in_ok-length.ensures.settles) (rw c.in-Some.is at c.in_ok-length.ensures.there) c.walk-walked.result.count
    (ap (λ b. is_walked (take c.in-Some.length b)) (sym c.bytes.ensures.bytes) ∙ sym c.walk-walked.ensures.fine ∙ c.if-walked.false)
    (c.walk-walked.ensures.count ∙ ap (λ b. walked (take c.in-Some.length b)) c.bytes.ensures.bytes) c.leave_all.new.window _ c.leave_all.result c.if-looks-walked.true c.leave_all.ensures.leaves

pub returns-then-looks-walked-clause-taken : goal.returns-then-looks-walked-clause-taken
returns-then-looks-walked-clause-taken g c = takes_then _ _ _ _ _ c.in_ok-length.ensures.grows c.leave_all.ensures.taken

pub returns-in_err-look-clause-taken : goal.returns-in_err-look-clause-taken
returns-in_err-look-clause-taken g c = takes_then _ _ _ _ _ c.in_ok-length.ensures.grows c.in_err-look.ensures.taken

pub returns-then-not-look-clause-step : goal.returns-then-not-look-clause-step
returns-then-not-look-clause-step g c =
    faulty_if c.args.looks _ _ _ _ c.in_ok-length.ensures.grows c.in-Some.length (rw c.in-Some.is at c.in_ok-length.ensures.settles) (rw c.in-Some.is at c.in_ok-length.ensures.there) c.walk-walked.result.count
    (ap (λ b. is_walked (take c.in-Some.length b)) (sym c.bytes.ensures.bytes) ∙ sym c.walk-walked.ensures.fine ∙ c.if-walked.false)
    (c.walk-walked.ensures.count ∙ ap (λ b. walked (take c.in-Some.length b)) c.bytes.ensures.bytes) c.goes_on.new.window _ c.in_ok-look.ensures.grows c.in_ok-look.look (omega (arith, c.if-looks-walked.false))
    c.in_ok-look.ensures.settles c.damage-then-not-look.new.window _ c.damage-then-not-look.result (not_so c.in_ok-look.look.fine c.if-not-look.true) c.damage-then-not-look.ensures.leaves

pub returns-then-not-look-clause-taken : goal.returns-then-not-look-clause-taken
returns-then-not-look-clause-taken g c = takes_then _ _ _ _ _ (grows_then _ _ _ _ _ _ c.in_ok-length.ensures.grows c.in_ok-look.ensures.grows) c.damage-then-not-look.ensures.taken

pub returns-clause-step : goal.returns-clause-step
returns-clause-step g c =
    let there : c.in-Some.length ≤ length c.piece.new.window.bytes = rw c.in-Some.is at c.in_ok-length.ensures.there in
    step_alone c.args.looks _ _ _ _ c.in_ok-length.ensures.grows c.in-Some.length (rw c.in-Some.is at c.in_ok-length.ensures.settles) there c.walk-walked.result.count
    (ap (λ b. is_walked (take c.in-Some.length b)) (sym c.bytes.ensures.bytes) ∙ sym c.walk-walked.ensures.fine ∙ c.if-walked.false)
    (c.walk-walked.ensures.count ∙ ap (λ b. walked (take c.in-Some.length b)) c.bytes.ensures.bytes) c.goes_on.new.window _ c.in_ok-look.ensures.grows c.in_ok-look.look (omega (arith, c.if-looks-walked.false))
    c.in_ok-look.ensures.settles c.pass.new.self c.gained-2.result (no_not c.in_ok-look.look.fine c.if-not-look.false) c.gained-2.ensures (omega (arith, there, longer _ _ _ _ c.in_ok-look.ensures.grows)) c.pass.ensures.bytes c.pass.ensures.ended

pub returns-clause-taken : goal.returns-clause-taken
returns-clause-taken g c = takes_grown _ _ _ _ _ _ c.in_ok-length.ensures.grows c.in_ok-look.ensures.grows
