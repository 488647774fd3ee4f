use Rattle.std.proofs.Common.{◌+◌, ◌≤◌, ap, arith, length}
use Rattle.bson_salvaging.proofs.Finds.{goes_over, goes_seen}
use Rattle.bson_salvaging.proofs.Windows.{longer, takes_then, takes_grown, reach}
use Rattle.bson_salvaging.proofs.finding.goes_on.Goals as goal

pub returns-then-bytes-at-clause-settles : goal.returns-then-bytes-at-clause-settles
returns-then-bytes-at-clause-settles g c =
    let here : c.args.at ≤ length c.fill.new.self.bytes = omega (arith, c.requires, longer _ _ _ _ c.in_ok-fill.ensures.grows) in
    let all : length c.fill.new.self.bytes ≤ c.args.at = omega (arith, c.if-bytes-at.true, ap length c.bytes.ensures.bytes) in
    goes_over c.fill.new.self c.args.at c.args.looks here all
    (reach c.fill.new.self c.saturating_add.result (c.args.at + 1) (λ h. omega (arith, h, c.saturating_add.ensures, c.bytes.ensures.bounded, ap length c.bytes.ensures.bytes)) c.in_ok-fill.ensures.enough)

pub returns-in_err-seen-clause-taken : goal.returns-in_err-seen-clause-taken
returns-in_err-seen-clause-taken g c = takes_then _ _ _ _ _ c.in_ok-fill.ensures.grows c.in_err-seen.ensures.taken

pub returns-clause-settles : goal.returns-clause-settles
returns-clause-settles g c =
    goes_seen c.see.new.window c.args.at c.args.looks c.in_ok-seen.seen c.is_some.result
    (omega (arith, c.if-bytes-at.false, ap length c.bytes.ensures.bytes, longer _ _ _ _ c.in_ok-seen.ensures.grows)) c.in_ok-seen.ensures.settles c.is_some.ensures

pub returns-clause-taken : goal.returns-clause-taken
returns-clause-taken g c = takes_grown _ _ _ _ _ _ c.in_ok-fill.ensures.grows c.in_ok-seen.ensures.grows
