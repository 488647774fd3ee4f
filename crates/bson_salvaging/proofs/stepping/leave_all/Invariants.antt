use Rattle.std.proofs.Common.{◌≡◌, ◌-◌, ◌<◌, ◌^◌, length}
use Rattle.bson_salvaging.proofs.Steps.{IsLeaving}
use Rattle.bson_salvaging.proofs.stepping.leave_all.Given as goal

-- So far all bytes were passed that came; some are held, and no call on the source has failed.
abbrev pub invariant-loop-next : goal.invariant-loop-next
invariant-loop-next g l = record {
  leaving : IsLeaving l.initial.window l.window (g.S.Source.left l.initial.source) (g.S.Source.left l.source) l.count;
  some : 0 < length l.window.bytes;
  kept : g.S.Source.faults l.source ≡ g.S.Source.faults l.initial.source;
}

abbrev pub decreases-loop-next : goal.decreases-loop-next
decreases-loop-next g l = 2 ^ 64 - l.count
