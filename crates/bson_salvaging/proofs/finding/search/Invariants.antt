use Rattle.std.proofs.Common.{◌≡◌, ◌-◌, ◌^◌}
use Rattle.bson_salvaging.proofs.Searching.{IsSearching}
use Rattle.bson_salvaging.proofs.finding.search.Given as goal

-- No place that was passed counts, and no call on the source has failed.
abbrev pub invariant-loop-window : goal.invariant-loop-window
invariant-loop-window g l = record {
  searching : IsSearching l.initial.looks l.initial.window l.window (g.S.Source.left l.initial.source) (g.S.Source.left l.source) l.count l.left;
  kept : g.S.Source.faults l.source ≡ g.S.Source.faults l.initial.source;
}

abbrev pub decreases-loop-window : goal.decreases-loop-window
decreases-loop-window g l = 2 ^ 64 - l.count
