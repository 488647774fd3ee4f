use Rattle.std.proofs.Common.{◌≡◌, ◌++◌, length, map, reverse}
use Rattle.bson_evolve_check.specs.Searching.{pending_at, pending_of}
use Rattle.bson_evolve_check.proofs.search.push_steps.Given as goal

-- the steps that are left are pushed behind those that were
abbrev pub invariant-loop-step : goal.invariant-loop-step
invariant-loop-step l =
    pending_of l.waiting.items ++ reverse (map (pending_at l.level l.next.pending.old.table l.next.pending.new.table) l.steps.items)
    ≡ pending_of l.initial.waiting.items ++ reverse (map (pending_at l.level l.next.pending.old.table l.next.pending.new.table) l.initial.steps.items)

abbrev pub decreases-loop-step : goal.decreases-loop-step
decreases-loop-step l = length l.steps.items
