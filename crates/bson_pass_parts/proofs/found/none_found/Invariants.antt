use Rattle.std.proofs.Common.{◌≡◌, ◌≤◌, ◌-◌, length, replicate, None}
use Rattle.bson_pass_parts.proofs.found.none_found.Given as goal

abbrev pub invariant-loop-found : goal.invariant-loop-found
invariant-loop-found l = (length l.found.items ≤ l.count) × (l.found.items ≡ replicate (length l.found.items) None)

abbrev pub decreases-loop-found : goal.decreases-loop-found
decreases-loop-found l = l.count - length l.found.items
