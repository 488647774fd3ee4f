use Rattle.std.proofs.Common.{◌+◌, ◌-◌, ◌<◌, List}
use Rattle.std.specs.BTreeSet.{btree_set_len}
use Rattle.bson_evolve_laws.specs.First.{most_pairs, Pair}
use Rattle.bson_evolve_check.specs.Searching.{pending_list, pending_of, GoesOn, Searches}
use Rattle.bson_evolve_check.proofs.Few.{all_pairs, not_met}
use Rattle.bson_evolve_check.proofs.search.first_fault.Given as goal

-- what is left to be searched gives what the whole search gives, and the set has as many as were met
abbrev pub invariant-loop-waiting : goal.invariant-loop-waiting
invariant-loop-waiting l =
    (pairs : List Pair) × GoesOn (all_pairs l.old l.new) pairs l.parts l.met l.route.items (pending_of l.waiting.items) × Searches l.old l.new pairs (pending_list l.route.items (pending_of l.waiting.items)) × (not_met l.old l.new pairs + btree_set_len l.met < most_pairs l.old l.new)

abbrev pub decreases-loop-waiting : goal.decreases-loop-waiting
decreases-loop-waiting l = most_pairs l.old l.new - btree_set_len l.met
