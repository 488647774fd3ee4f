use Rattle.std.proofs.Common.{◌+◌, ◌-◌, ◌<◌, List}
use Rattle.std.specs.BTreeSet.{btree_set_len}
use Rattle.bson_evolve_laws.specs.First.{most_pairs, Pair}
use Rattle.bson_evolve_check.specs.Searching.{pending_list, pending_of, GoesOn}
use Rattle.bson_evolve_check.proofs.Few.{all_pairs, not_met}
use Rattle.bson_evolve_differences.specs.Views.{differences_view}
use Rattle.bson_evolve_differences.proofs.Going.{Finds}
use Rattle.bson_evolve_differences.proofs.search.all_differences.Given as goal

-- what is found from here on comes behind what was found, and the set has as many as were met
abbrev pub invariant-loop-found : goal.invariant-loop-found
invariant-loop-found l =
    (pairs : List Pair) × GoesOn (all_pairs l.old l.new) pairs l.parts l.met l.route.items (pending_of l.waiting.items) × Finds l.old l.new (differences_view l.found.items) pairs (pending_list l.route.items (pending_of l.waiting.items)) × (not_met l.old l.new pairs + btree_set_len l.met < most_pairs l.old l.new)

abbrev pub decreases-loop-found : goal.decreases-loop-found
decreases-loop-found l = most_pairs l.old l.new - btree_set_len l.met
