use Rattle.std.proofs.Common.{◌≡◌, List, reverse}
use Rattle.std.specs.BTreeSet.{btree_set_len}
use Rattle.bson_evolve_laws.specs.First.{unmet, Pair}
use Rattle.bson_evolve_check.specs.Numbering.{AreGood}
use Rattle.bson_evolve_check.specs.Placing.{tables_in}
use Rattle.bson_evolve_check.specs.Searching.{pending_list, pending_of, AreKnown, GoesOn}
use Rattle.bson_evolve_check.specs.declared.step.Way.{Way}
use Rattle.bson_evolve_check.proofs.search.next_unmet.Given as goal

-- pairs that were met already were passed over
abbrev pub invariant-loop-next : goal.invariant-loop-next
invariant-loop-next l = record {
  good : AreGood l.parts;
  known : AreKnown (tables_in l.parts.tables) (reverse (pending_of l.waiting.items));
  goes : (all pairs : List Pair) (route : List Way) → GoesOn all pairs l.initial.parts l.initial.met route (pending_of l.initial.waiting.items)
      → GoesOn all pairs l.parts l.met route (pending_of l.waiting.items) × (unmet pairs (pending_list route (pending_of l.initial.waiting.items)) ≡ unmet pairs (pending_list route (pending_of l.waiting.items)));
  many : btree_set_len l.met ≡ btree_set_len l.initial.met;
}

abbrev pub decreases-loop-next : goal.decreases-loop-next
decreases-loop-next l = goal.left-loop-next l
