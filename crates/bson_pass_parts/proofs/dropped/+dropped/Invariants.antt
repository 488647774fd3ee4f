use Rattle.std.proofs.Common.{◌+◌, ◌*◌, ◌-◌}
use Rattle.bson_rawdoc.specs.Node.{node_in, nodes_with}
use Rattle.bson_pass_parts.specs.Free.{ArePassed}
use Rattle.bson_pass_parts.proofs.dropped.+dropped.Given as goal

abbrev pub decreases-is_passed : goal.decreases-is_passed
decreases-is_passed l = 2 * l.levels + 1

abbrev pub decreases-are_passed : goal.decreases-are_passed
decreases-are_passed l = 2 * l.levels

abbrev pub invariant-are_passed-loop-element : goal.invariant-are_passed-loop-element
invariant-are_passed-loop-element l =
    (goal.iterator-are_passed-loop-element).can_next l.element-iterator × (goal.iterator-are_passed-loop-element).is_finite l.element-iterator
    × (ArePassed (nodes_with (node_in (l.levels - 1)) l.element-iterator) → ArePassed (nodes_with (node_in (l.levels - 1)) l.fn.elements))
