use Rattle.std.proofs.Common.{◌≡◌, ◌+◌, ◌-◌, ◌*◌}
use Rattle.bson_salvaging.specs.Looks.{within, look_along, look_deep}
use Rattle.bson_salvaging.proofs.looking.+look.Given as goal

abbrev pub decreases-look_deep : goal.decreases-look_deep
decreases-look_deep l = 2 * l.levels

abbrev pub decreases-look_within : goal.decreases-look_within
decreases-look_within l = 2 * l.levels + 1

-- the look at what is left of the elements is that at all of them
abbrev pub invariant-look_deep-loop-element : goal.invariant-look_deep-loop-element
invariant-look_deep-loop-element l =
    (goal.iterator-look_deep-loop-element).can_next l.element-iterator × (goal.iterator-look_deep-loop-element).is_finite l.element-iterator
    × (look_along (within (look_deep (l.levels - 1))) l.left l.element-iterator ≡ look_deep l.levels l.looks l.bytes)
