use Rattle.bson_salvaging.proofs.Elements.{IsWalking}
use Rattle.bson_salvaging.proofs.looking.walk.Given as goal

abbrev pub invariant-loop-element : goal.invariant-loop-element
invariant-loop-element l = (goal.iterator-loop-element).can_next l.element-iterator × (goal.iterator-loop-element).is_finite l.element-iterator × IsWalking l.bytes l.count l.element-iterator
