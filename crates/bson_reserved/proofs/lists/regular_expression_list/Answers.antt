use Rattle.bson_reserved.proofs.Ends.{map_ends}
use Rattle.bson_reserved.proofs.lists.regular_expression_list.Goals as goal

pub returns : goal.returns
returns c =
    rw (← c.in_ok-body.ensures.taken, ← c.in_ok-first.ensures.taken, ← c.in_ok-pattern.ensures.taken, ← c.in_ok-second.ensures.taken, ← c.in_ok-options.ensures.taken, c.end_as.ensures.taken)
    (map_ends _ _ _)
