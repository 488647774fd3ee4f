use Rattle.bson_reserved.proofs.Ends.{map_ends}
use Rattle.bson_reserved.proofs.lists.base64_parts.Goals as goal

pub returns-clause-value : goal.returns-clause-value
returns-clause-value c =
    rw (← c.in_ok-text.ensures.taken, ← c.in_ok-value.ensures.taken, ← c.in_ok-digits.ensures.taken, ← c.in_ok-subtype_of_text.ensures, c.end_as.ensures.taken)
    (map_ends _ _ _)
