use Rattle.std.proofs.Common.{◌≡◌, Some, arith}
use Rattle.std.proofs.lemmas.Grind.{common_steps}
use Rattle.bson_base.specs.Parsed.{bytes_of_digits}
use Rattle.bson_reserved.proofs.Ends.{map_ends}
use Rattle.bson_reserved.proofs.lists.db_pointer_list.Goals as goal

pub returns : goal.returns
returns c =
    let id : bytes_of_digits 12 c.in_ok-digits.digits.now ≡ Some c.in_ok-id.id.0 = grind (arith, common_steps) in
    rw (← c.in_ok-body.ensures.taken, ← c.in_ok-first.ensures.taken, ← c.in_ok-namespace.ensures.taken, ← c.in_ok-second.ensures.taken, ← c.in_ok-value.ensures.taken, ← c.in_ok-digits.ensures.taken, id, c.end_as.ensures.taken)
    (map_ends _ _ _)
