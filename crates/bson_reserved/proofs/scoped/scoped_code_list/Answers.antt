use Rattle.std.proofs.Common.{arith}
use Rattle.bson_reserved.specs.Prover.Sized.{parts_size, IsWithin}
use Rattle.bson_reserved.proofs.Ends.{map_ends, held_ends}
use Rattle.bson_reserved.proofs.scoped.scoped_code_list.Goals as goal

pub returns-clause-value : goal.returns-clause-value
returns-clause-value c =
    rw (← c.in_ok-first.ensures.taken, ← c.in_ok-code.ensures.taken, ← c.in_ok-second.ensures.taken, ← c.in_ok-scope.ensures.taken, c.end_as.ensures.taken)
    (map_ends _ _ _)

pub returns-clause-smaller : goal.returns-clause-smaller
returns-clause-smaller c =
    rw c.end_as.ensures.taken
    (held_ends (λ p. IsWithin (parts_size c.args.list.now) p.1.now) _ (omega (arith, c.in_ok-first.ensures.size, c.in_ok-code.ensures.size, c.in_ok-second.ensures.size, c.in_ok-scope.ensures.size)) _)
