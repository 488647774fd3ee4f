use Rattle.std.proofs.Common.{◌≡◌, length}
use Rattle.bson_kinds.specs.Text.{has_zero}
use Rattle.bson_base.proofs.texts.has_zero.Given as goal

abbrev pub invariant-loop-rest : goal.invariant-loop-rest
invariant-loop-rest l = has_zero l.rest ≡ has_zero l.text

abbrev pub decreases-loop-rest : goal.decreases-loop-rest
decreases-loop-rest l = length l.rest
