use Rattle.std.proofs.Common.{subst, ◌∙◌}
use Rattle.std.specs.List.{IsDistinct}
use Rattle.std.specs.Ordering.{eq_by_cmp, nat_cmp}
use Rattle.bson_keys.specs.Hashes.{second_hash_of}
use Rattle.bson_keys.proofs.Distinct.{hashes_apart}
use Rattle.bson_keys.proofs.met.have_unlike_second_hashes.Goals as goal

pub returns-in-Ok : goal.returns-in-Ok
returns-in-Ok c = λ h. hashes_apart second_hash_of _ (subst (IsDistinct (eq_by_cmp nat_cmp)) (c.deref_mut.ensures.value ∙ c.in-Ok.ensures) (c.are_unlike.ensures h))
