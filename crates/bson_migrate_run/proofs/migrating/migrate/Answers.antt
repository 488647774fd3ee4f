use Rattle.std.proofs.Common.{◌≡◌, ◌<◌, ℕ, zero, suc, List, [], ◌∷◌, length, get_or, refl, arith}
use Rattle.bson_migrate_run.proofs.Again.{migrated_again}
use Rattle.bson_migrate_run.proofs.migrating.migrate.Goals as goal

same_at : (bs : List ℕ) (k d : ℕ) → k < length bs → get_or bs k d ≡ get_or bs k 0
same_at [] k d lt = absurd (omega arith)
same_at (b ∷ bs) zero d lt = refl
same_at (b ∷ bs) (suc k) d lt = same_at bs k d (omega arith)

pub returns-clause-again : goal.returns-clause-again
returns-clause-again c = λ expected. migrated_again c.args.shape.now c.args.file.now c.known.ensures.shape expected (λ k d lt. omega (arith, c.type_inv.file k, same_at c.args.file.now k d lt)) c.migrate_each.result c.migrate_each.ensures
