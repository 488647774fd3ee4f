-- A step of a walk.
use Rattle.std.proofs.Common.{◌≡◌, ℕ, ◌<◌, [], ◌∷◌, length, get_or, take, drop, ◌-◌, Some, Result, Ok, Err, ap, sym, subst, arith}
use Rattle.std.specs.Borrow.{Bor}
use Rattle.std.proofs.lemmas.List.{take_all}
use Rattle.bson_kinds.specs.Text.{Bytes}
use Rattle.bson_kinds.specs.Outcome.{result_map}
use Rattle.bson_faults.specs.declared.raw.Error.{Error}
use Rattle.bson_rawdoc.specs.Walk.{Element, element_at}
use Rattle.bson_rawdoc.specs.Next.{IsStep}
use Rattle.bson_rawdoc.proofs.Walks.{walk_ok, walk_err}

pub step_at : (b : ℕ) (after : Bytes) (r : Result (Element × Bor Bytes) Error) → result_map (λ x. (x.0, x.1.now)) r ≡ element_at b after → IsStep (b ∷ after) (Some r)
step_at b after (Ok x) e = walk_ok b after (x.0, x.1.now) (sym e)
step_at b after (Err f) e = walk_err b after f (sym e)

front : (bs : Bytes) → 0 < length bs → get_or bs 0 0 ∷ take (length bs - 1) (drop 1 bs) ≡ bs
front [] h = absurd (omega arith)
front (b ∷ bs) h = ap (λ (x : Bytes). b ∷ x) (take_all (length (b ∷ bs) - 1) bs (omega arith))

pub step_of : (bs : Bytes) (r : Result (Element × Bor Bytes) Error) → 0 < length bs → result_map (λ x. (x.0, x.1.now)) r ≡ element_at (get_or bs 0 0) (take (length bs - 1) (drop 1 bs)) → IsStep bs (Some r)
step_of bs r h e = subst (λ x. IsStep x (Some r)) (front bs h) (step_at (get_or bs 0 0) (take (length bs - 1) (drop 1 bs)) r e)
