-- What is taken of a judged value, made into something.
use Rattle.std.proofs.Common.{◌≡◌, Result, Ok, Err, refl, ap, sym, subst, ◌∙◌}
use Rattle.bson_kinds.specs.Outcome.{◌>>=◌, result_map}
use Rattle.bson_values.specs.declared.de.Fault.{Fault}
use Rattle.bson_values.specs.declared.stop.Stop.{Stop}
use Rattle.bson_laws.specs.Judged.{Reading}
use Rattle.bson_met.specs.Gives.{Reaches}
use Rattle.bson_met.proofs.Refusals.{StopsAs, stops_map}

mapped : {A B C : Type 0} (f : B → C) (r : Reading A) (take : A → Reading B) → (r >>= λ n. result_map f (take n)) ≡ result_map f (r >>= take)
mapped f (Ok x) take = refl
mapped f (Err e) take = refl

pub taken : {A B C : Type 0} (f : B → C) (r : Reading A) (take : A → Reading B) (x : B) → (r >>= take) ≡ Ok x → (r >>= λ n. result_map f (take n)) ≡ Ok (f x)
taken f r take x e = mapped f r take ∙ ap (result_map f) e

pub not_taken : {A B C : Type 0} (f : B → C) (r : Reading A) (take : A → Reading B) (s : Stop Fault) → StopsAs s (r >>= take) → StopsAs s (r >>= λ n. result_map f (take n))
not_taken {C = C} f r take s h = subst (λ (q : Reading C). StopsAs s q) (sym (mapped f r take)) (stops_map s f (r >>= take) h)

-- what is made of an answer is what the code makes of its own
pub reaches_map : {X Y Z : Type 0} (see : X → Y) (f : Y → Z) (r : Result X (Stop Fault)) (x : Reading Y) → Reaches see r x → Reaches (λ v. f (see v)) r (result_map f x)
reaches_map see f (Ok v) x h = ap (result_map f) h
reaches_map see f (Err s) x h = stops_map s f x h
