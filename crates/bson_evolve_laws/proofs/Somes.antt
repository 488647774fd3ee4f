-- Values that there are, of other ones that there are.
use Rattle.std.proofs.Common.{Option, Some, None, refl}
use Rattle.std.specs.Prelude.{IsSome, option_map, option_and_then}

pub mapped : {A B : Type 0} (f : A → B) (o : Option A) → IsSome o → IsSome (option_map f o)
mapped f None h = absurd cc
mapped f (Some x) h = refl

pub both_some : {A B C : Type 0} (f : A → B → C) (o : Option A) (r : Option B) → IsSome o → IsSome r → IsSome (option_and_then (λ v. option_map (f v) r) o)
both_some f None r h k = absurd cc
both_some f (Some x) r h k = mapped (f x) r k

pub then_some : {A B C D : Type 0} (f : A → B → C → D) (o : Option A) (p : Option B) (r : Option C) → IsSome o → IsSome p → IsSome r
    → IsSome (option_and_then (λ k. option_and_then (λ v. option_map (f k v) r) p) o)
then_some f None p r h k l = absurd cc
then_some f (Some x) p r h k l = both_some (f x) p r k l

pub from_mapped : {A B : Type 0} (f : A → B) (o : Option A) → IsSome (option_map f o) → IsSome o
from_mapped f None h = absurd cc
from_mapped f (Some x) h = refl
