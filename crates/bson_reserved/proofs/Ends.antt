-- The end of a list, and what it is accepted as.
use Rattle.std.proofs.Common.{◌≡◌, List, [], ◌∷◌, refl}
use Rattle.std.specs.Prelude.{option_map, IfSome}
use Rattle.bson_values.specs.Value.{Value}
use Rattle.bson_laws.specs.Unwrap.{Part, end_as}

pub map_ends : {A B : Type 0} (view : A → B) (a : A) (list : List (Part Value)) → option_map view (end_as a list) ≡ end_as (view a) list
map_ends view a [] = refl
map_ends view a (p ∷ list) = refl

pub held_ends : {A : Type 0} (P : A → Type 0) (a : A) → P a → (list : List (Part Value)) → IfSome (end_as a list) P
held_ends P a h [] = h
held_ends P a h (p ∷ list) = tt
