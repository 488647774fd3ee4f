-- What contracts see of a refusal on its way out. Source: this library's own errors.
use Rattle.std.specs.Prelude.{◌≡◌, [], ◌∷◌, ◌++◌, map, reverse, Option, Some, None}
use Rattle.bson_kinds.specs.Text.{Utf8}
use Rattle.bson_values.specs.Refusal.{Refusal, Path, Segment, at_key, with_path, Failure, no_memory}
use Rattle.bson_values.specs.PathView.{segment_view}
use Rattle.bson_values.specs.declared.stop.Refused as code
use Rattle.bson_values.specs.declared.stop.Stop.{Stop}
use Rattle.bson_values.specs.declared.stop.Stop.TheVariants.{Refused, NoMemory}

abbrev pub segments_out : {E : Type 0} → code.Refused E → Path
segments_out r = map segment_view r.segments.items

-- The refusal, where there is one: the segments come from the innermost outwards, the path from the outermost inwards.
abbrev pub stop_view : {E F : Type 0} → (E → F) → Stop E → Option (Refusal F)
stop_view fault_view NoMemory = None
stop_view fault_view (Refused r) = Some (record { path = reverse (segments_out r.value); fault = fault_view r.value.fault })

-- a fault of the value itself, or out of memory
abbrev pub IsRefusedHere : {E : Type 0} → E → Stop E → Type 0
IsRefusedHere e NoMemory = Unit {0}
IsRefusedHere e (Refused r) = (r.value.fault ≡ e) × (segments_out r.value ≡ [])

abbrev pub IsOutOfMemory : {E : Type 0} → Stop E → Type 0
IsOutOfMemory NoMemory = Unit {0}
IsOutOfMemory (Refused r) = ⊥

-- the same fault with one more segment, or out of memory
abbrev pub IsUnder : {E : Type 0} → Segment → Stop E → Stop E → Type 0
IsUnder segment old NoMemory = Unit {0}
IsUnder segment NoMemory (Refused r) = ⊥
IsUnder segment (Refused r) (Refused s) = (s.value.fault ≡ r.value.fault) × (segments_out s.value ≡ segments_out r.value ++ segment ∷ [])

-- the same at a key
abbrev pub IsUnderKey : {E : Type 0} → Utf8 → Stop E → Stop E → Type 0
IsUnderKey key = IsUnder (at_key key)

-- the failure is the refusal, with its path; or out of memory
abbrev pub IsPlaced : {F : Type 0} → Option (Refusal F) → Failure F → Type 0
IsPlaced None f = f ≡ no_memory
IsPlaced (Some r) no_memory = Unit {0}
IsPlaced (Some r) f = f ≡ with_path r
