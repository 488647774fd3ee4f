-- What the calls give of an edit. Source: this library's own types.
use Rattle.std.specs.Prelude.{◌≡◌, [], ◌++◌, reverse, Bool, true, false, Option, Some, None, Result, Ok, Err, string_bytes}
use Rattle.bson_kinds.specs.Text.{Bytes, Utf8}
use Rattle.bson_base.specs.Tree.{element}
use Rattle.bson_rawdoc.specs.Walk.{Element}
use Rattle.bson_values.specs.Refusal.{Refusal}
use Rattle.bson_values.specs.Stop.{segments_out}
use Rattle.bson_values.specs.declared.stop.Stop.{Stop}
use Rattle.bson_values.specs.declared.stop.Stop.TheVariants as stops
use Rattle.bson_editing.specs.Edited as edits
use Rattle.bson_editing.specs.Edited.{Fault, Editing, Outcome}
use Rattle.bson_editing.specs.declared.changes.NewValue.{NewValue}
use Rattle.bson_editing.specs.declared.fault.EditFault.{EditFault}
use Rattle.bson_editing.specs.declared.fault.EditFault.TheVariants as faults

abbrev pub new_value : NewValue → edits.Value
new_value v = record { kind = v.kind; bytes = v.bytes.items }

-- what a change gives, where its refusals are told so
abbrev pub IsChange : {X E : Type 0} → (Tells : X → E → Type 0) → Result edits.Value X → Result NewValue E → Type 0
IsChange Tells (Ok v) (Ok made) = v ≡ new_value made
IsChange Tells (Err x) (Err e) = Tells x e
IsChange Tells (Ok v) (Err e) = ⊥
IsChange Tells (Err x) (Ok made) = ⊥

-- the fault that an error tells
abbrev pub IsFault : {X E : Type 0} → (Tells : X → E → Type 0) → EditFault E → Fault X → Type 0
IsFault Tells (faults.Bytes e) fault = fault ≡ edits.faulty_bytes e
IsFault Tells (faults.Taken name) fault = fault ≡ edits.taken (string_bytes name)
IsFault Tells faults.TooLong fault = fault ≡ edits.too_long
IsFault Tells faults.TooDeep fault = fault ≡ edits.too_deep
IsFault {X} Tells (faults.Unchanged e) fault = (x : X) × (fault ≡ edits.unchanged x) × Tells x e

-- the error tells the refusal, with its path; nothing is said where memory ran out
abbrev pub IsRefusal : {X E : Type 0} → (Tells : X → E → Type 0) → Stop (EditFault E) → Refusal (Fault X) → Type 0
IsRefusal Tells stops.NoMemory r = Unit {0}
IsRefusal Tells (stops.Refused s) r = (reverse (segments_out s.value) ≡ r.path) × IsFault Tells s.value.fault r.fault

abbrev pub IsTold : {X E A : Type 0} → (Tells : X → E → Type 0) → Stop (EditFault E) → Editing X A → Type 0
IsTold Tells stops.NoMemory answer = Unit {0}
IsTold Tells (stops.Refused s) (Ok x) = ⊥
IsTold Tells (stops.Refused s) (Err r) = IsRefusal Tells (stops.Refused s) r

-- A call that appends to a buffer appends these bytes, or is refused so, unless memory ran out.
abbrev pub Appends : {X E : Type 0} → (Tells : X → E → Type 0) → (old new : Bytes) → Result (Unit {0}) (Stop (EditFault E)) → Editing X Bytes → Type 0
Appends Tells old new (Ok u) (Ok bytes) = new ≡ old ++ bytes
Appends Tells old new (Ok u) (Err r) = ⊥
Appends Tells old new (Err stop) answer = IsTold Tells stop answer

-- the bytes of what becomes of an element
abbrev pub outcome_bytes : Option Element → Bytes
outcome_bytes None = []
outcome_bytes (Some e) = element e.kind e.key e.value

-- A step was for the element: what becomes of it is put behind the bytes that were pending before it. Or none was, and the element is pending, too.
abbrev pub IsTaken : {X E : Type 0} → (Tells : X → E → Type 0) → (pending : Bytes) → Element → (old new : Bytes) → Result Bool (Stop (EditFault E)) → Outcome X → Type 0
IsTaken Tells pending e old new (Ok true) (Ok o) = new ≡ (old ++ pending) ++ outcome_bytes o
IsTaken Tells pending e old new (Ok false) (Ok o) = (new ≡ old) × (o ≡ Some e)
IsTaken Tells pending e old new (Ok b) (Err r) = ⊥
IsTaken Tells pending e old new (Err stop) outcome = IsTold Tells stop outcome

abbrev pub IsNameFault : {E : Type 0} → (name : Utf8) → EditFault E → Type 0
IsNameFault name (faults.Taken given) = string_bytes given ≡ name
IsNameFault name fault = ⊥

-- the refusal of a new name that an element has, without a path; or out of memory
abbrev pub IsNameTaken : {E : Type 0} → (name : Utf8) → Stop (EditFault E) → Type 0
IsNameTaken name stops.NoMemory = Unit {0}
IsNameTaken name (stops.Refused s) = (segments_out s.value ≡ []) × IsNameFault name s.value.fault
