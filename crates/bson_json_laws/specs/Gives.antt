-- What a call that may be refused gives. Source: this library's own errors.
use Rattle.std.specs.Prelude.{◌≡◌, Option, Some, None, Result, Ok, Err}
use Rattle.bson_values.specs.Refusal.{Refusal, here}
use Rattle.bson_values.specs.Stop.{stop_view}
use Rattle.bson_values.specs.declared.stop.Stop.{Stop}
use Rattle.bson_json_laws.specs.FailureView.{failure_view}
use Rattle.bson_json_laws.specs.declared.failure.Failure.{Failure}

-- the answer is this refusal; nothing is said where memory ran out
abbrev pub RefusesAs : {Y F : Type 0} → Option (Refusal F) → Result Y (Refusal F) → Type 0
RefusesAs None answer = Unit {0}
RefusesAs (Some r) answer = answer ≡ Err r

-- a refusal of the value itself for this fault, or out of memory
abbrev pub IsHere : {F : Type 0} → F → Option (Refusal F) → Type 0
IsHere fault None = Unit {0}
IsHere fault (Some r) = r ≡ here fault

-- the call gives what is answered, seen so, or its refusal; or memory ran out
abbrev pub Gives : {X Y E F : Type 0} → (X → Y) → (E → F) → Result X (Failure E) → Result Y (Refusal F) → Type 0
Gives see tell (Ok x) answer = answer ≡ Ok (see x)
Gives see tell (Err f) answer = RefusesAs (failure_view tell f) answer

-- the same inside a document, with the path so far
abbrev pub Reaches : {X Y E F : Type 0} → (X → Y) → (E → F) → Result X (Stop E) → Result Y (Refusal F) → Type 0
Reaches see tell (Ok x) answer = answer ≡ Ok (see x)
Reaches see tell (Err s) answer = RefusesAs (stop_view tell s) answer

-- the fault is this; nothing is said where memory ran out
abbrev pub IsFaultOf : {F : Type 0} → Option (Refusal F) → Option (Refusal F) → Type 0
IsFaultOf None fault = Unit {0}
IsFaultOf (Some r) fault = fault ≡ Some r

-- the call passes where there is no fault, and else is refused for it; or memory ran out
abbrev pub Passes : {F : Type 0} → Result (Unit {0}) (Failure F) → Option (Refusal F) → Type 0
Passes (Ok u) fault = fault ≡ None
Passes (Err f) fault = IsFaultOf (failure_view (λ e. e) f) fault

-- the same inside a document, with the path so far
abbrev pub PassesInside : {F : Type 0} → Result (Unit {0}) (Stop F) → Option (Refusal F) → Type 0
PassesInside (Ok u) fault = fault ≡ None
PassesInside (Err s) fault = IsFaultOf (stop_view (λ e. e) s) fault
