-- One step after another, where each may refuse, and the first of two that is there. Source: std's `Result` and `Option`.
use Rattle.std.specs.Prelude.{Option, Some, None, Result, Ok, Err}

infixl 10 ◌>>=◌
-- the second step on what the first gives, or the first refusal
abbrev pub ◌>>=◌ : {A B E : Type 0} → Result A E → (A → Result B E) → Result B E
(Ok x) >>= f = f x
(Err e) >>= f = Err e

-- what a step gives, seen by a function
abbrev pub result_map : {A B E : Type 0} → (A → B) → Result A E → Result B E
result_map f (Ok x) = Ok (f x)
result_map f (Err e) = Err e

-- the first of two that is there
abbrev pub or_else : {A : Type 0} → Option A → Option A → Option A
or_else (Some x) o = Some x
or_else None o = o
