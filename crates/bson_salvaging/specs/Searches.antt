-- A window that moves on. For the contracts of functions inside this crate and their proofs. Source: this library's own programs.
use Rattle.std.specs.Prelude.{◌≡◌, ◌≤◌, ℕ, Bool, true, false, length, drop, Option}
use Rattle.bson_kinds.specs.Text.{Bytes}
use Rattle.bson_salvaging.specs.Salvage as salvage
use Rattle.bson_salvaging.specs.Window.{Held, Grows, Settles}
use Rattle.bson_salvaging.specs.declared.finding.Found.{Found}
use Rattle.bson_salvaging.specs.declared.stepping.Step.{Step}

-- So many bytes at the front were passed.
pub record Passes (n : ℕ) (old new : Held) : Type 0 where
  pub within : n ≤ length old.bytes
  pub bytes : new.bytes ≡ drop n old.bytes
  pub ended : new.ended ≡ old.ended

-- Bytes came, and then those before the first place that counts were passed.
pub record Searches (looks : ℕ) (old new : Held) (left left' : Option Bytes) (found : Found) : Type 0 where
  pub mid : Held
  pub grows : Grows old mid left left'
  pub passes : Passes found.count mid new
  pub settles : Settles (salvage.search looks) mid found

-- Bytes came, and then a stretch was passed that is left out.
pub record Leaves (step : Bytes → Step) (old new : Held) (left left' : Option Bytes) (s : Step) : Type 0 where
  pub mid : Held
  pub grows : Grows old mid left left'
  pub passes : Passes s.count mid new
  pub settles : Settles step mid s
  pub leaves : s.keeps ≡ false

-- Bytes came, and the next stretch of them is known. One that is left out was passed.
abbrev pub Passed : Bool → ℕ → Held → Held → Type 0
Passed true n mid new = (new ≡ mid) × (n ≤ length mid.bytes)
Passed false n mid new = Passes n mid new

pub record IsStep (looks : ℕ) (old new : Held) (left left' : Option Bytes) (s : Step) : Type 0 where
  pub mid : Held
  pub grows : Grows old mid left left'
  pub passed : Passed s.keeps s.count mid new
  pub settles : Settles (salvage.step looks) mid s
