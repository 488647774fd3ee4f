-- Sources and sinks: what they tell of their bytes, and what a failure shows.
-- What a source has left and what a sink has written are `Some` bytes where they are told, else `None`. Source: std's `Read` and `Write`.
use Rattle.std.specs.Prelude.{◌≡◌, ℕ, ◌+◌, ◌-◌, ◌^◌, ◌<◌, ◌≤◌, min, List, length, take, Result, Ok, OnErr, OnOk, ⊤, Some, None, MatchResult}
use Rattle.std.specs.declared.option.Option.{Option}
use Rattle.std.specs.Io.KnownBytes.{Appends, Consumes}

-- the last value of a count of faults, that of a u64
abbrev pub last_count : ℕ
last_count = 2 ^ 64 - 1

-- The count rose.
abbrev pub Rose : ℕ → ℕ → Type 0
Rose before now = before < now

-- The count rose, or is at its last value.
abbrev pub RoseOrLast : ℕ → ℕ → Type 0
RoseOrLast before now = min (before + 1) last_count ≤ now

-- A source's count never falls: it rose where the call failed, and is as before where it did not.
pub record HasCause {T E : Type 0} (before now : ℕ) (result : Result T E) : Type 0 where
  pub later : before ≤ now
  pub failed : OnErr result (Rose before now)
  pub kept : OnOk result (now ≡ before)

-- A sink's count never falls: it rose or is at its last value where the call failed, and is as before where it did not.
pub record HasSinkCause {T E : Type 0} (before now : ℕ) (result : Result T E) : Type 0 where
  pub later : before ≤ now
  pub failed : OnErr result (RoseOrLast before now)
  pub kept : OnOk result (now ≡ before)

-- A call that has nothing to move answers Ok(0), and neither the bytes nor the count change.
pub record IsIdle {E : Type 0} (old new : Option (List ℕ)) (before now : ℕ) (result : Result ℕ E) : Type 0 where
  pub answer : result ≡ Ok 0
  pub same : new ≡ old
  pub count : now ≡ before

-- A write uses up as much of the told room as it took bytes, and fails only where there was none.
abbrev pub UsesRoom : {E : Type 0} → Option ℕ → Option ℕ → Result ℕ E → Type 0
UsesRoom None new result = ⊤
UsesRoom (Some r) new result = MatchResult result (λ n. new ≡ Some (r - n)) (λ _. (r ≡ 0) × (new ≡ Some 0))

-- There is told room for these bytes.
abbrev pub FitsIn : Option ℕ → List ℕ → Type 0
FitsIn None bytes = ⊥
FitsIn (Some r) bytes = length bytes ≤ r

-- Some first part of what was to be written was written, and nothing else.
pub record AppendsPrefix (old new : Option (List ℕ)) (due : List ℕ) : Type 0 where
  pub count : ℕ
  pub within : count ≤ length due
  pub grown : Appends old new (take count due)

-- Some bytes were taken off the front of what was left.
pub record Takes (old new : Option (List ℕ)) : Type 0 where
  pub bytes : List ℕ
  pub taken : Consumes old new bytes

-- At most so many bytes were taken off the front of what was left.
pub record TakesAtMost (most : ℕ) (old new : Option (List ℕ)) : Type 0 where
  pub bytes : List ℕ
  pub taken : Consumes old new bytes
  pub within : length bytes ≤ most

-- Exactly so many bytes were taken off the front of what was left.
pub record TakesExactly (count : ℕ) (old new : Option (List ℕ)) : Type 0 where
  pub bytes : List ℕ
  pub taken : Consumes old new bytes
  pub all : length bytes ≡ count
