-- A source and a sink before and after a call. Source: std's `Read` and `Write`.
use Rattle.std.specs.Prelude.{ℕ}
use Rattle.std.specs.declared.option.Option.{Option}
use Rattle.std.specs.Io.KnownBytes.{Consumes, IsAtEnd}
use Rattle.std.specs.Prelude.{◌≡◌, ◌≤◌, length}
use Rattle.bson_base.specs.Sound.{max_bytes}
use Rattle.bson_kinds.specs.Text.{Bytes}

-- a source: the bytes that were left, where it tells them, and how often it failed
pub record SourceChange : Type 0 where
  pub before : Option Bytes
  pub after : Option Bytes
  pub faults_before : ℕ
  pub faults_after : ℕ

-- a sink: for how many more bytes it had room before the call, where it tells that, the bytes that were written, where it tells them, and how often it failed
pub record SinkChange : Type 0 where
  pub room : Option ℕ
  pub before : Option Bytes
  pub after : Option Bytes
  pub faults_before : ℕ
  pub faults_after : ℕ

abbrev pub source_change : {S : Type 0} → (S → Option Bytes) → (S → ℕ) → S → S → SourceChange
source_change left faults old new = record { before = left old; after = left new; faults_before = faults old; faults_after = faults new }

abbrev pub sink_change : {S : Type 0} → (S → Option Bytes) → (S → Option ℕ) → (S → ℕ) → S → S → SinkChange
sink_change written room faults old new = record { room = room old; before = written old; after = written new; faults_before = faults old; faults_after = faults new }

-- The source was read to its end, and these bytes came, at most as many as a document may have; no call on it failed.
pub record ReadAs (input : SourceChange) (bytes : Bytes) : Type 0 where
  pub taken : Consumes input.before input.after bytes
  pub ended : IsAtEnd input.after
  pub most : length bytes ≤ max_bytes
  pub quiet : input.faults_after ≡ input.faults_before
