-- What contracts see of an output buffer: its bytes, and how many more it takes without memory. Source: this library's own types.
use Rattle.std.specs.Prelude.{ℕ, ◌+◌, ◌≤◌, ◌≡◌, List, ◌++◌, length, take, drop}

-- the bytes so far, and how many more bytes can be appended without taking memory
pub record Output : Type 0 where
  pub bytes : List ℕ
  pub spare : ℕ

-- bytes with a piece from a place on, in place of as many that were there
abbrev pub patched : List ℕ → ℕ → List ℕ → List ℕ
patched bytes at piece = take at bytes ++ piece ++ drop (at + length piece) bytes

-- A piece was appended, at one step for each of its bytes. The spare room fell by at most its length.
pub record Appended (old new : Output) (piece : List ℕ) (before now : ℕ) : Type 0 where
  pub bytes : new.bytes ≡ old.bytes ++ piece
  pub spare : old.spare ≤ new.spare + length piece
  pub steps : now ≡ before + length piece

-- A piece replaced the bytes at a place, at one step for each of its bytes. No spare room was lost.
pub record Patched (old new : Output) (at : ℕ) (piece : List ℕ) (before now : ℕ) : Type 0 where
  pub bytes : new.bytes ≡ patched old.bytes at piece
  pub spare : old.spare ≤ new.spare
  pub steps : now ≡ before + length piece

-- The bytes are as they were, no step was taken and no spare room was lost.
pub record Refused (old new : Output) (before now : ℕ) : Type 0 where
  pub bytes : new.bytes ≡ old.bytes
  pub spare : old.spare ≤ new.spare
  pub steps : now ≡ before
