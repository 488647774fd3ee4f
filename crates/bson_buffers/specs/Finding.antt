-- The document at a place of a file of documents. Source: bsonspec.org, version 1.1, `document`.
use Rattle.std.specs.Prelude.{◌≡◌, ◌+◌, ◌≤◌, ℕ, length, take, drop}
use Rattle.bson_kinds.specs.Text.{Bytes}
use Rattle.bson_rawdoc.specs.Cut.{Cut, whole, broken_at, with_piece, cut_from}
use Rattle.bson_buffers.specs.declared.finding.Found.{Found}
use Rattle.bson_buffers.specs.declared.finding.Found.TheVariants.{Document, End, Broken}

-- what is left of a file from a place on, cut into documents
abbrev pub left_at : (file : Bytes) → (place : ℕ) → Cut
left_at file place = cut_from place (drop place file)

-- At the place there is a document of so many bytes, the first of what is left; behind it what is left goes on.
pub record IsDocument (file : Bytes) (place size : ℕ) : Type 0 where
  pub least : 5 ≤ size
  pub within : place + size ≤ length file
  pub first : left_at file place ≡ with_piece (take size (drop place file)) (left_at file (place + size))

-- No document is left at the place, and the file is not broken there.
abbrev pub IsEnd : (file : Bytes) → (place : ℕ) → Type 0
IsEnd file place = left_at file place ≡ whole

-- The file is broken at the place.
abbrev pub IsBroken : (file : Bytes) → (place : ℕ) → Type 0
IsBroken file place = left_at file place ≡ broken_at place

-- This is what is at the place.
abbrev pub IsFound : (file : Bytes) → (place : ℕ) → Found → Type 0
IsFound file place (Document size) = IsDocument file place size
IsFound file place End = IsEnd file place
IsFound file place Broken = IsBroken file place
