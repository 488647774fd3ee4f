-- Files without damage. Source: bsonspec.org, version 1.1, `document`.
use Rattle.std.specs.Prelude.{◌≡◌, true, List, [], ◌∷◌, length, Some}
use Rattle.bson_kinds.specs.Text.{Bytes}
use Rattle.bson_rawdoc.specs.Cut.{piece_length}
use Rattle.bson_salvaging.specs.Looks.{is_walked}

-- These are the bytes of a document: they announce their number, and it has no fault in its frame and its elements.
pub record IsUndamaged (document : Bytes) : Type 0 where
  pub told : piece_length document ≡ Some (length document)
  pub walked : is_walked document ≡ true

abbrev pub AreUndamaged : List Bytes → Type 0
AreUndamaged [] = Unit {0}
AreUndamaged (d ∷ documents) = IsUndamaged d × AreUndamaged documents
