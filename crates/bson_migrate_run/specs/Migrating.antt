-- What migrating a file of documents at a shape comes to. Source: bsonspec.org, version 1.1, `document`.
use Rattle.std.specs.Prelude.{◌≡◌, ◌≢◌, ℕ, suc, List, [], ◌∷◌, ◌++◌, Option, Some, None, Result, Ok, Err}
use Rattle.bson_kinds.specs.Text.{Bytes}
use Rattle.bson_rawdoc.specs.Cut.{Cut, cut}
use Rattle.bson_shape.specs.Form.{Form}
use Rattle.bson_tree_recast.specs.declared.error.RecastError.TheVariants.{NoMemory}
use Rattle.bson_tree_recast.specs.Recast.{Recast, writes, unread, unwritten, recast_of, IsRefusal}
use Rattle.bson_migrate_run.specs.declared.migrating.Migration.{Migration}
use Rattle.bson_migrate_run.specs.declared.migrating.MigrateError.{MigrateError}
use Rattle.bson_migrate_run.specs.declared.migrating.MigrateError.TheVariants as errors
use Rattle.bson_migrate_run.specs.declared.migrating.Refused.{Refused}

-- a document that is not recast: its number in the file, counted from 0, and what its recast comes to
pub record NotRecast : Type 0 where
  pub number : ℕ
  pub recast : Recast

-- what a migration comes to
pub data Migrating : Type 0 where
  -- the file is broken at this place
  broken : (place : ℕ) → Migrating
  -- these bytes are written, and these documents are not recast
  migrated : (output : Bytes) → (refused : List NotRecast) → Migrating

-- the bytes that a recast writes
abbrev pub bytes_of : Recast → Bytes
bytes_of (writes bytes) = bytes
bytes_of (unread f) = []
bytes_of (unwritten expected too_long) = []

-- the recast documents, one behind another
abbrev pub outputs : Form → List Bytes → Bytes
outputs s [] = []
outputs s (piece ∷ pieces) = bytes_of (recast_of s piece) ++ outputs s pieces

-- The list with this document in front, where it is not recast; else the list as it is.
abbrev pub listed : (number : ℕ) → Recast → List NotRecast → List NotRecast
listed number (writes bytes) rest = rest
listed number (unread f) rest = record { number = number; recast = unread f } ∷ rest
listed number (unwritten expected too_long) rest = record { number = number; recast = unwritten expected too_long } ∷ rest

-- the documents that are not recast, of those from this number on
abbrev pub not_recast : Form → (number : ℕ) → List Bytes → List NotRecast
not_recast s number [] = []
not_recast s number (piece ∷ pieces) = listed number (recast_of s piece) (not_recast s (suc number) pieces)

abbrev pub migration_by : (break : Option ℕ) → (output : Bytes) → (refused : List NotRecast) → Migrating
migration_by (Some place) output refused = broken place
migration_by None output refused = migrated output refused

abbrev pub migration_of_cut : Form → Cut → Migrating
migration_of_cut s c = migration_by c.broken (outputs s c.pieces) (not_recast s 0 c.pieces)

-- the migration of a file at a shape
abbrev pub migration_of : Form → (file : Bytes) → Migrating
migration_of s file = migration_of_cut s (cut file)

-- a document that is refused, as one that is not recast
pub record IsListed (d : NotRecast) (x : Refused) : Type 0 where
  pub number : x.number ≡ d.number
  pub refusal : IsRefusal d.recast x.error
  pub cause : x.error ≢ NoMemory

abbrev pub AreListed : List NotRecast → List Refused → Type 0
AreListed [] [] = Unit {0}
AreListed [] (x ∷ xs) = ⊥
AreListed (d ∷ ds) [] = ⊥
AreListed (d ∷ ds) (x ∷ xs) = IsListed d x × AreListed ds xs

-- the answer of a migration; out of memory is free
abbrev pub IsMigration : Migrating → Result Migration MigrateError → Type 0
IsMigration (migrated output refused) (Ok m) = (m.output.items ≡ output) × AreListed refused m.refused.items
IsMigration (broken place) (Ok m) = ⊥
IsMigration r (Err (errors.Broken place)) = r ≡ broken place
IsMigration r (Err errors.NoMemory) = Unit {0}
