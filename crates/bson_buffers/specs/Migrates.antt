-- Migrating a file of documents: when each status comes, and what the call did then. Source: this library's own calls with buffers.
use Rattle.std.specs.Prelude.{◌≡◌, ◌⊎◌, ℕ, List, [], ◌∷◌, length, Result, Ok, Err}
use Rattle.bson_kinds.specs.Text.{Bytes, Utf8}
use Rattle.bson_shape.specs.Form.{Form}
use Rattle.bson_laws.specs.Settled.{IsSettled}
use Rattle.bson_migrate_run.specs.Lines.{AreLines}
use Rattle.bson_migrate_run.specs.Migrating.{NotRecast, Migrating, broken, migrated, migration_of}
use Rattle.bson_buffers.specs.Asked.{NoShape, shape_of_bytes, DenotesShape}
use Rattle.bson_buffers.specs.Checks.{NoShapeRow}
use Rattle.bson_buffers.specs.Recasts.{fitted}
use Rattle.bson_buffers.specs.Buffers.{Call, Writes, LacksSpace, Tells, IsSilent}
use Rattle.bson_buffers.specs.declared.status.Status.{Status}
use Rattle.bson_buffers.specs.declared.status.Status.TheVariants as statuses

-- Every document is recast, and the buffer holds what the recasts write. A migration of that output at the same shape gives it
-- again, unless the shape depends on whether the reader is human.
pub record MigratedRow (shape file : Bytes) (c : Call) : Type 0 where
  pub form : Form
  pub notation : DenotesShape shape form
  pub output : Bytes
  pub migration : migration_of form file ≡ migrated output []
  pub again : IsSettled form → migration_of form output ≡ migrated output []
  pub put : Writes c output
  pub no_text : Tells c []
  pub no_place : c.place ≡ 0

-- Some documents are not recast, and the text has a line, or the array a record, for each; the buffer holds what the others' recasts write. A migration of that output at
-- the same shape gives it again, unless the shape depends on whether the reader is human.
pub record RefusedRow (TellsOf : List NotRecast → Utf8 → Type 0) (shape file : Bytes) (c : Call) : Type 0 where
  pub form : Form
  pub notation : DenotesShape shape form
  pub output : Bytes
  pub first : NotRecast
  pub others : List NotRecast
  pub migration : migration_of form file ≡ migrated output (first ∷ others)
  pub again : IsSettled form → migration_of form output ≡ migrated output []
  pub said : Utf8
  pub tells : TellsOf (first ∷ others) said
  pub put : Writes c output
  pub says : Tells c said
  pub no_place : c.place ≡ 0

-- The buffer is too small for what the recasts write, and the text has a line, or the array a record, for each document that is not recast.
pub record UnfittedRow (TellsOf : List NotRecast → Utf8 → Type 0) (shape file : Bytes) (c : Call) : Type 0 where
  pub form : Form
  pub notation : DenotesShape shape form
  pub output : Bytes
  pub refused : List NotRecast
  pub migration : migration_of form file ≡ migrated output refused
  pub said : Utf8
  pub tells : TellsOf refused said
  pub larger : LacksSpace c output
  pub says : Tells c said
  pub no_place : c.place ≡ 0

-- Some documents are not recast, as a line for each tells.
abbrev pub SomeRefusedRow : (shape file : Bytes) → Call → Type 0
SomeRefusedRow shape file c = RefusedRow AreLines shape file c

-- The buffer is too small, and a line for each document that is not recast tells of it.
abbrev pub LargerRow : (shape file : Bytes) → Call → Type 0
LargerRow shape file c = UnfittedRow AreLines shape file c

-- The file is broken at the place.
pub record BrokenRow (shape file : Bytes) (c : Call) : Type 0 where
  pub form : Form
  pub notation : DenotesShape shape form
  pub migration : migration_of form file ≡ broken c.place
  pub no_output : Writes c []
  pub no_text : Tells c []

-- the status for what a migration comes to, by how many bytes the buffer holds
abbrev pub migration_status : (places : ℕ) → Migrating → Status
migration_status places (broken place) = statuses.Broken
migration_status places (migrated output []) = fitted places output statuses.Done
migration_status places (migrated output (d ∷ ds)) = fitted places output statuses.SomeRefused

-- the status for a file at what may be a shape, by how many bytes the buffer holds
abbrev pub migration_status_at : (places : ℕ) → (file : Bytes) → Result Form NoShape → Status
migration_status_at places file (Err why) = statuses.ShapeRefused
migration_status_at places file (Ok s) = migration_status places (migration_of s file)

-- The table of statuses: each status comes only where its row holds, and it is the one that must be returned, or out of memory.
pub record IsMigrated (shape file : Bytes) (status : Status) (c : Call) : Type 0 where
  pub done : status ≡ statuses.Done → MigratedRow shape file c
  pub some_refused : status ≡ statuses.SomeRefused → SomeRefusedRow shape file c
  pub buffer_too_small : status ≡ statuses.BufferTooSmall → LargerRow shape file c
  pub shape_refused : status ≡ statuses.ShapeRefused → NoShapeRow shape c
  pub broken : status ≡ statuses.Broken → BrokenRow shape file c
  pub no_memory : status ≡ statuses.NoMemory → IsSilent c
  pub complete : (status ≡ migration_status_at (length c.buffer.before) file (shape_of_bytes shape)) ⊎ (status ≡ statuses.NoMemory)
