-- Recasting a document: when each status comes, and what the call did then. Source: this library's own calls with buffers.
use Rattle.std.specs.Prelude.{◌≡◌, ◌⊎◌, ℕ, nat_lt, if◌then◌else◌, [], length, Result, Ok, Err}
use Rattle.bson_kinds.specs.Text.{Bytes}
use Rattle.bson_values.specs.Printed.{printed_failure, printed_read_fault, printed_write_fault}
use Rattle.bson_values.specs.Refusal.{ReadFault, WriteFault, Failure}
use Rattle.bson_shape.specs.Form.{Form}
use Rattle.bson_laws.specs.Settled.{IsSettled}
use Rattle.bson_tree_recast.specs.Recast.{Recast, writes, unread, unwritten, recast_of, Unwritten}
use Rattle.bson_buffers.specs.Asked.{NoShape, shape_of_bytes, DenotesShape}
use Rattle.bson_buffers.specs.Checks.{NoShapeRow}
use Rattle.bson_buffers.specs.Buffers.{Call, Writes, LacksSpace, Tells, IsSilent}
use Rattle.bson_buffers.specs.declared.status.Status.{Status}
use Rattle.bson_buffers.specs.declared.status.Status.TheVariants as statuses

-- The document is recast, and the buffer holds what the recast writes. A recast of that output at the same shape gives it again,
-- unless the shape depends on whether the reader is human.
pub record RecastRow (shape bytes : Bytes) (c : Call) : Type 0 where
  pub form : Form
  pub notation : DenotesShape shape form
  pub output : Bytes
  pub recast : recast_of form bytes ≡ writes output
  pub again : IsSettled form → recast_of form output ≡ writes output
  pub put : Writes c output
  pub no_text : Tells c []
  pub no_place : c.place ≡ 0

-- The document is recast, and the buffer is too small for what the recast writes.
pub record LargerRow (shape bytes : Bytes) (c : Call) : Type 0 where
  pub form : Form
  pub notation : DenotesShape shape form
  pub output : Bytes
  pub recast : recast_of form bytes ≡ writes output
  pub larger : LacksSpace c output
  pub no_text : Tells c []
  pub no_place : c.place ≡ 0

-- The document is not read at the shape, as the text tells.
pub record UnreadRow (shape bytes : Bytes) (c : Call) : Type 0 where
  pub form : Form
  pub notation : DenotesShape shape form
  pub failure : Failure ReadFault
  pub recast : recast_of form bytes ≡ unread failure
  pub says : Tells c (printed_failure printed_read_fault failure)
  pub no_output : Writes c []
  pub no_place : c.place ≡ 0

-- What is read is not written, as the text tells.
pub record UnwrittenRow (shape bytes : Bytes) (c : Call) : Type 0 where
  pub form : Form
  pub notation : DenotesShape shape form
  pub failure : Failure WriteFault
  pub recast : Unwritten (recast_of form bytes) failure
  pub says : Tells c (printed_failure printed_write_fault failure)
  pub no_output : Writes c []
  pub no_place : c.place ≡ 0

-- the status for an output, by how many bytes the buffer holds
abbrev pub fitted : (places : ℕ) → Bytes → Status → Status
fitted places output status = if nat_lt places (length output) then statuses.BufferTooSmall else status

-- the status for what a recast comes to, by how many bytes the buffer holds
abbrev pub recast_status : (places : ℕ) → Recast → Status
recast_status places (writes output) = fitted places output statuses.Done
recast_status places (unread f) = statuses.ReadRefused
recast_status places (unwritten expected too_long) = statuses.WriteRefused

-- the status for a document at what may be a shape, by how many bytes the buffer holds
abbrev pub recast_status_at : (places : ℕ) → (bytes : Bytes) → Result Form NoShape → Status
recast_status_at places bytes (Err why) = statuses.ShapeRefused
recast_status_at places bytes (Ok s) = recast_status places (recast_of s bytes)

-- The table of statuses: each status comes only where its row holds, and it is the one that must be returned, or out of memory.
pub record IsRecast (shape bytes : Bytes) (status : Status) (c : Call) : Type 0 where
  pub done : status ≡ statuses.Done → RecastRow shape bytes c
  pub buffer_too_small : status ≡ statuses.BufferTooSmall → LargerRow shape bytes c
  pub shape_refused : status ≡ statuses.ShapeRefused → NoShapeRow shape c
  pub read_refused : status ≡ statuses.ReadRefused → UnreadRow shape bytes c
  pub write_refused : status ≡ statuses.WriteRefused → UnwrittenRow shape bytes c
  pub no_memory : status ≡ statuses.NoMemory → IsSilent c
  pub complete : (status ≡ recast_status_at (length c.buffer.before) bytes (shape_of_bytes shape)) ⊎ (status ≡ statuses.NoMemory)
