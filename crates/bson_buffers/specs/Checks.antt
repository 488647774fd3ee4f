-- Judging a shape: when each status comes, and what the call did then. Source: this library's own calls with buffers.
use Rattle.std.specs.Prelude.{◌≡◌, ◌⊎◌, [], Result, Ok, Err}
use Rattle.bson_kinds.specs.Text.{Bytes}
use Rattle.bson_shape.specs.Form.{Form}
use Rattle.bson_buffers.specs.Asked.{NoShape, shape_of_bytes, DenotesShape, DenotesNone}
use Rattle.bson_buffers.specs.Buffers.{Call, Writes, Tells, IsSilent}
use Rattle.bson_buffers.specs.declared.status.Status.{Status}
use Rattle.bson_buffers.specs.declared.status.Status.TheVariants as statuses

-- The bytes are the notation of a shape.
pub record IsShapeRow (shape : Bytes) (c : Call) : Type 0 where
  pub form : Form
  pub notation : DenotesShape shape form
  pub silent : IsSilent c

-- The bytes are the notation of no shape, as place and text tell. So it is with every call that takes a shape.
pub record NoShapeRow (shape : Bytes) (c : Call) : Type 0 where
  pub why : NoShape
  pub refused : DenotesNone shape why
  pub place : c.place ≡ why.place
  pub says : Tells c why.said
  pub no_output : Writes c []

-- the status for a shape that is judged
abbrev pub judged : Result Form NoShape → Status
judged (Ok s) = statuses.Done
judged (Err why) = statuses.ShapeRefused

-- The table of statuses: each status comes only where its row holds, and it is the one that must be returned, or out of memory.
pub record IsChecked (shape : Bytes) (status : Status) (c : Call) : Type 0 where
  pub done : status ≡ statuses.Done → IsShapeRow shape c
  pub shape_refused : status ≡ statuses.ShapeRefused → NoShapeRow shape c
  pub no_memory : status ≡ statuses.NoMemory → IsSilent c
  pub complete : (status ≡ judged (shape_of_bytes shape)) ⊎ (status ≡ statuses.NoMemory)
