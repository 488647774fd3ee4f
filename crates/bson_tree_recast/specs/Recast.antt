-- What recasting a document's bytes at a shape comes to. Source: this library's own readers and writers.
use Rattle.std.specs.Prelude.{◌≡◌, ◌≢◌, ◌⊎◌, ℕ, Bool, true, false, nat_lt, Option, Some, None, Result, Ok, Err}
use Rattle.std.specs.Global.{Vec}
use Rattle.bson_kinds.specs.Text.{Bytes}
use Rattle.bson_base.specs.Sound.{max_bytes}
use Rattle.bson_base.specs.Tree.{Tree, enc}
use Rattle.bson_shape.specs.Form.{Form}
use Rattle.bson_values.specs.Value.{Value}
use Rattle.bson_values.specs.Refusal.{ReadFault, WriteFault, Failure, no_memory, bare, placed, with_path}
use Rattle.bson_values.specs.declared.de.Error as de
use Rattle.bson_values.specs.declared.ser.Error as ser
use Rattle.bson_values.specs.ErrorView.{read_failure, write_failure}
use Rattle.bson_laws.specs.Reads.{reads_document}
use Rattle.bson_laws.specs.Spell.{Writing, spell_document, size, IsNumber}
use Rattle.bson_ser_stream.specs.Writing.{too_long_failure}
use Rattle.bson_tree_recast.specs.declared.error.RecastError.{RecastError}
use Rattle.bson_tree_recast.specs.declared.error.RecastError.TheVariants.{Read, Write, NoMemory}

-- what a recast comes to
pub data Recast : Type 0 where
  -- these bytes are written
  writes : Bytes → Recast
  -- the bytes are not read at the shape, for this failure
  unread : Failure ReadFault → Recast
  -- what is read is not written: for this failure, where there is one, or for its size, where it takes more bytes than a document may
  unwritten : (expected : Option (Failure WriteFault)) → (too_long : Bool) → Recast

-- the recast of a value, by whether it is too long and by what it is written as
abbrev pub written : (too_long : Bool) → Writing Tree → Recast
written too_long (Err r) = unwritten (Some (with_path r)) too_long
written true (Ok t) = unwritten None true
written false (Ok t) = writes (enc t)

-- the recast of what was read
abbrev pub recast_read : Result Value (Failure ReadFault) → Recast
recast_read (Err f) = unread f
recast_read (Ok d) = written (nat_lt max_bytes (size d)) (spell_document d)

-- the recast of a document's bytes at a shape
abbrev pub recast_of : Form → Bytes → Recast
recast_of s bytes = recast_read (reads_document s bytes)

-- ---- what a call returns

-- the failure is this one
abbrev pub Is : Option (Failure WriteFault) → Failure WriteFault → Type 0
Is None f = ⊥
Is (Some expected) f = f ≡ expected

-- What is read is not written, for this failure. Where there is a refusal and the whole is too long, it is either.
abbrev pub Unwritten : Recast → Failure WriteFault → Type 0
Unwritten (writes bytes) f = ⊥
Unwritten (unread e) f = ⊥
Unwritten (unwritten expected too_long) f = Is expected f ⊎ ((too_long ≡ true) × (f ≡ too_long_failure))

-- the error of a recast; out of memory is free
abbrev pub IsRefusal : Recast → RecastError → Type 0
IsRefusal r (Read e) = r ≡ unread (read_failure e)
IsRefusal r (Write e) = Unwritten r (write_failure e)
IsRefusal r NoMemory = Unit {0}

-- what a recast returns
abbrev pub IsRecast : Recast → Result (Vec ℕ) RecastError → Type 0
IsRecast r (Ok v) = r ≡ writes v.items
IsRecast r (Err e) = IsRefusal r e

-- a failure of the writer, where that is the answer, has this property
abbrev pub IfUnwritten : (Failure WriteFault → Type 0) → Result (Vec ℕ) RecastError → Type 0
IfUnwritten P (Ok v) = Unit {0}
IfUnwritten P (Err (Read e)) = Unit {0}
IfUnwritten P (Err (Write e)) = P (write_failure e)
IfUnwritten P (Err NoMemory) = Unit {0}

-- the failure, with a path or without one, is not `UnsignedIntegerExceededRange`, the one for a number that no Int64 holds
abbrev pub IsForNoNumber : Failure WriteFault → Type 0
IsForNoNumber no_memory = Unit {0}
IsForNoNumber (bare fault) = IsNumber fault → ⊥
IsForNoNumber (placed path f) = IsForNoNumber f

-- What a recast returns for an error of reading: `Read` with it, or `NoMemory` where memory ran out.
abbrev pub IsReadError : de.Error → RecastError → Type 0
IsReadError e NoMemory = read_failure e ≡ no_memory
IsReadError e (Read d) = (d ≡ e) × (read_failure e ≢ no_memory)
IsReadError e (Write d) = ⊥

-- What a recast returns for an error of writing: `Write` with it, or `NoMemory` where memory ran out.
abbrev pub IsWriteError : ser.Error → RecastError → Type 0
IsWriteError e NoMemory = write_failure e ≡ no_memory
IsWriteError e (Write d) = (d ≡ e) × (write_failure e ≢ no_memory)
IsWriteError e (Read d) = ⊥

-- ---- one step of several

-- why a recast ends at a step
pub data Ending : Type 0 where
  in_reading : Failure ReadFault → Ending
  in_writing : Failure WriteFault → Ending

-- why the recast ends that gives this error; nothing where memory ran out
abbrev pub stopped : RecastError → Option Ending
stopped (Read e) = Some (in_reading (read_failure e))
stopped (Write e) = Some (in_writing (write_failure e))
stopped NoMemory = None

-- the recast ends so at this step; nothing is said where memory ran out
abbrev pub StopsAs : {Y : Type 0} → Option Ending → Result Y Ending → Type 0
StopsAs None expected = Unit {0}
StopsAs (Some x) expected = expected ≡ Err x

-- A step gives what the definition gives, seen so, or the recast ends; or memory ran out.
abbrev pub Steps : {X Y : Type 0} → (X → Y) → Result X RecastError → Result Y Ending → Type 0
Steps see (Ok x) expected = expected ≡ Ok (see x)
Steps see (Err e) expected = StopsAs (stopped e) expected

-- the recast whose last step comes to this
abbrev pub ended : Result Bytes Ending → Recast
ended (Ok bytes) = writes bytes
ended (Err (in_reading f)) = unread f
ended (Err (in_writing f)) = unwritten (Some f) false
