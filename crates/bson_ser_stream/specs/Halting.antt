-- What a writer of bytes leaves, whether it comes to its end or halts. Source: this library's own readers and writers.
use Rattle.std.specs.Prelude.{◌≡◌, ℕ, ◌+◌, ◌-◌, ◌*◌, ◌<◌, ◌≤◌, [], ◌∷◌, ◌++◌, length, take, Result, IfOk, OnOk}
use Rattle.bson_base.specs.Sound.{max_bytes}
use Rattle.bson_kinds.specs.Text.{Bytes}
use Rattle.bson_base.specs.Tree.{Tree, le32}
use Rattle.bson_kinds.specs.declared.element_type.ElementType.{ElementType}
use Rattle.bson_values.specs.declared.stop.Stop.TheVariants.{Refused, NoMemory}
use Rattle.bson_io.specs.Output.{Output, patched}
use Rattle.bson_laws.specs.Spell.{Writing}
use Rattle.bson_writing.specs.Halting.{Gives}
use Rattle.bson_writing.specs.declared.halt.Halt.{Halt}
use Rattle.bson_writing.specs.declared.halt.Halt.TheVariants.{Stopped, TooLong}
use Rattle.bson_ser_stream.specs.Writing.{with_tree, places, count_of}

-- Bytes were appended alone. No more spare room was lost than they take, and each of them cost one step or two.
pub record Grows (old new : Output) (before now : ℕ) : Type 0 where
  pub kept : take (length old.bytes) new.bytes ≡ old.bytes
  pub room : length old.bytes + old.spare ≤ length new.bytes + new.spare
  pub least : before + length new.bytes ≤ now + length old.bytes
  pub most : now + 2 * length old.bytes ≤ before + 2 * length new.bytes

-- A value of a kind and a size was appended as the definition says, each of its bytes and each that is written over a place at one step, and its kind is answered; or there is a reason not to.
pub record Puts (its : ElementType) (size : ℕ) (expected : Writing Tree) (old new : Output) (before now : ℕ) (result : Result ElementType Halt) : Type 0 where
  pub kind : IfOk result (λ k. k ≡ its)
  pub bytes : Gives size old.spare (λ _. new.bytes) result (with_tree old.bytes expected)
  pub fits : OnOk result (size ≤ max_bytes)
  pub grows : Grows old new before now
  pub least : OnOk result (before + length new.bytes + count_of places expected ≤ now + length old.bytes)

-- Elements that take so many bytes, and so many of them twice, were appended, so that these are the bytes of the definition; or there is a reason not to.
pub record PutsParts (size again : ℕ) (expected : Writing Bytes) (old new : Output) (before now : ℕ) (result : Result (Unit {0}) Halt) : Type 0 where
  pub bytes : Gives size old.spare (λ _. new.bytes) result expected
  pub grows : Grows old new before now
  pub least : OnOk result (before + length new.bytes + again ≤ now + length old.bytes)

-- A document or an array that begins at a place is ended: a zero is behind it, and its length in its first four bytes.
pub record Ends (old new : Output) (start before now : ℕ) : Type 0 where
  pub bytes : new.bytes ≡ patched (old.bytes ++ 0 ∷ []) start (le32 (length old.bytes + 1 - start))
  pub fits : length old.bytes + 1 - start ≤ max_bytes
  pub spare : old.spare ≤ new.spare + 1
  pub steps : now ≡ before + 5

-- why a document or an array that begins at a place is not ended: no byte is spare, or it has too many bytes
abbrev pub EndHalts : Output → ℕ → Halt → Type 0
EndHalts old start (Stopped (Refused r)) = ⊥
EndHalts old start (Stopped NoMemory) = old.spare < 1
EndHalts old start TooLong = max_bytes < length old.bytes + 1 - start

-- A value that begins with its length is ended at a place: the length of all behind the place is in the four bytes there.
pub record Totals (old new : Output) (start before now : ℕ) : Type 0 where
  pub bytes : new.bytes ≡ patched old.bytes start (le32 (length old.bytes - start))
  pub fits : length old.bytes - start ≤ max_bytes
  pub spare : old.spare ≤ new.spare
  pub steps : now ≡ before + 4

-- why it is not ended: it has too many bytes
abbrev pub TotalHalts : Output → ℕ → Halt → Type 0
TotalHalts old start (Stopped s) = ⊥
TotalHalts old start TooLong = max_bytes < length old.bytes - start
