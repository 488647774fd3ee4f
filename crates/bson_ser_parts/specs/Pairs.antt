-- A document of one pair that is begun before what is under its key is known. Source: bsonspec.org, version 1.1, `document`.
use Rattle.std.specs.Prelude.{◌≡◌, ℕ, ◌+◌, ◌-◌, ◌<◌, ◌≤◌, Bool, true, if◌then◌else◌, [], ◌∷◌, ◌++◌, ◌⊎◌, length}
use Rattle.bson_kinds.specs.Kind.{byte}
use Rattle.bson_base.specs.Sound.{max_bytes}
use Rattle.bson_kinds.specs.Text.{Bytes, Utf8, has_zero}
use Rattle.bson_base.specs.Tree.{le32}
use Rattle.bson_kinds.specs.declared.element_type.ElementType.{ElementType}
use Rattle.bson_kinds.specs.declared.element_type.ElementType.TheVariants.{Array, EmbeddedDocument}
use Rattle.bson_values.specs.Refusal.{WriteFault, Failure, no_memory, with_path, here, invalid_cstring}
use Rattle.bson_values.specs.declared.stop.Stop.TheVariants.{Refused, NoMemory}
use Rattle.bson_io.specs.Output.{Output, patched}
use Rattle.bson_writing.specs.Halting.{refusal}
use Rattle.bson_writing.specs.declared.halt.Halt.{Halt}
use Rattle.bson_writing.specs.declared.halt.Halt.TheVariants.{Stopped, TooLong}
use Rattle.bson_ser_stream.specs.Writing.{length_place, front}
use Rattle.bson_ser_parts.specs.declared.pair.OnePair.{OnePair}

-- The places for the length of the document and for the kind of its one value, and the key. Behind them is a place for the length of what is under the key.
abbrev pub behind_name : (begun : Bytes) → (name : Utf8) → Bytes
behind_name begun name = (begun ++ length_place) ++ front name

-- why it is not begun: the key has a zero character, or memory ran out
abbrev pub NameHalts : Utf8 → Halt → Type 0
NameHalts name (Stopped (Refused r)) = (has_zero name ≡ true) × (refusal r.value ≡ here (invalid_cstring name))
NameHalts name (Stopped NoMemory) = Unit {0}
NameHalts name TooLong = ⊥

-- memory ran out, or the name has a zero character, which every variant of this name is refused for
abbrev pub RefusesName : Utf8 → Failure WriteFault → Type 0
RefusesName name f = (f ≡ no_memory) ⊎ ((has_zero name ≡ true) × (f ≡ with_path (here (invalid_cstring name))))

-- the kind of what a variant holds: values by their positions, or fields
abbrev pub contents_kind : (tuple : Bool) → ElementType
contents_kind tuple = if tuple then Array else EmbeddedDocument

-- bytes with a zero behind them, and from a place on the length of what is there, which is what was begun at that place
abbrev pub ended : Bytes → (start : ℕ) → Bytes
ended bytes start = patched (bytes ++ 0 ∷ []) start (le32 (length bytes + 1 - start))

-- What is under the key is ended, its kind is written over its place, and the document is ended.
pub record PairEnds (p : OnePair) (k : ElementType) (old new : Output) : Type 0 where
  pub bytes : new.bytes ≡ ended (patched (ended old.bytes p.contents.start) p.kind_place (byte k ∷ [])) p.document.start
  pub fits : length new.bytes - p.document.start ≤ max_bytes

-- the places are in the output, in their order
pub record IsIn (p : OnePair) (old : Output) : Type 0 where
  pub document : p.document.start + 4 ≤ p.kind_place
  pub kind : p.kind_place < p.contents.start
  pub contents : p.contents.start + 4 ≤ length old.bytes

-- why they are not ended: memory ran out, or the document has more bytes than one may
abbrev pub PairEndHalts : OnePair → Output → Halt → Type 0
PairEndHalts p old (Stopped (Refused r)) = ⊥
PairEndHalts p old (Stopped NoMemory) = Unit {0}
PairEndHalts p old TooLong = max_bytes < length old.bytes + 2 - p.document.start
