-- The fields of a struct whose elements come in any order: what is found of them, and what is written. It is for the contracts of the parts of the pass.
-- Source: this library's own readers and writers.
use Rattle.std.specs.Prelude.{◌≡◌, ℕ, zero, suc, ◌++◌, List, [], ◌∷◌, map, Option, Some, None, Ok, true, false, string_bytes}
use Rattle.std.specs.Str.{bytes_eq}
use Rattle.bson_kinds.specs.Text.{Bytes, Utf8, has_zero}
use Rattle.bson_base.specs.Tree.{Tree, enc, kind, element}
use Rattle.bson_rawdoc.specs.Node.{Nodes, ended, node_in, nodes_with}
use Rattle.bson_rawdoc.specs.Walk.{Element, Walk}
use Rattle.bson_shape.specs.Form.{UnknownFields}
use Rattle.bson_shape.specs.ShapeView.{fields_of}
use Rattle.bson_shape.specs.declared.shape.FieldShape.{FieldShape}
use Rattle.bson_values.specs.Marked.{Marked, contents}
use Rattle.bson_laws.specs.Scopes.{laid, laid_fields}
use Rattle.bson_laws.specs.declared.origin.Reader.{Reader}
use Rattle.bson_laws.specs.Slots.{Slot, Slots, fill, put_at, value_or}
use Rattle.bson_laws.specs.Spell.{spell}
use Rattle.bson_pass_parts.specs.ReadsUnrolled.{reads, slots_of, missing_value}

-- ---- names

-- the name of a field
abbrev pub name_of : FieldShape → Utf8
name_of f = string_bytes f.name

-- the key names the field at the place
abbrev pub IsField : List FieldShape → (place : ℕ) → (key : Utf8) → Type 0
IsField [] i key = ⊥
IsField (f ∷ fs) zero key = bytes_eq (name_of f) key ≡ true
IsField (f ∷ fs) (suc i) key = IsField fs i key

-- the names of slots
abbrev pub names : Slots → List Utf8
names [] = []
names (s ∷ ss) = s.name ∷ names ss

-- ---- elements

-- the slot of a field for a reader, with the value that was read for it, if one was
abbrev pub slot_with : Reader → FieldShape → Option Marked → Slot
slot_with r f v = record { name = name_of f; missing = missing_value (laid r f.shape); read = reads (laid r f.shape); value = v }

-- the slots of fields, each with its value
abbrev pub slots_with : Reader → List FieldShape → List (Option Marked) → Slots
slots_with r [] vs = []
slots_with r (f ∷ fs) [] = []
slots_with r (f ∷ fs) (v ∷ vs) = slot_with r f v ∷ slots_with r fs vs

-- the element that was found for a field is read as a value; where none was found, there is none
abbrev pub IsReadAs : Reader → (levels : ℕ) → FieldShape → Option Element → Option Marked → Type 0
IsReadAs r levels f None None = Unit {0}
IsReadAs r levels f None (Some v) = ⊥
IsReadAs r levels f (Some e) None = ⊥
IsReadAs r levels f (Some e) (Some v) = reads (laid r f.shape) (node_in levels e.kind e.value) ≡ Ok v

-- the same for each field
abbrev pub AreReadAs : Reader → (levels : ℕ) → List FieldShape → List (Option Element) → List (Option Marked) → Type 0
AreReadAs r levels [] es vs = vs ≡ []
AreReadAs r levels (f ∷ fs) [] vs = ⊥
AreReadAs r levels (f ∷ fs) (e ∷ es) [] = ⊥
AreReadAs r levels (f ∷ fs) (e ∷ es) (v ∷ vs) = IsReadAs r levels f e v × AreReadAs r levels fs es vs

-- An element was found for one of these fields, or is dropped at a struct that drops what it does not name. Where the elements that are found now are read as values, those that were found before are too, and
-- this element fills the slots of the fields up to its value, behind slots in front of them.
abbrev pub IsNoted : Reader → UnknownFields → (levels : ℕ) → (front fields : List FieldShape) → Element → (old new : List (Option Element)) → Type 0
IsNoted r u levels front fs e old new = (after : List (Option Marked)) → AreReadAs r levels fs new after → (before : List (Option Marked)) × AreReadAs r levels fs old before
    × ((slots : Slots) → map name_of front ≡ names slots → put_at u e.key (node_in levels e.kind e.value) (slots ++ slots_with r fs before) ≡ Ok (slots ++ slots_with r fs after))

-- Elements were found for fields, behind slots of fields in front. Where these are read as values, the elements fill the slots as those that are left fill the slots with these values.
abbrev pub AreFound : Reader → UnknownFields → (levels : ℕ) → (front fields : List FieldShape) → (whole left : Nodes) → (found : List (Option Element)) → Type 0
AreFound r u levels front fs whole left found = (values : List (Option Marked)) → AreReadAs r levels fs found values → (slots : Slots) → map name_of front ≡ names slots
    → fill u whole (slots ++ slots_of (laid_fields r (fields_of fs))) ≡ fill u left (slots ++ slots_with r fs values)

-- ---- what is written

-- a slot whose field is written as this element
pub record IsWritten (levels : ℕ) (s : Slot) (bytes : Bytes) : Type 0 where
  pub value : Marked
  pub tree : Tree
  pub given : value_or s.name s.missing s.value ≡ Ok value
  pub spelled : spell (contents value) levels ≡ Ok tree
  pub closed : has_zero s.name ≡ false
  pub bytes_are : bytes ≡ element (kind tree) s.name (enc tree)

-- slots whose fields are written as these bytes
abbrev pub AreWritten : (levels : ℕ) → Slots → Bytes → Type 0
AreWritten levels [] bytes = bytes ≡ []
AreWritten levels (s ∷ ss) bytes = (first rest : Bytes) × IsWritten levels s first × AreWritten levels ss rest × (bytes ≡ first ++ rest)

-- A field was written: the element that was found for it, if one was, is read as a value, and its slot with this is written as the bytes that were appended.
abbrev pub IsFoundPut : Reader → (levels : ℕ) → FieldShape → (found : Option Element) → (old new : Bytes) → Type 0
IsFoundPut r levels f found old new = (value : Option Marked) × (bytes : Bytes) × IsReadAs r levels f found value × IsWritten levels (slot_with r f value) bytes × (new ≡ old ++ bytes)

-- Fields were written in their order: the elements that were found for them are read as values, and the slots with these are written as the bytes that were appended.
abbrev pub AreFoundPut : Reader → (levels : ℕ) → List FieldShape → (found : List (Option Element)) → (old new : Bytes) → Type 0
AreFoundPut r levels fs found old new = (values : List (Option Marked)) × (bytes : Bytes) × AreReadAs r levels fs found values × AreWritten levels (slots_with r fs values) bytes × (new ≡ old ++ bytes)

-- The fields behind those in front were written from the elements that are left, behind slots of fields in front: they are found, read and written.
abbrev pub AreOthersPut : Reader → UnknownFields → (levels : ℕ) → (front fields : List FieldShape) → Walk → (old new : Bytes) → Type 0
AreOthersPut r u levels front fs left old new = (found : List (Option Element)) × AreFound r u levels front fs (nodes_with (node_in levels) left) ended found × AreFoundPut r levels fs found old new
