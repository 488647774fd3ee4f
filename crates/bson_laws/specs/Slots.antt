-- Reading structs. Source: serde's data model.
use Rattle.std.specs.Prelude.{ℕ, suc, List, [], ◌∷◌, if◌then◌else◌, Option, Some, None, Ok}
use Rattle.std.specs.Str.{bytes_eq}
use Rattle.bson_kinds.specs.Text.{Utf8}
use Rattle.bson_kinds.specs.Outcome.{◌>>=◌, result_map}
use Rattle.bson_kinds.specs.declared.element_type.ElementType.TheVariants.{Array}
use Rattle.bson_rawdoc.specs.Node.{Node, array, Nodes, ended, faulty, then_node}
use Rattle.bson_kinds.specs.Piece.{made}
use Rattle.bson_shape.specs.Form.{UnknownFields, dropped, denied, Form, by_mode}
use Rattle.bson_values.specs.Value.{ValueOf, no_field_values, field_value}
use Rattle.bson_values.specs.Marked.{Marked, MarkedFields}
use Rattle.bson_values.specs.Cause.{raw, invalid_type, missing_field, duplicate_field, unknown_field}
use Rattle.bson_values.specs.Refusal.{under}
use Rattle.bson_laws.specs.Views.{absent}
use Rattle.bson_laws.specs.Judged.{Reading, refused, ignores}
use Rattle.bson_laws.specs.Taken.{document_of}
use Rattle.bson_laws.specs.Containers.{reads_next}

-- The value of a field that is missing: none, where its form is an option, or the form that applies of two is one. Two forms inside of these are not looked at.
abbrev pub missing_value : {T : Type 0} → Form → Option (ValueOf T)
missing_value (by_mode readable compact) = absent compact
missing_value s = absent s

-- a field of a struct that is read
pub record Slot : Type 0 where
  pub name : Utf8
  -- the value that stands for the field where it is missing, if one does
  pub missing : Option Marked
  -- reading at the shape of the field
  pub read : Node → Reading Marked
  -- the value that was read for the field, if one was
  pub value : Option Marked

-- the slots of the fields of a struct, in the shape's order
abbrev pub Slots : Type 0
Slots = List Slot

-- ---- by key

-- the value of an element in the slot of its key; where that has a value, the element is refused before its value is looked at
abbrev pub fill_slot : Utf8 → Node → Slot → Option Marked → Reading Slot
fill_slot key n slot None = under key (slot.read n) >>= λ v. Ok (record slot { value = Some v })
fill_slot key n slot (Some v) = refused (duplicate_field key)

-- An element that no field takes: it is read and dropped, or the document is refused for its key before its value is looked at.
abbrev pub unknown : UnknownFields → Utf8 → Node → Reading (Unit {0})
unknown dropped key n = under key (ignores n)
unknown denied key n = refused (unknown_field key)

-- an element at the slot that has its key as its name, or as one that no field takes where none has
abbrev pub put_at : UnknownFields → Utf8 → Node → Slots → Reading Slots
put_at u key n [] = unknown u key n >>= λ _. Ok []
put_at u key n (slot ∷ slots) =
    if bytes_eq slot.name key then result_map (λ filled. filled ∷ slots) (fill_slot key n slot slot.value)
    else result_map (λ others. slot ∷ others) (put_at u key n slots)

-- the elements one after another, up to the fault that ends their list
abbrev pub fill : UnknownFields → Nodes → Slots → Reading Slots
fill u ended slots = Ok slots
fill u (faulty e) slots = refused (raw e)
fill u (then_node key n ns) slots = put_at u key.bytes n slots >>= fill u ns

-- the value that was read for a field, or else the one that stands for a missing field
abbrev pub value_or : Utf8 → (missing value : Option Marked) → Reading Marked
value_or name missing (Some v) = Ok v
value_or name (Some v) None = Ok v
value_or name None None = refused (missing_field name)

-- all fields with their values, or the first that has none
abbrev pub finish : Slots → Reading MarkedFields
finish [] = Ok no_field_values
finish (slot ∷ slots) = value_or slot.name slot.missing slot.value >>= λ v. result_map (field_value (made slot.name) v) (finish slots)

-- ---- by place

-- the elements of an array from this index on, one for each field in the shape's order; further elements and a fault behind them stay unread
abbrev pub reads_places : ℕ → Slots → Nodes → Reading MarkedFields
reads_places i [] ns = Ok no_field_values
reads_places i (slot ∷ slots) ns = reads_next i slot.read (λ v rest. result_map (field_value (made slot.name) v) (reads_places (suc i) slots rest)) ns

-- ---- either

-- the elements of an array by their places; a struct that denies unknown fields takes none
abbrev pub by_place : UnknownFields → Slots → Nodes → Reading MarkedFields
by_place dropped slots ns = reads_places 0 slots ns
by_place denied slots ns = refused (invalid_type Array)

-- a struct takes the elements of an array by their places, and those of a document by their keys
abbrev pub read_structure : UnknownFields → Slots → Node → Reading MarkedFields
read_structure u slots (array slice ns) = by_place u slots ns
read_structure u slots n = document_of n >>= λ ns. fill u ns slots >>= finish
