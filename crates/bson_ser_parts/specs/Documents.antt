-- The writer of a document or an array, part by part. Source: this library's own readers and writers.
use Rattle.std.specs.Prelude.{◌≡◌, Bool, true, false, ◌++◌, length, Result, Ok}
use Rattle.bson_base.specs.Sound.{max_levels}
use Rattle.bson_kinds.specs.Text.{Bytes}
use Rattle.bson_values.specs.Value.{Value, sequence, map, Items, no_items, item, Entries, no_entries, entry}
use Rattle.bson_values.specs.declared.ser.Error.{Error}
use Rattle.bson_laws.specs.Spell.{spell_as, spell_items_as, spell_entries_as, size_as}
use Rattle.bson_writing.specs.Joined.{items_joined, entries_joined, with_item, with_entry, index_after}
use Rattle.bson_writing.specs.Levels.{in_whole}
use Rattle.bson_ser_stream.specs.Writing.{with_elements, with_array_elements, length_place}
use Rattle.bson_ser_parts.specs.Taking.{HasFailed, Takes, Ends}
use Rattle.bson_ser_parts.specs.declared.document.DocumentWriter.{DocumentWriter}

-- It has not failed. It began behind these bytes, and writes values in this form.
pub record IsOpen (begun : Bytes) (readable : Bool) (w : DocumentWriter) : Type 0 where
  pub going : w.failed ≡ false
  pub form : w.readable ≡ readable
  pub place : w.document.start ≡ length begun
  pub levels : w.document.levels ≡ in_whole

-- It has taken these values of an array: a place for the length and their elements are behind the bytes.
pub record HasItems (begun : Bytes) (readable : Bool) (w : DocumentWriter) (vs : Items) : Type 0 where
  pub still : IsOpen begun readable w
  pub array : w.array ≡ true
  pub index : w.index ≡ index_after 0 vs
  pub bytes : with_array_elements (begun ++ length_place) 0 (spell_items_as readable 0 vs in_whole) ≡ Ok w.out.now.bytes

-- It has taken these entries of a document.
pub record HasEntries (begun : Bytes) (readable : Bool) (w : DocumentWriter) (es : Entries) : Type 0 where
  pub still : IsOpen begun readable w
  pub array : w.array ≡ false
  pub bytes : with_elements (begun ++ length_place) (spell_entries_as readable es in_whole) ≡ Ok w.out.now.bytes

-- it has taken nothing yet
abbrev pub HasBegun : (array : Bool) → (begun : Bytes) → (readable : Bool) → DocumentWriter → Type 0
HasBegun true begun readable w = HasItems begun readable w no_items
HasBegun false begun readable w = HasEntries begun readable w no_entries

-- it has failed, and its output holds what it held when the writer began
abbrev pub DocumentFailed : (begun : Bytes) → DocumentWriter → Type 0
DocumentFailed begun w = HasFailed begun w.failed w.out.now.bytes

-- A value is given. What refuses it is the refusal of each array that begins with the values so far and this one.
abbrev pub TakesItem : (old new : DocumentWriter) → Value → Result (Unit {0}) Error → Type 0
TakesItem old new v result =
    (begun : Bytes) (readable : Bool) (before after : Items) → HasItems begun readable old before
    → Takes (HasItems begun readable new (with_item before v)) (DocumentFailed begun new) (size_as readable (sequence (with_item before v)))
    (spell_as readable (sequence (items_joined before (item v after))) max_levels) result

-- An entry is given. What refuses it is the refusal of each map that begins with the entries so far and this one.
abbrev pub TakesEntry : (old new : DocumentWriter) → (key value : Value) → Result (Unit {0}) Error → Type 0
TakesEntry old new k v result =
    (begun : Bytes) (readable : Bool) (before after : Entries) → HasEntries begun readable old before
    → Takes (HasEntries begun readable new (with_entry before k v)) (DocumentFailed begun new) (size_as readable (map (with_entry before k v)))
    (spell_as readable (map (entries_joined before (entry k v after))) max_levels) result

-- the values are all of the array
abbrev pub EndsItems : DocumentWriter → (left : Bytes) → Result (Unit {0}) Error → Type 0
EndsItems w left result =
    (begun : Bytes) (readable : Bool) (vs : Items) → HasItems begun readable w vs
    → Ends begun (size_as readable (sequence vs)) (spell_as readable (sequence vs) max_levels) left result

-- the entries are all of the document
abbrev pub EndsEntries : DocumentWriter → (left : Bytes) → Result (Unit {0}) Error → Type 0
EndsEntries w left result =
    (begun : Bytes) (readable : Bool) (es : Entries) → HasEntries begun readable w es
    → Ends begun (size_as readable (map es)) (spell_as readable (map es) max_levels) left result
