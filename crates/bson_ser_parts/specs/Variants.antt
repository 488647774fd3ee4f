-- The writer of a variant with contents, part by part. Source: this library's own readers and writers.
use Rattle.std.specs.Prelude.{◌≡◌, Bool, true, false, ◌++◌, length, String, string_bytes, Result, Ok}
use Rattle.std.specs.Global.{Global}
use Rattle.bson_base.specs.Sound.{max_levels}
use Rattle.bson_kinds.specs.Text.{Bytes, Utf8, has_zero}
use Rattle.bson_values.specs.Value.{Value, tuple_variant, structure_variant, Items, no_items, item, FieldValues, no_field_values, field_value}
use Rattle.bson_values.specs.declared.ser.Error.{Error}
use Rattle.bson_laws.specs.Spell.{spell_as, spell_items_as, spell_fields_as, size_as}
use Rattle.bson_writing.specs.Joined.{items_joined, fields_joined, with_item, with_field, index_after}
use Rattle.bson_writing.specs.Levels.{in_variant}
use Rattle.bson_ser_stream.specs.Writing.{with_elements, with_array_elements, length_place}
use Rattle.bson_ser_parts.specs.Pairs.{behind_name}
use Rattle.bson_ser_parts.specs.Taking.{HasFailed, Takes, Ends}
use Rattle.bson_ser_parts.specs.declared.variant.VariantWriter as writer

-- the writer with its own copy of the variant's name
abbrev pub VariantWriter : Type 0
VariantWriter = writer.VariantWriter (String Global)

-- It has not failed. It began behind these bytes, with a variant of this name that holds values by their positions or fields.
pub record IsOpen (begun : Bytes) (readable : Bool) (name : Utf8) (tuple : Bool) (w : VariantWriter) : Type 0 where
  pub going : w.failed ≡ false
  pub form : w.readable ≡ readable
  pub named : string_bytes w.name ≡ name
  pub free : has_zero name ≡ false
  pub holds : w.tuple ≡ tuple
  pub document : w.pair.document.start ≡ length begun
  pub kind : w.pair.kind_place ≡ length (begun ++ length_place)
  pub contents : w.pair.contents.start ≡ length (behind_name begun name)
  pub levels : w.pair.contents.levels ≡ in_variant

-- It has taken these values.
pub record HasItems (begun : Bytes) (readable : Bool) (name : Utf8) (w : VariantWriter) (vs : Items) : Type 0 where
  pub still : IsOpen begun readable name true w
  pub index : w.index ≡ index_after 0 vs
  pub bytes : with_array_elements (behind_name begun name ++ length_place) 0 (spell_items_as readable 0 vs in_variant) ≡ Ok w.out.now.bytes

-- It has taken these fields.
pub record HasFields (begun : Bytes) (readable : Bool) (name : Utf8) (w : VariantWriter) (fs : FieldValues) : Type 0 where
  pub still : IsOpen begun readable name false w
  pub bytes : with_elements (behind_name begun name ++ length_place) (spell_fields_as readable fs in_variant) ≡ Ok w.out.now.bytes

-- it has taken nothing yet
abbrev pub HasBegun : (tuple : Bool) → (begun : Bytes) → (readable : Bool) → (name : Utf8) → VariantWriter → Type 0
HasBegun true begun readable name w = HasItems begun readable name w no_items
HasBegun false begun readable name w = HasFields begun readable name w no_field_values

-- it has failed, and its output holds what it held when the writer began
abbrev pub VariantFailed : (begun : Bytes) → VariantWriter → Type 0
VariantFailed begun w = HasFailed begun w.failed w.out.now.bytes

-- A value is given. What refuses it is the refusal of each variant of the name that begins with the values so far and this one.
abbrev pub TakesItem : (old new : VariantWriter) → Value → Result (Unit {0}) Error → Type 0
TakesItem old new v result =
    (begun : Bytes) (readable : Bool) (name : Utf8) (before after : Items) → HasItems begun readable name old before
    → Takes (HasItems begun readable name new (with_item before v)) (VariantFailed begun new) (size_as readable (tuple_variant name (with_item before v)))
    (spell_as readable (tuple_variant name (items_joined before (item v after))) max_levels) result

-- A field is given.
abbrev pub TakesField : (old new : VariantWriter) → (key : Utf8) → Value → Result (Unit {0}) Error → Type 0
TakesField old new key v result =
    (begun : Bytes) (readable : Bool) (name : Utf8) (before after : FieldValues) → HasFields begun readable name old before
    → Takes (HasFields begun readable name new (with_field before key v)) (VariantFailed begun new) (size_as readable (structure_variant name (with_field before key v)))
    (spell_as readable (structure_variant name (fields_joined before (field_value key v after))) max_levels) result

-- the values are all of the variant
abbrev pub EndsItems : VariantWriter → (left : Bytes) → Result (Unit {0}) Error → Type 0
EndsItems w left result =
    (begun : Bytes) (readable : Bool) (name : Utf8) (vs : Items) → HasItems begun readable name w vs
    → Ends begun (size_as readable (tuple_variant name vs)) (spell_as readable (tuple_variant name vs) max_levels) left result

-- the fields are all of the variant
abbrev pub EndsFields : VariantWriter → (left : Bytes) → Result (Unit {0}) Error → Type 0
EndsFields w left result =
    (begun : Bytes) (readable : Bool) (name : Utf8) (fs : FieldValues) → HasFields begun readable name w fs
    → Ends begun (size_as readable (structure_variant name fs)) (spell_as readable (structure_variant name fs) max_levels) left result
