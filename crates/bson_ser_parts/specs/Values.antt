-- The writer of a value that serde's data model lacks, field by field of the struct of its reserved name. Source: this library's own readers and writers.
use Rattle.std.specs.Prelude.{◌≡◌, false, Some, ◌⊎◌, Result, Ok, Err}
use Rattle.std.specs.Global.{Vec}
use Rattle.bson_kinds.specs.Reserved.{reserved_kind}
use Rattle.bson_kinds.specs.Text.{Bytes, Utf8}
use Rattle.bson_values.specs.Cause.{bad_step}
use Rattle.bson_values.specs.Refusal.{unwritable, no_memory, with_path, here}
use Rattle.bson_values.specs.ErrorView.{write_failure}
use Rattle.bson_values.specs.Value.{Value, structure, FieldValues}
use Rattle.bson_datum.specs.View.{fields_view}
use Rattle.bson_datum.specs.declared.datum.Field.{Field}
use Rattle.bson_values.specs.declared.ser.Error.{Error}
use Rattle.bson_laws.specs.Spell.{spell, size}
use Rattle.bson_writing.specs.Joined.{with_field}
use Rattle.bson_writing.specs.Levels.{in_whole}
use Rattle.bson_ser_parts.specs.Fronts.{AreFirst}
use Rattle.bson_ser_parts.specs.Taking.{HasFailed, Ends}
use Rattle.bson_ser_parts.specs.declared.value.ValueWriter as writer

-- the writer with its own copies of the fields
abbrev pub ValueWriter : Type 0
ValueWriter = writer.ValueWriter (Vec Field)

-- It has not failed. It began behind these bytes, with the struct of this name, and has taken these fields.
pub record HasFields (begun : Bytes) (name : Utf8) (w : ValueWriter) (fs : FieldValues) : Type 0 where
  pub going : w.failed ≡ false
  pub kind : reserved_kind name ≡ Some w.kind
  pub fields : fields_view w.fields.items ≡ fs
  pub out : w.out.now.bytes ≡ begun

-- it has failed, and its output holds what it held when the writer began
abbrev pub ValueFailed : (begun : Bytes) → ValueWriter → Type 0
ValueFailed begun w = HasFailed begun w.failed w.out.now.bytes

-- A field is taken where the fields so far and this one are the first of a list that the name takes, and refused where they are those of none, unless memory ran out.
abbrev pub Steps : (taken fails : Type 0) → (first : Type 0) → Result (Unit {0}) Error → Type 0
Steps taken fails first (Ok x) = taken × first
Steps taken fails first (Err e) = fails × ((write_failure e ≡ no_memory) ⊎ ((first → ⊥) × (write_failure e ≡ with_path (here (unwritable bad_step)))))

-- a field is given
abbrev pub TakesField : (old new : ValueWriter) → (key : Utf8) → Value → Result (Unit {0}) Error → Type 0
TakesField old new key v result =
    (begun : Bytes) (name : Utf8) (before : FieldValues) → HasFields begun name old before
    → Steps (HasFields begun name new (with_field before key v)) (ValueFailed begun new) (AreFirst old.kind (with_field before key v)) result

-- the fields are all of the struct, which is written as a value in a document at level 1
abbrev pub EndsFields : ValueWriter → (left : Bytes) → Result (Unit {0}) Error → Type 0
EndsFields w left result =
    (begun : Bytes) (name : Utf8) (fs : FieldValues) → HasFields begun name w fs
    → Ends begun (size (structure name fs)) (spell (structure name fs) in_whole) left result
