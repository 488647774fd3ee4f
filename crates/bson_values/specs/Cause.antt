-- Why a value is refused. Source: serde's `de::Error` (invalid type and length, missing, duplicate and unknown field, unknown variant), the refusals of MongoDB's crate bson, version 2, and the limits of this library.
use Rattle.std.specs.Prelude.{ℕ, ℤ}
use Rattle.bson_kinds.specs.Text.{Utf8}
use Rattle.bson_kinds.specs.declared.element_type.ElementType.{ElementType}
use Rattle.bson_faults.specs.declared.raw.Error as raw_error
use Rattle.bson_values.specs.declared.wrapper.Wrapper.{Wrapper}

pub data Cause : Type 0 where
  -- the bytes have this fault
  raw : raw_error.Error → Cause
  -- a container is at level 201
  too_deep : Cause
  -- the value has this kind, and the shape takes another
  invalid_type : ElementType → Cause
  -- the number does not fit the shape's type
  out_of_range : ℤ → Cause
  -- the text is not one character
  not_one_char : Cause
  -- the bytes of a binary are not UTF-8
  not_utf8 : Cause
  -- the text or byte string is to be borrowed, and cannot be: it was made by opening a value, texts are mended in this reading, or the value is a tree in memory
  not_borrowed : Cause
  -- the array has this many elements, which are fewer than the shape takes; or the binary has this many bytes, and an ObjectId or a UUID another number
  invalid_length : ℕ → Cause
  -- no element has the name of this field, or none is `$code` after `$scope`
  missing_field : Utf8 → Cause
  -- two elements have the name of this field
  duplicate_field : Utf8 → Cause
  -- the enum has no variant of this name
  unknown_variant : Utf8 → Cause
  -- a key that is no field of a struct which denies unknown ones; or a key other than `$scope` after `$code`, or other than `$code` after `$scope`
  unknown_field : Utf8 → Cause
  -- the innermost definitions around the reference have none of this name
  unknown_reference : Utf8 → Cause
  -- the value of this wrapper key is not valid, or, at `oid` and `uuid`, a text that is no ObjectId or UUID
  bad_body : Wrapper → Cause
  -- a value was read as one of this kind, and the shape takes another
  wrong_kind : ElementType → Cause
  -- a binary of this subtype, where the shape takes subtype 4
  subtype : ℕ → Cause
  -- a text names a variant that has contents
  contents_wanted : Cause
  -- a document names a variant that has no contents
  unit_in_document : Cause
  -- an empty document of a tree, where the name of a variant is expected
  empty_enum : Cause
  -- a second key in the document of a tree that names a variant
  extra_key : Utf8 → Cause
  -- a key, or a part of a regular expression, holds a zero character
  zero_byte : Cause
  -- the whole value is written as this kind, which is no document
  top_level : ElementType → Cause
  -- a binary whose length is written as this number, which is more than a binary may have; that of the old subtype counts the four bytes of its inner length
  binary_too_long : ℕ → Cause
  -- the newtype of a UUID does not hold its text, in the readable form, or its bytes, in the compact one
  bad_uuid : Cause
  -- the fields of a struct of a reserved name are none of the lists that its name takes
  bad_step : Cause
  -- the document would have more bytes than a document may
  too_long : Cause
  -- the value is made into one of this kind, which is no document
  not_document : ElementType → Cause
  -- a call of the writer was refused before
  failed : Cause
  -- the first four bytes announce less than the five of the smallest document
  too_small : Cause
  -- a value that no value of the type is written as
  not_fitting : Cause
  -- a number that does not fit in 32 bits with a sign
  not_i32 : ℕ → Cause
  -- a number that does not fit in 64 bits with a sign
  not_i64 : ℕ → Cause
  -- a timestamp whose increment is not zero
  increment : Cause
  -- a text that is no date
  not_date : Utf8 → Cause
  -- a text that is no ObjectId
  not_object_id : Utf8 → Cause
  -- a time, in milliseconds since the start of 1970, outside the years that have a text
  no_rfc3339 : ℤ → Cause
