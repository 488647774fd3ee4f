-- What is printed of paths, causes and errors. Source: this library's own texts.
use Rattle.std.specs.Prelude.{ℕ, zero, suc, ◌+◌, [], ◌∷◌, ◌++◌, codes}
use Rattle.std.specs.Fmt.{decimal, signed_decimal}
use Rattle.bson_kinds.specs.Text.{Utf8}
use Rattle.bson_kinds.specs.Kind.{name}
use Rattle.bson_base.specs.Tree.{kind}
use Rattle.bson_faults.specs.Printed.{printed_fault}
use Rattle.bson_values.specs.Cause.{Cause, raw, too_deep, invalid_type, out_of_range, not_one_char, not_utf8, not_borrowed, invalid_length, missing_field, duplicate_field, unknown_variant, unknown_field, unknown_reference, bad_body, wrong_kind, subtype, contents_wanted, unit_in_document, empty_enum, extra_key, zero_byte, top_level, binary_too_long, bad_uuid, bad_step, too_long, not_document, failed, too_small, not_fitting, not_i32, not_i64, increment, not_date, not_object_id, no_rfc3339}
use Rattle.bson_values.specs.Wrapper.{key}
use Rattle.bson_values.specs.declared.wrapper.Wrapper.{Wrapper}
use Rattle.bson_values.specs.declared.wrapper.Wrapper.TheVariants.{NumberDouble}
use Rattle.bson_values.specs.Refusal.{Segment, Path, at_key, at_index, ReadFault, io, invalid_utf8_string, unrecognized_element_type, end_of_stream, unreadable, WriteFault, sink_failed, unwritable, invalid_document_key, invalid_cstring, unsigned_exceeds, Failure, no_memory, bare, placed}

-- the segment at a place of a path: a key has a point before it unless it comes first, an index is in brackets
abbrev pub point_before : ℕ → Utf8
point_before zero = []
point_before (suc i) = codes "."

abbrev pub printed_segment : ℕ → Segment → Utf8
printed_segment i (at_key key) = point_before i ++ key
printed_segment i (at_index n) = codes "[" ++ decimal n ++ codes "]"

abbrev pub printed_segments : ℕ → Path → Utf8
printed_segments i [] = []
printed_segments i (s ∷ ss) = printed_segment i s ++ printed_segments (i + 1) ss

-- a path: its segments, or a point where there are none
abbrev pub printed_path : Path → Utf8
printed_path [] = 46 ∷ []
printed_path (s ∷ ss) = printed_segments 0 (s ∷ ss)

-- what is added to the text of a wrapper key whose value is not valid
abbrev pub what_is_expected : Wrapper → Utf8
what_is_expected NumberDouble = codes ", expected a double"
what_is_expected w = []

abbrev pub printed_cause : Cause → Utf8
printed_cause (raw f) = printed_fault f
printed_cause too_deep = codes "nested deeper than 200 levels"
printed_cause (invalid_type k) = codes "invalid type: " ++ name k
printed_cause (out_of_range n) = codes "integer " ++ signed_decimal n ++ codes " out of range"
printed_cause not_one_char = codes "not one character"
printed_cause not_utf8 = codes "bytes are not UTF-8"
printed_cause not_borrowed = codes "cannot be borrowed"
printed_cause (invalid_length n) = codes "invalid length " ++ decimal n
printed_cause (missing_field t) = codes "missing field " ++ t
printed_cause (duplicate_field t) = codes "duplicate field " ++ t
printed_cause (unknown_variant t) = codes "unknown variant " ++ t
printed_cause (unknown_field t) = codes "unknown field " ++ t
printed_cause (unknown_reference t) = codes "unknown reference " ++ t
printed_cause (bad_body w) = codes "bad value for " ++ key w ++ what_is_expected w
printed_cause (wrong_kind k) = codes "unexpected value: " ++ name k
printed_cause (subtype n) = codes "unexpected binary subtype " ++ decimal n
printed_cause contents_wanted = codes "expected contents, got a text"
printed_cause unit_in_document = codes "expected a string enum, got a document instead"
printed_cause empty_enum = codes "empty document, expected variant name"
printed_cause (extra_key t) = codes "extra key " ++ t
printed_cause zero_byte = codes "zero byte in a key or regex"
printed_cause (top_level k) = codes "non-document type at the top level: " ++ name k
printed_cause (binary_too_long n) = codes "binary length " ++ decimal n ++ codes " exceeded maximum size"
printed_cause bad_uuid = codes "expected UUID as bytes or text"
printed_cause bad_step = codes "wrong steps of a reserved struct"
printed_cause too_long = codes "value exceeds maximum length"
printed_cause (not_document k) = codes "could not be serialized to Document, got " ++ name k
printed_cause failed = codes "writer failed before"
printed_cause too_small = codes "document size too small"
printed_cause not_fitting = codes "value does not fit the type"
printed_cause (not_i32 n) = codes "cannot convert " ++ decimal n ++ codes " to i32"
printed_cause (not_i64 n) = codes "cannot convert " ++ decimal n ++ codes " to i64"
printed_cause increment = codes "Cannot convert Timestamp with a non-zero increment to u32"
printed_cause (not_date t) = codes "cannot convert " ++ t ++ codes " to DateTime"
printed_cause (not_object_id t) = codes "cannot convert " ++ t ++ codes " to ObjectId"
printed_cause (no_rfc3339 n) = codes "cannot format " ++ signed_decimal n ++ codes " as RFC 3339"

abbrev pub printed_read_fault : ReadFault → Utf8
printed_read_fault io = codes "i/o fault"
printed_read_fault invalid_utf8_string = codes "invalid UTF-8"
printed_read_fault (unrecognized_element_type t b) = codes "unrecognized element type " ++ decimal b ++ codes " for key " ++ t
printed_read_fault end_of_stream = codes "end of stream"
printed_read_fault (unreadable c) = printed_cause c

abbrev pub printed_write_fault : WriteFault → Utf8
printed_write_fault sink_failed = codes "i/o fault"
printed_write_fault (unwritable c) = printed_cause c
printed_write_fault (invalid_document_key t) = codes "invalid map key type: " ++ name (kind t)
printed_write_fault (invalid_cstring t) = codes "cstrings cannot contain null bytes"
printed_write_fault (unsigned_exceeds n) = codes "unsigned integer " ++ signed_decimal n ++ codes " does not fit a signed 64-bit integer"

-- a failure, whose fault is printed so
abbrev pub printed_failure : {F : Type 0} → (F → Utf8) → Failure F → Utf8
printed_failure printed no_memory = codes "out of memory"
printed_failure printed (bare f) = printed f
printed_failure printed (placed path f) = codes "error at " ++ printed_path path ++ codes ": " ++ printed_failure printed f
