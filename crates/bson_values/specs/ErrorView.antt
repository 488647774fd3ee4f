-- What contracts see of an error. Source: the errors of MongoDB's crate bson, version 2.
use Rattle.std.specs.Prelude.{pos, string_bytes}
use Rattle.bson_base.specs.BsonView.{tree_of}
use Rattle.bson_faults.specs.declared.raw.Error as raw
use Rattle.bson_faults.specs.declared.raw.Error.TheVariants.{NoMemory}
use Rattle.bson_values.specs.Cause as cause
use Rattle.bson_values.specs.Refusal.{ReadFault, io, invalid_utf8_string, unrecognized_element_type, end_of_stream, unreadable, WriteFault, sink_failed, unwritable, invalid_document_key, invalid_cstring, unsigned_exceeds, Failure, no_memory, bare, placed}
use Rattle.bson_values.specs.PathView.{path_view}
use Rattle.bson_values.specs.declared.cause.Cause.{Cause}
use Rattle.bson_values.specs.declared.cause.Cause.TheVariants.{Raw, TooDeep, InvalidType, OutOfRange, NotOneChar, NotUtf8, NotBorrowed, InvalidLength, MissingField, DuplicateField, UnknownVariant, UnknownField, UnknownReference, BadBody, WrongKind, Subtype, ContentsWanted, UnitInDocument, EmptyEnum, ExtraKey, ZeroByte, TopLevel, BinaryTooLong, BadUuid, BadStep, TooLong, NotDocument, Failed, TooSmall, NotFitting, NotI32, NotI64, Increment, NotDate, NotObjectId, NoRfc3339}
use Rattle.bson_values.specs.declared.de.Fault as de_fault
use Rattle.bson_values.specs.declared.de.Fault.TheVariants as de_faults
use Rattle.bson_values.specs.declared.ser.Fault as ser_fault
use Rattle.bson_values.specs.declared.ser.Fault.TheVariants as ser_faults
use Rattle.bson_values.specs.declared.de.Error as de
use Rattle.bson_values.specs.declared.ser.Error as ser

abbrev pub cause_view : Cause → cause.Cause
cause_view (Raw f) = cause.raw f
cause_view TooDeep = cause.too_deep
cause_view (InvalidType k) = cause.invalid_type k
cause_view (OutOfRange n) = cause.out_of_range n
cause_view NotOneChar = cause.not_one_char
cause_view NotUtf8 = cause.not_utf8
cause_view NotBorrowed = cause.not_borrowed
cause_view (InvalidLength n) = cause.invalid_length n
cause_view (MissingField t) = cause.missing_field (string_bytes t)
cause_view (DuplicateField t) = cause.duplicate_field (string_bytes t)
cause_view (UnknownVariant t) = cause.unknown_variant (string_bytes t)
cause_view (UnknownField t) = cause.unknown_field (string_bytes t)
cause_view (UnknownReference t) = cause.unknown_reference (string_bytes t)
cause_view (BadBody w) = cause.bad_body w
cause_view (WrongKind k) = cause.wrong_kind k
cause_view (Subtype n) = cause.subtype n
cause_view ContentsWanted = cause.contents_wanted
cause_view UnitInDocument = cause.unit_in_document
cause_view EmptyEnum = cause.empty_enum
cause_view (ExtraKey t) = cause.extra_key (string_bytes t)
cause_view ZeroByte = cause.zero_byte
cause_view (TopLevel k) = cause.top_level k
cause_view (BinaryTooLong n) = cause.binary_too_long n
cause_view BadUuid = cause.bad_uuid
cause_view BadStep = cause.bad_step
cause_view TooLong = cause.too_long
cause_view (NotDocument k) = cause.not_document k
cause_view Failed = cause.failed
cause_view TooSmall = cause.too_small
cause_view NotFitting = cause.not_fitting
cause_view (NotI32 n) = cause.not_i32 n
cause_view (NotI64 n) = cause.not_i64 n
cause_view Increment = cause.increment
cause_view (NotDate t) = cause.not_date (string_bytes t)
cause_view (NotObjectId t) = cause.not_object_id (string_bytes t)
cause_view (NoRfc3339 n) = cause.no_rfc3339 n

-- the fault that a value is refused for in reading
abbrev pub read_fault : de_fault.Fault → ReadFault
read_fault de_faults.EndOfStream = end_of_stream
read_fault (de_faults.Cause c) = unreadable (cause_view c)

-- the fault that a value is refused for in writing
abbrev pub write_fault : ser_fault.Fault → WriteFault
write_fault (ser_faults.InvalidDocumentKey b) = invalid_document_key (tree_of b)
write_fault (ser_faults.InvalidCString t) = invalid_cstring (string_bytes t)
write_fault (ser_faults.UnsignedIntegerExceededRange n) = unsigned_exceeds (pos n)
write_fault (ser_faults.Cause c) = unwritable (cause_view c)

-- the failure that a reader's error is
abbrev pub read_failure : de.Error → Failure ReadFault
read_failure de.Io = bare io
read_failure de.InvalidUtf8String = bare invalid_utf8_string
read_failure (de.UnrecognizedDocumentElementType key element_type) = bare (unrecognized_element_type (string_bytes key) element_type)
read_failure de.EndOfStream = bare end_of_stream
read_failure (de.DeserializationError c) = bare (unreadable (cause_view c))
read_failure (de.WithPath' path p source) = placed (path_view path) (read_failure source)
read_failure de.NoMemory = no_memory

-- The failure that a reader answers with for a fault of the bytes: out of memory where that is the fault, else a refusal without a path.
abbrev pub raw_failure : raw.Error → Failure ReadFault
raw_failure NoMemory = no_memory
raw_failure fault = bare (unreadable (cause.raw fault))

-- the failure that a writer's error is
abbrev pub write_failure : ser.Error → Failure WriteFault
write_failure ser.Io = bare sink_failed
write_failure (ser.InvalidDocumentKey b) = bare (invalid_document_key (tree_of b))
write_failure (ser.InvalidCString t) = bare (invalid_cstring (string_bytes t))
write_failure (ser.UnsignedIntegerExceededRange n) = bare (unsigned_exceeds (pos n))
write_failure (ser.SerializationError c) = bare (unwritable (cause_view c))
write_failure (ser.WithPath' path p source) = placed (path_view path) (write_failure source)
write_failure ser.NoMemory = no_memory
