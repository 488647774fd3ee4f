-- What contracts see of a `RawBsonRef`. Source: this library's own types.
use Rattle.bson_base.specs.Instant.{millis}
use Rattle.bson_rawdoc.specs.RawValue as raw
use Rattle.bson_rawdoc.specs.DocumentView.{document_bytes, array_bytes}
use Rattle.bson_rawdoc.specs.declared.value.RawBsonRef.{RawBsonRef}
use Rattle.bson_rawdoc.specs.declared.value.RawBsonRef.TheVariants.{Double, String, Array, Document, Boolean, Null, RegularExpression, JavaScriptCode, JavaScriptCodeWithScope, Int32, Int64, Timestamp, Binary, ObjectId, DateTime, Symbol, Decimal128, Undefined, MaxKey, MinKey, DbPointer}

-- the value that it borrows
abbrev pub raw_value : RawBsonRef → raw.RawValue
raw_value (Double d) = raw.double d.0
raw_value (String t) = raw.string t.now
raw_value (Array a) = raw.array (array_bytes a)
raw_value (Document d) = raw.document (document_bytes d)
raw_value (Boolean b) = raw.boolean b
raw_value Null = raw.null
raw_value (RegularExpression pattern options) = raw.regular_expression pattern.now options.now
raw_value (JavaScriptCode t) = raw.javascript_code t.now
raw_value (JavaScriptCodeWithScope code scope) = raw.javascript_code_with_scope code.now (document_bytes scope)
raw_value (Int32 n) = raw.int32 n
raw_value (Int64 n) = raw.int64 n
raw_value (Timestamp t) = raw.timestamp t.time t.increment
raw_value (Binary subtype bytes) = raw.binary subtype.0 bytes.now
raw_value (ObjectId id) = raw.object_id id.0
raw_value (DateTime d) = raw.date_time (millis d)
raw_value (Symbol t) = raw.symbol t.now
raw_value (Decimal128 d) = raw.decimal128 d.0
raw_value Undefined = raw.undefined
raw_value MaxKey = raw.max_key
raw_value MinKey = raw.min_key
raw_value (DbPointer namespace id) = raw.db_pointer namespace.now id.0
