-- Reading a judged value in its bytes. Source: the raw types and the reserved names of MongoDB's crate bson, version 2.
use Rattle.std.specs.Prelude.{pos, Ok, codes}
use Rattle.bson_base.specs.Made.{digits}
use Rattle.bson_kinds.specs.Outcome.{◌>>=◌, result_map}
use Rattle.bson_base.specs.Tree as tree
use Rattle.bson_rawdoc.specs.Node.{of_bytes, Whole, Node, double, string, document, array, bytes, boolean, null, int32, int64, extended, Extended, binary, undefined, object_id, date_time, regular_expression, db_pointer, javascript_code, symbol, javascript_code_with_scope, timestamp, decimal128, max_key, min_key, kind_of}
use Rattle.bson_kinds.specs.Piece.{Piece, borrowed, made}
use Rattle.bson_values.specs.Cause.{invalid_type, not_borrowed}
use Rattle.bson_values.specs.Marked.{Marked}
use Rattle.bson_values.specs.Refusal.{under}
use Rattle.bson_values.specs.Value as value
use Rattle.bson_values.specs.Value.{i32, i64, u8}
use Rattle.bson_laws.specs.Datum.{datum, one, two, nameless, wrapped}
use Rattle.bson_laws.specs.Judged.{Reading, refused, judged, scope_key}

-- the bytes of a document or an array of the input, which are borrowed; one that is made has none, nor has one in memory
abbrev pub slice_of : Whole → Reading Piece
slice_of (of_bytes b) = Ok (borrowed b)
slice_of w = refused not_borrowed

-- a document in its bytes
abbrev pub raw_document_of : Node → Reading Piece
raw_document_of (document slice ns) = slice_of slice
raw_document_of n = refused (invalid_type (kind_of n))

-- an array in its bytes
abbrev pub raw_array_of : Node → Reading Piece
raw_array_of (array slice ns) = slice_of slice
raw_array_of n = refused (invalid_type (kind_of n))

-- the struct of a code with a scope that stays in its bytes
abbrev pub scoped_code : Piece → Piece → Marked
scoped_code code scope = value.structure (made (codes "$codeWithScope")) (two made (codes "$code") (value.str code) (codes "$scope") (value.raw_document scope))

-- the struct of a decimal of these bytes
abbrev pub decimal_struct : Piece → Marked
decimal_struct bits = value.structure (made (codes "$numberDecimal")) (one made (codes "$numberDecimalBytes") (value.bytes bits))

-- An extended value as the struct of a reserved name. Its texts and the bytes of a binary or a decimal are borrowed where they are in the input, and the options of a
-- regular expression stay as they are; a scope is a document in its bytes. The digits of ids are owned.
abbrev pub raw_extended : Extended → Reading Marked
raw_extended (binary subtype b) = Ok (wrapped made (codes "$binary") (nameless made (two made (codes "bytes") (value.bytes b) (codes "subType") (value.integer u8 (pos subtype)))))
raw_extended (regular_expression pattern options) = Ok (wrapped made (codes "$regularExpression") (nameless made (two made (codes "pattern") (value.str pattern) (codes "options") (value.str options))))
raw_extended (db_pointer namespace id) =
    Ok (wrapped made (codes "$dbPointer") (nameless made (two made (codes "$ref") (value.str namespace) (codes "$id") (nameless made (one made (codes "$oid") (value.str (made (digits id))))))))
raw_extended (javascript_code t) = Ok (wrapped made (codes "$code") (value.str t))
raw_extended (symbol t) = Ok (wrapped made (codes "$symbol") (value.str t))
raw_extended (javascript_code_with_scope code scope) = result_map (scoped_code code) (under scope_key (judged scope >>= raw_document_of))
raw_extended undefined = Ok (datum made tree.undefined)
raw_extended (object_id id) = Ok (datum made (tree.object_id id.bytes))
raw_extended (date_time n) = Ok (datum made (tree.date_time n))
raw_extended (timestamp time increment) = Ok (datum made (tree.timestamp time increment))
raw_extended (decimal128 b) = Ok (decimal_struct b)
raw_extended max_key = Ok (datum made tree.max_key)
raw_extended min_key = Ok (datum made tree.min_key)

-- A value, of which documents, arrays and scopes stay in their bytes. Texts and byte strings are borrowed where they are in the input: under a mark no text is,
-- and a byte string is. The last row is for values that are broken or without a level, which were refused when they were judged.
abbrev pub raw_value_of : Node → Reading Marked
raw_value_of (document slice ns) = result_map value.raw_document (slice_of slice)
raw_value_of (array slice ns) = result_map value.raw_array (slice_of slice)
raw_value_of (double bits) = Ok (value.double bits)
raw_value_of (string t) = Ok (value.str t)
raw_value_of (bytes u b) = Ok (value.bytes b)
raw_value_of (boolean b) = Ok (value.boolean b)
raw_value_of null = Ok value.unit
raw_value_of (int32 n) = Ok (value.integer i32 n)
raw_value_of (int64 n) = Ok (value.integer i64 n)
raw_value_of (extended x ns) = raw_extended x
raw_value_of n = refused (invalid_type (kind_of n))
