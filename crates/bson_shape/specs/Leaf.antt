-- The leaf words of the notation. Source: this library's own notation.
use Rattle.std.specs.Prelude.{Bool as Test, true, false, List, [], ◌∷◌, if◌then◌else◌, Option, Some, None, codes}
use Rattle.std.specs.Str.{bytes_eq}
use Rattle.bson_kinds.specs.Text.{Utf8}
use Rattle.bson_shape.specs.declared.leaf.Leaf.{Leaf}
use Rattle.bson_shape.specs.declared.leaf.Leaf.TheVariants.{Any, Ignored, Bool, I8, I16, I32, I64, U8, U16, U32, U64, Double, Char, Str, String, Bytes, ByteBuf, Unit, ObjectId, DateTime, Binary, Timestamp, Regex, CodeWithScope, Decimal128, DbPointer, Uuid, Bson, Document, RawDocument, RawArray, RawBson}

abbrev pub word : Leaf → Utf8
word Any = codes "any"
word Ignored = codes "ignored"
word Bool = codes "bool"
word I8 = codes "i8"
word I16 = codes "i16"
word I32 = codes "i32"
word I64 = codes "i64"
word U8 = codes "u8"
word U16 = codes "u16"
word U32 = codes "u32"
word U64 = codes "u64"
word Double = codes "double"
word Char = codes "char"
word Str = codes "str"
word String = codes "string"
word Bytes = codes "bytes"
word ByteBuf = codes "bytebuf"
word Unit = codes "unit"
word ObjectId = codes "oid"
word DateTime = codes "datetime"
word Binary = codes "binary"
word Timestamp = codes "timestamp"
word Regex = codes "regex"
word CodeWithScope = codes "codews"
word Decimal128 = codes "decimal"
word DbPointer = codes "dbpointer"
word Uuid = codes "uuid"
word Bson = codes "bson"
word Document = codes "document"
word RawDocument = codes "rawdoc"
word RawArray = codes "rawarray"
word RawBson = codes "rawbson"

-- a text
abbrev pub is_text : Leaf → Test
is_text Char = true
is_text Str = true
is_text String = true
is_text l = false

-- all leaves
abbrev pub leaves : List Leaf
leaves = Any ∷ Ignored ∷ Bool ∷ I8 ∷ I16 ∷ I32 ∷ I64 ∷ U8 ∷ U16 ∷ U32 ∷ U64 ∷ Double ∷ Char ∷ Str ∷ String ∷ Bytes ∷ ByteBuf ∷ Unit ∷ ObjectId ∷ DateTime ∷ Binary ∷ Timestamp ∷ Regex ∷ CodeWithScope ∷ Decimal128 ∷ DbPointer ∷ Uuid ∷ Bson ∷ Document ∷ RawDocument ∷ RawArray ∷ RawBson ∷ []

-- the one of these leaves that has the word
abbrev pub with_word : Utf8 → List Leaf → Option Leaf
with_word w [] = None
with_word w (l ∷ ls) = if bytes_eq w (word l) then Some l else with_word w ls

-- the leaf that a word stands for
unfoldable pub of_word : Utf8 → Option Leaf
of_word w = with_word w leaves
