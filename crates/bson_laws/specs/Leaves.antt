-- The kinds of leaves; `Taken` and `ReadsExtended` say what each takes where it is read. Source: serde's data model, and the extended types of MongoDB's crate bson, version 2.
use Rattle.bson_kinds.specs.declared.element_type.ElementType.{ElementType}
use Rattle.bson_kinds.specs.declared.element_type.ElementType.TheVariants as kinds
use Rattle.bson_shape.specs.declared.leaf.Leaf.{Leaf}
use Rattle.bson_shape.specs.declared.leaf.Leaf.TheVariants.{Any, Ignored, Bool, I8, I16, I32, I64, U8, U16, U32, U64, Double, Char, Str, String, Bytes, ByteBuf, Unit, ObjectId, DateTime, Binary, Timestamp, Regex, CodeWithScope, Decimal128, DbPointer, Uuid, Bson, Document, RawDocument, RawArray, RawBson}
use Rattle.bson_values.specs.Value.{IntegerType, i8, i16, i32, i64, u8, u16, u32, u64}

-- what an extended leaf takes: one whose values serde's data model lacks
pub data ExtendedLeaf : Type 0 where
  -- an ObjectId; its digits, its bytes, or a document that stands for one
  object_ids : ExtendedLeaf
  -- a UUID: a binary of subtype 4, its text, or a document that stands for a binary
  uuids : ExtendedLeaf
  -- a value of this kind, or a document that stands for one
  of_kind : ElementType → ExtendedLeaf
  -- every value, as a tree
  trees : ExtendedLeaf
  -- a document, as a tree
  documents : ExtendedLeaf

pub data LeafKind : Type 0 where
  -- every value; one of an extended kind is read as the document that it is opened to, and has no view
  anything : LeafKind
  -- every value, of which nothing is kept
  ignored : LeafKind
  booleans : LeafKind
  -- the numbers of an integer type
  numbers : IntegerType → LeafKind
  doubles : LeafKind
  characters : LeafKind
  texts : LeafKind
  byte_strings : LeafKind
  -- byte strings, also where they are given as an array of numbers
  byte_buffers : LeafKind
  units : LeafKind
  extended_values : ExtendedLeaf → LeafKind
  -- a document and an array, in their bytes
  raw_documents : LeafKind
  raw_arrays : LeafKind
  -- every value, of which documents, arrays and scopes stay in their bytes
  raw_values : LeafKind

abbrev pub leaf_kind : Leaf → LeafKind
leaf_kind Any = anything
leaf_kind Ignored = ignored
leaf_kind Bool = booleans
leaf_kind I8 = numbers i8
leaf_kind I16 = numbers i16
leaf_kind I32 = numbers i32
leaf_kind I64 = numbers i64
leaf_kind U8 = numbers u8
leaf_kind U16 = numbers u16
leaf_kind U32 = numbers u32
leaf_kind U64 = numbers u64
leaf_kind Double = doubles
leaf_kind Char = characters
leaf_kind Str = texts
leaf_kind String = texts
leaf_kind Bytes = byte_strings
leaf_kind ByteBuf = byte_buffers
leaf_kind Unit = units
leaf_kind ObjectId = extended_values object_ids
leaf_kind DateTime = extended_values (of_kind kinds.DateTime)
leaf_kind Binary = extended_values (of_kind kinds.Binary)
leaf_kind Timestamp = extended_values (of_kind kinds.Timestamp)
leaf_kind Regex = extended_values (of_kind kinds.RegularExpression)
leaf_kind CodeWithScope = extended_values (of_kind kinds.JavaScriptCodeWithScope)
leaf_kind Decimal128 = extended_values (of_kind kinds.Decimal128)
leaf_kind DbPointer = extended_values (of_kind kinds.DbPointer)
leaf_kind Uuid = extended_values uuids
leaf_kind Bson = extended_values trees
leaf_kind Document = extended_values documents
leaf_kind RawDocument = raw_documents
leaf_kind RawArray = raw_arrays
leaf_kind RawBson = raw_values
