-- The kinds of BSON values. Source: bsonspec.org, version 1.1, `element`.
use Rattle.std.specs.Prelude.{ℕ, List, [], ◌∷◌, eqb, if◌then◌else◌, Option, Some, None, codes}
use Rattle.bson_kinds.specs.declared.element_type.ElementType.{ElementType}
use Rattle.bson_kinds.specs.declared.element_type.ElementType.TheVariants.{Double, String, EmbeddedDocument, Array, Binary, Undefined, ObjectId, Boolean, DateTime, Null, RegularExpression, DbPointer, JavaScriptCode, Symbol, JavaScriptCodeWithScope, Int32, Timestamp, Int64, Decimal128, MaxKey, MinKey}
use Rattle.bson_kinds.specs.Text.{Utf8}

-- the byte before an element's key
abbrev pub byte : ElementType → ℕ
byte Double = 0x01
byte String = 0x02
byte EmbeddedDocument = 0x03
byte Array = 0x04
byte Binary = 0x05
byte Undefined = 0x06
byte ObjectId = 0x07
byte Boolean = 0x08
byte DateTime = 0x09
byte Null = 0x0a
byte RegularExpression = 0x0b
byte DbPointer = 0x0c
byte JavaScriptCode = 0x0d
byte Symbol = 0x0e
byte JavaScriptCodeWithScope = 0x0f
byte Int32 = 0x10
byte Timestamp = 0x11
byte Int64 = 0x12
byte Decimal128 = 0x13
byte MaxKey = 0x7f
byte MinKey = 0xff

-- all kinds
abbrev pub kinds : List ElementType
kinds =
    Double ∷ String ∷ EmbeddedDocument ∷ Array ∷ Binary ∷ Undefined ∷ ObjectId ∷ Boolean ∷ DateTime ∷ Null ∷ RegularExpression ∷ DbPointer
    ∷ JavaScriptCode ∷ Symbol ∷ JavaScriptCodeWithScope ∷ Int32 ∷ Timestamp ∷ Int64 ∷ Decimal128 ∷ MaxKey ∷ MinKey ∷ []

-- the one of these kinds that has the byte
abbrev pub with_byte : ℕ → List ElementType → Option ElementType
with_byte b [] = None
with_byte b (k ∷ ks) = if eqb b (byte k) then Some k else with_byte b ks

-- the kind that has the byte
abbrev pub of_byte : ℕ → Option ElementType
of_byte b = with_byte b kinds

-- the name that is printed
abbrev pub name : ElementType → Utf8
name Double = codes "Double"
name String = codes "String"
name EmbeddedDocument = codes "EmbeddedDocument"
name Array = codes "Array"
name Binary = codes "Binary"
name Undefined = codes "Undefined"
name ObjectId = codes "ObjectId"
name Boolean = codes "Boolean"
name DateTime = codes "DateTime"
name Null = codes "Null"
name RegularExpression = codes "RegularExpression"
name DbPointer = codes "DbPointer"
name JavaScriptCode = codes "JavaScriptCode"
name Symbol = codes "Symbol"
name JavaScriptCodeWithScope = codes "JavaScriptCodeWithScope"
name Int32 = codes "Int32"
name Timestamp = codes "Timestamp"
name Int64 = codes "Int64"
name Decimal128 = codes "Decimal128"
name MaxKey = codes "MaxKey"
name MinKey = codes "MinKey"
