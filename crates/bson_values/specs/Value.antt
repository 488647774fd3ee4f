-- Values of serde's data model, without f32, i128, u128 and the names of enums, and with documents and arrays in their bytes and values of two forms. Source: serde's data model.
use Rattle.std.specs.Prelude.{ℕ, ℤ, pos, neg_ℤ, ◌^◌, ◌-◌, Bool, false, ◌&&◌, ◌||◌, not, int_lt, if◌then◌else◌, Option, Some, None, codes}
use Rattle.std.specs.Str.{bytes_eq}
use Rattle.bson_kinds.specs.Text.{Bytes, Utf8}
use Rattle.bson_kinds.specs.Reserved.{reserved_kind}
use Rattle.bson_kinds.specs.declared.element_type.ElementType.{ElementType}
use Rattle.bson_kinds.specs.declared.element_type.ElementType.TheVariants.{Double, String, EmbeddedDocument, Array, Binary, Boolean, Null, Int32, Int64}

-- the integer types
pub data IntegerType : Type 0 where
  i8 : IntegerType
  i16 : IntegerType
  i32 : IntegerType
  i64 : IntegerType
  u8 : IntegerType
  u16 : IntegerType
  u32 : IntegerType
  u64 : IntegerType

-- the negative of a number
abbrev pub minus : ℕ → ℤ
minus n = neg_ℤ (pos n)

-- the least number of a type
abbrev pub least : IntegerType → ℤ
least i8 = minus (2 ^ 7)
least i16 = minus (2 ^ 15)
least i32 = minus (2 ^ 31)
least i64 = minus (2 ^ 63)
least u8 = pos 0
least u16 = pos 0
least u32 = pos 0
least u64 = pos 0

-- the greatest number of a type
abbrev pub greatest : IntegerType → ℤ
greatest i8 = pos (2 ^ 7 - 1)
greatest i16 = pos (2 ^ 15 - 1)
greatest i32 = pos (2 ^ 31 - 1)
greatest i64 = pos (2 ^ 63 - 1)
greatest u8 = pos (2 ^ 8 - 1)
greatest u16 = pos (2 ^ 16 - 1)
greatest u32 = pos (2 ^ 32 - 1)
greatest u64 = pos (2 ^ 64 - 1)

-- the number is one of the type
abbrev pub in_range : IntegerType → ℤ → Bool
in_range type n = not (int_lt n (least type)) && not (int_lt (greatest type) n)

-- the kind that the numbers of a type are written as
abbrev pub written_as : IntegerType → ElementType
written_as i8 = Int32
written_as i16 = Int32
written_as i32 = Int32
written_as i64 = Int64
written_as u8 = Int32
written_as u16 = Int32
written_as u32 = Int64
written_as u64 = Int64

mutual
  -- a value, whose texts and byte strings are of this type
  pub data ValueOf (T : Type 0) : Type 0 where
    boolean : Bool → ValueOf T
    integer : (type : IntegerType) → (number : ℤ) → ValueOf T
    -- a floating point number of 64 bits, by its eight bytes
    double : Bytes → ValueOf T
    -- a character, by its code point
    character : ℕ → ValueOf T
    str : T → ValueOf T
    bytes : T → ValueOf T
    -- an optional value that is not there, and one that is
    none : ValueOf T
    some : ValueOf T → ValueOf T
    unit : ValueOf T
    unit_structure : (name : T) → ValueOf T
    unit_variant : (variant : T) → ValueOf T
    newtype : (name : T) → (value : ValueOf T) → ValueOf T
    newtype_variant : (variant : T) → (value : ValueOf T) → ValueOf T
    sequence : (items : ItemsOf T) → ValueOf T
    tuple : (items : ItemsOf T) → ValueOf T
    tuple_structure : (name : T) → (items : ItemsOf T) → ValueOf T
    tuple_variant : (variant : T) → (items : ItemsOf T) → ValueOf T
    map : (entries : EntriesOf T) → ValueOf T
    structure : (name : T) → (fields : FieldsOf T) → ValueOf T
    structure_variant : (variant : T) → (fields : FieldsOf T) → ValueOf T
    -- a document and an array, given by their bytes
    raw_document : T → ValueOf T
    raw_array : T → ValueOf T
    -- a value with two forms: one for formats that people read, and a compact one
    mode : (readable compact : ValueOf T) → ValueOf T

  -- the values of a sequence or a tuple, in order
  pub data ItemsOf (T : Type 0) : Type 0 where
    no_items : ItemsOf T
    item : (value : ValueOf T) → (rest : ItemsOf T) → ItemsOf T

  -- the entries of a map, in order
  pub data EntriesOf (T : Type 0) : Type 0 where
    no_entries : EntriesOf T
    entry : (key : ValueOf T) → (value : ValueOf T) → (rest : EntriesOf T) → EntriesOf T

  -- the fields of a struct or a variant with their values, in order
  pub data FieldsOf (T : Type 0) : Type 0 where
    no_field_values : FieldsOf T
    field_value : (name : T) → (value : ValueOf T) → (rest : FieldsOf T) → FieldsOf T

-- a value
abbrev pub Value : Type 0
Value = ValueOf Utf8

abbrev pub Items : Type 0
Items = ItemsOf Utf8

abbrev pub Entries : Type 0
Entries = EntriesOf Utf8

abbrev pub FieldValues : Type 0
FieldValues = FieldsOf Utf8

abbrev pub reserved_or_document : Option ElementType → ElementType
reserved_or_document (Some k) = k
reserved_or_document None = EmbeddedDocument

-- the kind that a struct of this name is written as: the kind that the name is reserved for, else a document
abbrev pub struct_kind : Utf8 → ElementType
struct_kind name = reserved_or_document (reserved_kind name)

-- the name of the newtype that a UUID is given by
abbrev pub uuid_newtype : Utf8
uuid_newtype = codes "$__bson_private_uuid"

-- the kind that a newtype of this name is written as: a UUID as a binary, any other as its content
abbrev pub newtype_kind : (name : Utf8) → (content : ElementType) → ElementType
newtype_kind name content = if bytes_eq name uuid_newtype then Binary else content

-- the name of the newtype whose content is given in its readable form
abbrev pub readable_newtype : Utf8
readable_newtype = codes "$__bson_private_human_readable"

-- whether the content of a newtype of this name is given in its readable form
abbrev pub readable_inside : Bool → Utf8 → Bool
readable_inside readable name = readable || bytes_eq name readable_newtype

-- the kind that a value is written as, in its readable form or in its compact one
abbrev pub kind_as : (readable : Bool) → Value → ElementType
kind_as readable (boolean b) = Boolean
kind_as readable (integer type n) = written_as type
kind_as readable (double bits) = Double
kind_as readable (character c) = String
kind_as readable (str t) = String
kind_as readable (bytes bs) = Binary
kind_as readable none = Null
kind_as readable (some v) = kind_as readable v
kind_as readable unit = Null
kind_as readable (unit_structure name) = Null
kind_as readable (unit_variant variant) = String
kind_as readable (newtype name v) = newtype_kind name (kind_as (readable_inside readable name) v)
kind_as readable (newtype_variant variant v) = EmbeddedDocument
kind_as readable (sequence is) = Array
kind_as readable (tuple is) = Array
kind_as readable (tuple_structure name is) = Array
kind_as readable (tuple_variant variant is) = EmbeddedDocument
kind_as readable (map es) = EmbeddedDocument
kind_as readable (structure name fs) = struct_kind name
kind_as readable (structure_variant variant fs) = EmbeddedDocument
kind_as readable (raw_document bs) = EmbeddedDocument
kind_as readable (raw_array bs) = Array
kind_as readable (mode r c) = if readable then kind_as readable r else kind_as readable c

-- the kind that a value is written as, in its compact form
abbrev pub kind_of : Value → ElementType
kind_of v = kind_as false v
