-- The values of wrapper keys: the shape that each is read at, and what is made of it. Source: MongoDB's extended JSON, version 2, with `$numberDecimalBytes`.
use Rattle.std.specs.Prelude.{ℕ, ℤ, pos, unsigned_abs, [], ◌∷◌, Bool, true, false, if◌then◌else◌, Option, Some, None, option_map, option_and_then, Ok, codes, length, nat_eq}
use Rattle.std.specs.Ordering.{int_eq}
use Rattle.std.specs.Str.{bytes_eq}
use Rattle.uuid.specs.Text.{parsed}
use Rattle.bson_dates.specs.DateText.{date_of_text}
use Rattle.bson_kinds.specs.Outcome.{◌>>=◌, result_map}
use Rattle.bson_base.specs.Parsed.{bytes_of_digits, integer_of_text, bytes_of_base64}
use Rattle.bson_base.specs.Sorted.{sorted}
use Rattle.bson_kinds.specs.Text.{Bytes, Utf8}
use Rattle.bson_base.specs.Tree as tree
use Rattle.bson_base.specs.Tree.{Tree}
use Rattle.bson_rawdoc.specs.Node.{Node, string, bytes, kind_of}
use Rattle.bson_shape.specs.Form.{dropped, Form, leaf, structure, no_fields, field}
use Rattle.bson_shape.specs.declared.leaf.Leaf.TheVariants.{U8, U32}
use Rattle.bson_shape.specs.declared.leaf.Leaf.TheVariants as leaves
use Rattle.bson_values.specs.Cause.{invalid_type}
use Rattle.bson_values.specs.Marked.{contents}
use Rattle.bson_values.specs.Value as value
use Rattle.bson_values.specs.Value.{i32, in_range, Value, no_field_values, field_value}
use Rattle.bson_values.specs.declared.wrapper.Wrapper.{Wrapper}
use Rattle.bson_values.specs.declared.wrapper.Wrapper.TheVariants.{Oid, Symbol, NumberInt, NumberLong, NumberDouble, Binary, Uuid, Code, Scope, Timestamp, RegularExpression, DbPointer, Date, MinKey, MaxKey, Undefined, NumberDecimalBytes}
use Rattle.bson_laws.specs.Judged.{Reading, refused, judged}
use Rattle.bson_laws.specs.ReadsLeaf.{no_extended}
use Rattle.bson_laws.specs.Shaped.{reads}
use Rattle.bson_laws.specs.Taken.{text_of}

-- ---- what texts and bytes stand for

abbrev pub id_of_text : Utf8 → Option Tree
id_of_text t = option_map tree.object_id (bytes_of_digits 12 t)

abbrev pub int32_of : ℤ → Option Tree
int32_of n = if in_range i32 n then Some (tree.int32 n) else None

-- the three texts of infinities and of NaN
abbrev pub double_of_text : Utf8 → Option Tree
double_of_text t =
    if bytes_eq t (codes "Infinity") then Some (tree.double (0 ∷ 0 ∷ 0 ∷ 0 ∷ 0 ∷ 0 ∷ 0xf0 ∷ 0x7f ∷ []))
    else if bytes_eq t (codes "-Infinity") then Some (tree.double (0 ∷ 0 ∷ 0 ∷ 0 ∷ 0 ∷ 0 ∷ 0xf0 ∷ 0xff ∷ []))
    else if bytes_eq t (codes "NaN") then Some (tree.double (0 ∷ 0 ∷ 0 ∷ 0 ∷ 0 ∷ 0 ∷ 0xf8 ∷ 0x7f ∷ []))
    else None

-- the one byte of a list that has one, as that of two digits has
abbrev pub one_byte : Bytes → Option ℕ
one_byte (b ∷ []) = Some b
one_byte bs = None

-- standard base64, and two hexadecimal digits
abbrev pub binary_of_texts : (base64 subtype : Utf8) → Option Tree
binary_of_texts base64 subtype = option_and_then (λ b. option_map (λ n. tree.binary n b) (option_and_then one_byte (bytes_of_digits 1 subtype))) (bytes_of_base64 base64)

-- bytes that are as many as this
abbrev pub of_length : ℕ → (Bytes → Tree) → Bytes → Option Tree
of_length n make b = if nat_eq (length b) n then Some (make b) else None

-- ---- what is made of a value that was read; no value of another form is read at the shapes below

abbrev pub a_text : (Utf8 → Option Tree) → Value → Option Tree
a_text make (value.str t) = make t
a_text make v = None

abbrev pub a_number : (ℤ → Option Tree) → Value → Option Tree
a_number make (value.integer type n) = make n
a_number make v = None

abbrev pub a_boolean : (Bool → Option Tree) → Value → Option Tree
a_boolean make (value.boolean b) = make b
a_boolean make v = None

abbrev pub some_bytes : (Bytes → Option Tree) → Value → Option Tree
some_bytes make (value.bytes b) = make b
some_bytes make v = None

-- of the value of a struct's one field, and of those of its two
abbrev pub a_field : (Value → Option Tree) → Value → Option Tree
a_field make (value.structure name (field_value key v no_field_values)) = make v
a_field make v = None

abbrev pub two_fields : (Value → Value → Option Tree) → Value → Option Tree
two_fields make (value.structure name (field_value key v (field_value other w no_field_values))) = make v w
two_fields make v = None

-- of two texts, and of two numbers
abbrev pub two_texts : (Utf8 → Utf8 → Option Tree) → Value → Option Tree
two_texts make = two_fields (λ v w. a_text (λ t. a_text (make t) w) v)

abbrev pub two_numbers : (ℤ → ℤ → Option Tree) → Value → Option Tree
two_numbers make = two_fields (λ v w. a_number (λ n. a_number (make n) w) v)

-- this tree, where the test holds
abbrev pub tree_if : Bool → Tree → Option Tree
tree_if true t = Some t
tree_if false t = None

-- the number one
abbrev pub being_one : Tree → ℤ → Option Tree
being_one t n = tree_if (int_eq n (pos 1)) t

-- ---- the shapes of the values

abbrev pub text : Form
text = leaf leaves.String

-- a struct of one field, and of two
abbrev pub with_field : Utf8 → Form → Form
with_field name s = structure dropped [] (field name s no_fields)

abbrev pub with_fields : Utf8 → Form → Utf8 → Form → Form
with_fields name s other r = structure dropped [] (field name s (field other r no_fields))

-- ---- the wrapper keys

-- what the value of a wrapper key is read as: a tree, or none where it is not valid
abbrev pub Body : Type 0
Body = Node → Reading (Option Tree)

-- a value read at `string`
abbrev pub text_at : Node → Reading Utf8
text_at n = result_map (λ t. t.bytes) (judged n >>= text_of false)

abbrev pub text_body : (Utf8 → Option Tree) → Body
text_body make n = result_map make (text_at n)

-- a value read at a shape as every other value is, and what is made of it
abbrev pub at : Form → (Value → Option Tree) → Body
at s make n = result_map (λ v. make (contents v)) (reads no_extended s n)

-- a judged value that is a text of 24 hexadecimal digits, or twelve bytes
abbrev pub oid_body : Body
oid_body (string t) = Ok (id_of_text t.bytes)
oid_body (bytes u b) = Ok (of_length 12 tree.object_id b.bytes)
oid_body n = refused (invalid_type (kind_of n))

-- a judged value that is the text of a date, or else milliseconds in a struct
abbrev pub date_body : Body
date_body (string t) = Ok (option_map tree.date_time (date_of_text t.bytes))
date_body n = at (with_field (codes "$numberLong") text) (a_field (a_text (λ t. option_map tree.date_time (integer_of_text t)))) n

-- a value, judged first
abbrev pub judging : Body → Body
judging body n = judged n >>= body

-- how a document with a wrapper key is read
pub data Meaning : Type 0 where
  -- the value of the key is its body, and further elements stay unread
  body : Body → Meaning
  -- the value of the key is the text of a code, after which a scope may come
  code : Meaning
  -- the value of the key is a scope, after which a code comes
  scope : Meaning

-- what the text that is the value of a wrapper key stands for
abbrev pub tree_of_text : Wrapper → Utf8 → Option Tree
tree_of_text Symbol = λ t. Some (tree.symbol t)
tree_of_text NumberInt = λ t. option_and_then int32_of (integer_of_text t)
tree_of_text NumberLong = λ t. option_map tree.int64 (integer_of_text t)
tree_of_text NumberDouble = double_of_text
tree_of_text Uuid = λ t. option_map (tree.binary 4) (parsed t)
tree_of_text w = λ t. None

abbrev pub meaning : Wrapper → Meaning
meaning Oid = body (judging oid_body)
meaning Binary = body (at (with_fields (codes "base64") text (codes "subType") text) (two_texts binary_of_texts))
meaning Code = code
meaning Scope = scope
meaning Timestamp = body (at (with_fields (codes "t") (leaf U32) (codes "i") (leaf U32)) (two_numbers (λ t i. Some (tree.timestamp (unsigned_abs t) (unsigned_abs i)))))
meaning RegularExpression = body (at (with_fields (codes "pattern") text (codes "options") text) (two_texts (λ p o. Some (tree.regular_expression p (sorted o)))))
meaning DbPointer =
    body (at (with_fields (codes "$ref") text (codes "$id") (with_field (codes "$oid") text))
    (two_fields (λ v w. a_text (λ t. a_field (a_text (λ id. option_map (tree.db_pointer t) (bytes_of_digits 12 id))) w) v)))
meaning Date = body (judging date_body)
meaning MinKey = body (at (leaf U8) (a_number (being_one tree.min_key)))
meaning MaxKey = body (at (leaf U8) (a_number (being_one tree.max_key)))
meaning Undefined = body (at (leaf leaves.Bool) (a_boolean (λ b. tree_if b tree.undefined)))
meaning NumberDecimalBytes = body (at (leaf leaves.ByteBuf) (some_bytes (of_length 16 tree.decimal128)))
meaning w = body (text_body (tree_of_text w))
