-- What documents become by their first keys, where the values of these have the forms. Source: MongoDB's extended JSON, version 2, as values are carried through serde's
-- data model, with `$numberDecimalBytes`.
use Rattle.std.specs.Prelude.{ℕ, ℤ, nat_eq, Bool, true, false, if◌then◌else◌, length, Option, Some, None, option_map, option_and_then, Ok, codes}
use Rattle.bson_base.specs.Folded.{at, text_of, plain_bytes, of_text, of_pairs, is_int32, byte_of, uint32_of}
use Rattle.bson_base.specs.Parsed.{bytes_of_digits}
use Rattle.bson_base.specs.Sound.{max_levels}
use Rattle.bson_kinds.specs.Text.{Bytes}
use Rattle.bson_base.specs.Tree.{Tree, string, document, binary, undefined, object_id, boolean, date_time, regular_expression, db_pointer, symbol, int32, timestamp, int64, decimal128, max_key, min_key, Pairs}
use Rattle.bson_rawdoc.specs.Node.{from_memory, tree_node}
use Rattle.bson_values.specs.declared.wrapper.Wrapper.{Wrapper}
use Rattle.bson_values.specs.declared.wrapper.Wrapper.TheVariants.{Oid, Symbol, Binary, Code, Timestamp, RegularExpression, DbPointer, Date, MinKey, MaxKey, Undefined, NumberDecimalBytes}
use Rattle.bson_laws.specs.Judged.{Reading}
use Rattle.bson_laws.specs.Trees.{read_tree}
use Rattle.bson_laws.specs.Wrapped.{tree_if}

-- ---- parts

-- the number of an Int32 or an Int64
abbrev pub number_in : Tree → Option ℤ
number_in (int32 n) = Some n
number_in (int64 n) = Some n
number_in t = None

-- a number in a byte, and in 32 bits without a sign
abbrev pub byte_in : Tree → Option ℕ
byte_in t = option_and_then byte_of (number_in t)

abbrev pub uint32_in : Tree → Option ℕ
uint32_in t = option_and_then uint32_of (number_in t)

-- bytes that are as many as this
abbrev pub of_count : ℕ → Bytes → Option Bytes
of_count n b = if nat_eq (length b) n then Some b else None

-- the bytes of a binary of subtype 0, where they are as many as this
abbrev pub bytes_in : ℕ → Tree → Option Bytes
bytes_in n t = option_and_then (of_count n) (plain_bytes t)

-- the id that a text of 24 hexadecimal digits or twelve bytes are
abbrev pub id_given : Tree → Option Bytes
id_given (string t) = bytes_of_digits 12 t
id_given t = bytes_in 12 t

-- the id, where an ObjectId was read
abbrev pub id_read : Reading Tree → Option Bytes
id_read (Ok (object_id id)) = Some id
id_read r = None

-- the same, or that of an ObjectId itself, or of a document that is read as one
abbrev pub id_in : Tree → Option Bytes
id_in (object_id id) = Some id
id_in (document ps) = id_read (read_tree (tree_node from_memory (document ps) max_levels))
id_in t = id_given t

-- ---- the values of first keys; further pairs of an inner document are not looked at

-- the options are not put in order
abbrev pub regular_expression_of : Pairs → Option Tree
regular_expression_of ps = option_and_then (λ p. option_map (regular_expression p) (at (codes "options") text_of ps)) (at (codes "pattern") text_of ps)

abbrev pub is_boolean : Tree → Bool
is_boolean (boolean b) = true
is_boolean t = false

abbrev pub binary_of : Pairs → Option Tree
binary_of ps = option_and_then (λ b. option_map (λ n. binary n b) (at (codes "subType") byte_in ps)) (at (codes "bytes") plain_bytes ps)

abbrev pub timestamp_of : Pairs → Option Tree
timestamp_of ps = option_and_then (λ t. option_map (timestamp t) (at (codes "i") uint32_in ps)) (at (codes "t") uint32_in ps)

-- a number in the range of an Int32
abbrev pub some_int32 : Option ℤ → Bool
some_int32 (Some n) = is_int32 n
some_int32 None = false

abbrev pub is_in_int32 : Tree → Bool
is_in_int32 t = some_int32 (number_in t)

abbrev pub db_pointer_of : Pairs → Option Tree
db_pointer_of ps = option_and_then (λ n. option_map (db_pointer n) (at (codes "$id") id_in ps)) (at (codes "$ref") text_of ps)

-- ---- the first keys

-- how a document with this first key is looked at
pub data FirstKey : Type 0 where
  -- it becomes what the value of the key stands for, where that has the form; further pairs are not looked at
  body : (Tree → Option Tree) → FirstKey
  -- the value of the key is the text of a code, after which a scope may come
  code : FirstKey
  -- it stays a document
  ordinary : FirstKey

abbrev pub first_key : Wrapper → FirstKey
first_key Oid = body (λ t. option_map object_id (id_given t))
first_key Symbol = body (of_text (λ t. Some (symbol t)))
first_key NumberDecimalBytes = body (λ t. option_map decimal128 (bytes_in 16 t))
first_key RegularExpression = body (of_pairs regular_expression_of)
first_key Undefined = body (λ t. tree_if (is_boolean t) undefined)
first_key Binary = body (of_pairs binary_of)
first_key Date = body (λ t. option_map date_time (number_in t))
first_key Timestamp = body (of_pairs timestamp_of)
first_key MinKey = body (λ t. tree_if (is_in_int32 t) min_key)
first_key MaxKey = body (λ t. tree_if (is_in_int32 t) max_key)
first_key DbPointer = body (of_pairs db_pointer_of)
first_key Code = code
first_key w = ordinary
