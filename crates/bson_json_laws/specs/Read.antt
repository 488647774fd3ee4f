-- The BSON value that a JSON value stands for, in either form, or the first refusal in it. Source: MongoDB's extended JSON, version 2, "Parsers".
use Rattle.std.specs.Prelude.{ℕ, suc, ◌&&◌, if◌then◌else◌, ℤ, Option, Some, None, option_map, option_and_then, is_some, codes, Ok, Err}
use Rattle.std.specs.Str.{bytes_eq}
use Rattle.json.specs.Json as json
use Rattle.json.specs.Json.{Json, Items, no_items, item, Members, no_members, member, object}
use Rattle.bson_dates.specs.DateText.{date_of_text}
use Rattle.bson_decimals.specs.Reading.{decimal_of_text}
use Rattle.bson_kinds.specs.Outcome.{◌>>=◌, result_map}
use Rattle.bson_kinds.specs.Text.{Utf8}
use Rattle.bson_base.specs.Folded.{text_of, object_id_in, is_int32, byte_of_digits, of_text, of_pairs, of_one, of_true, object_id_of_text, int32_of_text, int64_of_text, uuid_of_text, value_of_keys, uint32_of}
use Rattle.bson_base.specs.Pairs.{lookup, put}
use Rattle.bson_base.specs.Parsed.{integer_of_text, bytes_of_base64}
use Rattle.bson_base.specs.Sorted.{sorted}
use Rattle.bson_base.specs.Tree.{Tree, double, string, document, array, binary, undefined, boolean, date_time, null, regular_expression, db_pointer, javascript_code, symbol, int32, timestamp, int64, decimal128, max_key, min_key, Pairs, no_pairs, pair, Trees, no_trees, tree}
use Rattle.bson_values.specs.Refusal.{here, in_segment, at_key, under, under_index}
use Rattle.bson_values.specs.declared.wrapper.Wrapper.{Wrapper}
use Rattle.bson_values.specs.declared.wrapper.Wrapper.TheVariants.{Oid, Symbol, NumberInt, NumberLong, NumberDouble, Binary, Uuid, Code, Scope, Timestamp, RegularExpression, DbPointer, Date, MinKey, MaxKey, Undefined, NumberDecimal, NumberDecimalBytes}
use Rattle.bson_json_laws.specs.Doubles.{double_of_numeral, double_of_text}
use Rattle.bson_json_laws.specs.Unread.{Reading, or_refused, bad_wrapper, key_twice, too_large}
use Rattle.bson_json_laws.specs.WrapperKeys.{first_wrapper}

-- ---- numbers

-- an integer takes the smaller of the two kinds that hold it
abbrev pub integer_tree : ℤ → Tree
integer_tree n = if is_int32 n then int32 n else int64 n

-- an integer in the range of an Int64 is one; every other number is the nearest double, where it is not too large for one
abbrev pub integer_or_double : Utf8 → Option ℤ → Reading Tree
integer_or_double s (Some n) = Ok (integer_tree n)
integer_or_double s None = or_refused too_large (option_map double (double_of_numeral s))

abbrev pub number_tree : Utf8 → Reading Tree
number_tree s = integer_or_double s (integer_of_text s)

-- ---- the forms of the wrapper keys

-- of exactly these two keys, in either order
abbrev pub both : Utf8 → Utf8 → (Tree → Tree → Option Tree) → Pairs → Option Tree
both a b f (pair k t (pair l u no_pairs)) = if bytes_eq k a && bytes_eq l b then f t u else if bytes_eq k b && bytes_eq l a then f u t else None
both a b f ps = None

abbrev pub double_tree : Utf8 → Option Tree
double_tree s = option_map double (double_of_text s)

abbrev pub decimal_tree : Utf8 → Option Tree
decimal_tree s = option_map decimal128 (decimal_of_text s)

-- standard base64, and two hexadecimal digits of a subtype
abbrev pub binary_of : Tree → Tree → Option Tree
binary_of base64 subtype = option_and_then (λ bytes. option_map (λ n. binary n bytes) (option_and_then byte_of_digits (text_of subtype))) (option_and_then bytes_of_base64 (text_of base64))

-- a number from 0 to 2 ^ 32 - 1
abbrev pub uint32_in : Tree → Option ℕ
uint32_in (int32 n) = uint32_of n
uint32_in (int64 n) = uint32_of n
uint32_in t = None

abbrev pub timestamp_of : Tree → Tree → Option Tree
timestamp_of time increment = option_and_then (λ t. option_map (timestamp t) (uint32_in increment)) (uint32_in time)

abbrev pub regular_expression_of : Tree → Tree → Option Tree
regular_expression_of pattern options = option_and_then (λ p. option_map (λ o. regular_expression p (sorted o)) (text_of options)) (text_of pattern)

abbrev pub db_pointer_of : Tree → Tree → Option Tree
db_pointer_of namespace id = option_and_then (λ n. option_map (db_pointer n) (object_id_in id)) (text_of namespace)

-- milliseconds, or the text of a date
abbrev pub date_in : Tree → Option Tree
date_in (int64 n) = Some (date_time n)
date_in (string s) = option_map date_time (date_of_text s)
date_in t = None

-- what the value at a wrapper key stands for, where the key is alone; none where it has not the form of the key
abbrev pub value_of : Wrapper → Tree → Option Tree
value_of Oid t = of_text object_id_of_text t
value_of Symbol t = of_text (λ s. Some (symbol s)) t
value_of NumberInt t = of_text int32_of_text t
value_of NumberLong t = of_text int64_of_text t
value_of NumberDouble t = of_text double_tree t
value_of NumberDecimal t = of_text decimal_tree t
value_of Binary t = of_pairs (both (codes "base64") (codes "subType") binary_of) t
value_of Uuid t = of_text uuid_of_text t
value_of Code t = of_text (λ s. Some (javascript_code s)) t
value_of Timestamp t = of_pairs (both (codes "t") (codes "i") timestamp_of) t
value_of RegularExpression t = of_pairs (both (codes "pattern") (codes "options") regular_expression_of) t
value_of DbPointer t = of_pairs (both (codes "$ref") (codes "$id") db_pointer_of) t
value_of Date t = date_in t
value_of MinKey t = of_one min_key t
value_of MaxKey t = of_one max_key t
value_of Undefined t = of_true undefined t
value_of Scope t = None
value_of NumberDecimalBytes t = None

-- an object whose first wrapper key is this: it has this key alone, or `$code` and `$scope`
abbrev pub wrapped : Wrapper → Pairs → Option Tree
wrapped w (pair key t no_pairs) = value_of w t
wrapped w (pair key t (pair other u no_pairs)) = value_of_keys key t other u
wrapped w ps = None

-- an object with a wrapper key is the value of its form, and refused where it has not the form; every other one is a document
abbrev pub settled_at : Option Wrapper → Pairs → Reading Tree
settled_at None ps = Ok (document ps)
settled_at (Some w) ps = or_refused (bad_wrapper w) (wrapped w ps)

abbrev pub settled : Pairs → Reading Tree
settled ps = settled_at (first_wrapper ps) ps

-- ---- values

-- the pairs that are done, where the key is not among them
abbrev pub without_key : Utf8 → Pairs → Reading Pairs
without_key key done = if is_some (lookup key done) then Err (in_segment (at_key key) (here key_twice)) else Ok done

abbrev mutual
  -- the value that a JSON value stands for, or the first refusal
  pub read : Json → Reading Tree
  read json.null = Ok null
  read (json.boolean b) = Ok (boolean b)
  read (json.number s) = number_tree s
  read (json.string s) = Ok (string s)
  read (json.array js) = result_map array (read_items 0 js)
  read (object ms) = read_members ms no_pairs >>= settled

  -- the items, of which the first has this index
  pub read_items : ℕ → Items → Reading Trees
  read_items i no_items = Ok no_trees
  read_items i (item j js) = under_index i (read j) >>= λ t. result_map (tree t) (read_items (suc i) js)

  -- the members as pairs behind those that are done; a key that comes again is refused before its value
  pub read_members : Members → Pairs → Reading Pairs
  read_members no_members done = Ok done
  read_members (member key j ms) done = without_key key done >>= λ ps. under key (read j) >>= λ t. read_members ms (put key t ps)
