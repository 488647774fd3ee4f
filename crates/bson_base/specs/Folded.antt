-- The values that documents of wrapper keys become. Source: MongoDB's extended JSON, version 2, with `$numberDecimalBytes`; a double or a decimal in digits becomes
-- no value.
use Rattle.std.specs.Prelude.{◌≡◌, ◌<◌, FitsSigned, ℕ, ◌&&◌, ◌^◌, nat_eq, nat_lt, length, Bool, if◌then◌else◌, List, [], ◌∷◌, ℤ, pos, negsuc, Option, Some, None, option_map, option_and_then, codes}
use Rattle.std.specs.Int.{w64}
use Rattle.std.specs.Ordering.{int_eq}
use Rattle.std.specs.Str.{bytes_eq}
use Rattle.uuid.specs.Text.{parsed}
use Rattle.bson_dates.specs.DateText.{date_of_text}
use Rattle.bson_base.specs.Pairs.{lookup}
use Rattle.bson_base.specs.Parsed.{bytes_of_digits, integer_of_text, bytes_of_base64, first_byte}
use Rattle.bson_base.specs.Sorted.{sorted}
use Rattle.bson_base.specs.Sound.{HasBytes}
use Rattle.bson_kinds.specs.Text.{Bytes, AreBytes, Utf8}
use Rattle.bson_base.specs.Tree.{Tree, double, string, document, binary, undefined, object_id, boolean, date_time, regular_expression, db_pointer, javascript_code, symbol, javascript_code_with_scope, int32, timestamp, int64, decimal128, max_key, min_key, Pairs, no_pairs, pair}

-- ---- the forms of values

abbrev pub text_of : Tree → Option Utf8
text_of (string t) = Some t
text_of t = None

abbrev pub pairs_in : Tree → Option Pairs
pairs_in (document ps) = Some ps
pairs_in t = None

abbrev pub object_id_in : Tree → Option Bytes
object_id_in (object_id id) = Some id
object_id_in t = None

-- the bytes of a binary of subtype 0
abbrev pub plain_bytes : Tree → Option Bytes
plain_bytes (binary subtype bytes) = if nat_eq subtype 0 then Some bytes else None
plain_bytes t = None

-- a value at a key of an inner document, which may have other keys too
abbrev pub at : {A : Type 0} → Utf8 → (Tree → Option A) → Pairs → Option A
at key form ps = option_and_then form (lookup key ps)

-- ---- what texts and numbers stand for

abbrev pub is_int32 : ℤ → Bool
is_int32 (pos n) = nat_lt n (2 ^ 31)
is_int32 (negsuc n) = nat_lt n (2 ^ 31)

-- an Int32, where the number is in its range
abbrev pub int32_of : ℤ → Option Tree
int32_of n = if is_int32 n then Some (int32 n) else None

-- a number without a sign in a byte, and in 32 bits
abbrev pub byte_of : ℤ → Option ℕ
byte_of (pos n) = if nat_lt n 256 then Some n else None
byte_of (negsuc n) = None

abbrev pub uint32_of : ℤ → Option ℕ
uint32_of (pos n) = if nat_lt n (2 ^ 32) then Some n else None
uint32_of (negsuc n) = None

-- the three texts of infinities and of NaN
abbrev pub double_of_text : Utf8 → Option Tree
double_of_text t =
    if bytes_eq t (codes "Infinity") then Some (double (0 ∷ 0 ∷ 0 ∷ 0 ∷ 0 ∷ 0 ∷ 0xf0 ∷ 0x7f ∷ []))
    else if bytes_eq t (codes "-Infinity") then Some (double (0 ∷ 0 ∷ 0 ∷ 0 ∷ 0 ∷ 0 ∷ 0xf0 ∷ 0xff ∷ []))
    else if bytes_eq t (codes "NaN") then Some (double (0 ∷ 0 ∷ 0 ∷ 0 ∷ 0 ∷ 0 ∷ 0xf8 ∷ 0x7f ∷ []))
    else None

-- two hexadecimal digits, in either case
abbrev pub byte_of_digits : Utf8 → Option ℕ
byte_of_digits t = option_and_then first_byte (bytes_of_digits 1 t)

-- ---- inner documents

abbrev pub int32_in : Tree → Option ℤ
int32_in (int32 n) = Some n
int32_in t = None

-- base64 and the digits of a subtype
abbrev pub binary_of_texts : (base64 : Utf8) → Pairs → Option Tree
binary_of_texts base64 ps = option_and_then (λ b. option_map (λ n. binary n b) (option_and_then byte_of_digits (at (codes "subType") text_of ps))) (bytes_of_base64 base64)

-- bytes and a subtype, where no base64 text is there
abbrev pub binary_of_bytes : Pairs → Option Tree
binary_of_bytes ps = option_and_then (λ b. option_map (λ n. binary n b) (option_and_then byte_of (at (codes "subType") int32_in ps))) (at (codes "bytes") plain_bytes ps)

abbrev pub binary_by : Option Utf8 → Pairs → Option Tree
binary_by (Some base64) ps = binary_of_texts base64 ps
binary_by None ps = binary_of_bytes ps

abbrev pub binary_of : Pairs → Option Tree
binary_of ps = binary_by (at (codes "base64") text_of ps) ps

abbrev pub timestamp_of : ℤ → ℤ → Option Tree
timestamp_of time increment = option_and_then (λ t. option_map (timestamp t) (uint32_of increment)) (uint32_of time)

-- two numbers of one kind
abbrev pub timestamp_of_kind : Tree → Tree → Option Tree
timestamp_of_kind (int32 time) (int32 increment) = timestamp_of time increment
timestamp_of_kind (int64 time) (int64 increment) = timestamp_of time increment
timestamp_of_kind t u = None

abbrev pub timestamp_in : Pairs → Option Tree
timestamp_in ps = option_and_then (λ t. option_and_then (timestamp_of_kind t) (lookup (codes "i") ps)) (lookup (codes "t") ps)

abbrev pub regular_expression_in : Pairs → Option Tree
regular_expression_in ps = option_and_then (λ p. option_map (λ o. regular_expression p (sorted o)) (at (codes "options") text_of ps)) (at (codes "pattern") text_of ps)

abbrev pub db_pointer_in : Pairs → Option Tree
db_pointer_in ps = option_and_then (λ n. option_map (db_pointer n) (at (codes "$id") object_id_in ps)) (at (codes "$ref") text_of ps)

-- ---- the wrapper keys

-- a wrapper key, and what its value becomes, where it has the form
pub record Form : Type 0 where
  pub key : Utf8
  pub value : Tree → Option Tree

abbrev pub of_text : (Utf8 → Option Tree) → Tree → Option Tree
of_text make t = option_and_then make (text_of t)

abbrev pub of_pairs : (Pairs → Option Tree) → Tree → Option Tree
of_pairs make t = option_and_then make (pairs_in t)

abbrev pub of_plain_bytes : (Bytes → Option Tree) → Tree → Option Tree
of_plain_bytes make t = option_and_then make (plain_bytes t)

abbrev pub decimal_of : Bytes → Option Tree
decimal_of bytes = if nat_eq (length bytes) 16 then Some (decimal128 bytes) else None

abbrev pub date_of : Tree → Option Tree
date_of (int64 n) = Some (date_time n)
date_of (string t) = option_map date_time (date_of_text t)
date_of t = None

-- the Int32 or the Int64 that is one
abbrev pub of_one : Tree → Tree → Option Tree
of_one made (int32 n) = if int_eq n (pos 1) then Some made else None
of_one made (int64 n) = if int_eq n (pos 1) then Some made else None
of_one made t = None

abbrev pub of_true : Tree → Tree → Option Tree
of_true made (boolean b) = if b then Some made else None
of_true made t = None

abbrev pub object_id_of_text : Utf8 → Option Tree
object_id_of_text t = option_map object_id (bytes_of_digits 12 t)

abbrev pub int32_of_text : Utf8 → Option Tree
int32_of_text t = option_and_then int32_of (integer_of_text t)

abbrev pub int64_of_text : Utf8 → Option Tree
int64_of_text t = option_map int64 (integer_of_text t)

abbrev pub uuid_of_text : Utf8 → Option Tree
uuid_of_text t = option_map (binary 4) (parsed t)

abbrev pub forms : List Form
forms =
    record { key = codes "$oid"; value = of_text object_id_of_text }
    ∷ record { key = codes "$symbol"; value = of_text (λ t. Some (symbol t)) }
    ∷ record { key = codes "$code"; value = of_text (λ t. Some (javascript_code t)) }
    ∷ record { key = codes "$numberInt"; value = of_text int32_of_text }
    ∷ record { key = codes "$numberLong"; value = of_text int64_of_text }
    ∷ record { key = codes "$numberDouble"; value = of_text double_of_text }
    ∷ record { key = codes "$numberDecimalBytes"; value = of_plain_bytes decimal_of }
    ∷ record { key = codes "$binary"; value = of_pairs binary_of }
    ∷ record { key = codes "$uuid"; value = of_text uuid_of_text }
    ∷ record { key = codes "$timestamp"; value = of_pairs timestamp_in }
    ∷ record { key = codes "$regularExpression"; value = of_pairs regular_expression_in }
    ∷ record { key = codes "$dbPointer"; value = of_pairs db_pointer_in }
    ∷ record { key = codes "$date"; value = date_of }
    ∷ record { key = codes "$minKey"; value = of_one min_key }
    ∷ record { key = codes "$maxKey"; value = of_one max_key }
    ∷ record { key = codes "$undefined"; value = of_true undefined }
    ∷ []

abbrev pub value_in : List Form → Utf8 → Tree → Option Tree
value_in [] key t = None
value_in (f ∷ fs) key t = if bytes_eq key f.key then f.value t else value_in fs key t

-- what the value of a document's one key becomes
abbrev pub value_of_key : Utf8 → Tree → Option Tree
value_of_key key t = value_in forms key t

-- a text, and a document as its scope
abbrev pub code_with_scope : Tree → Tree → Option Tree
code_with_scope code scope = option_and_then (λ t. option_map (javascript_code_with_scope t) (pairs_in scope)) (text_of code)

-- what the values of a document's two keys become
abbrev pub value_of_keys : Utf8 → Tree → Utf8 → Tree → Option Tree
value_of_keys key t other u =
    if bytes_eq key (codes "$code") && bytes_eq other (codes "$scope") then code_with_scope t u
    else if bytes_eq key (codes "$scope") && bytes_eq other (codes "$code") then code_with_scope u t
    else None

-- what a document of one key becomes, and one of two keys
abbrev pub alone : Pairs → Option Tree
alone (pair key t no_pairs) = value_of_key key t
alone ps = None

abbrev pub in_pair : Pairs → Option Tree
in_pair (pair key t (pair other u no_pairs)) = value_of_keys key t other u
in_pair ps = None

abbrev pub or_document : Pairs → Option Tree → Tree
or_document ps (Some t) = t
or_document ps None = document ps

abbrev pub or_alone : Pairs → Option Tree → Tree
or_alone ps (Some t) = t
or_alone ps None = or_document ps (alone ps)

-- the value that a document of exactly the keys of a form becomes, or the document
abbrev pub fold : Pairs → Tree
fold ps = or_alone ps (in_pair ps)

-- ---- the opened documents are folded back

-- The numbers and the bytes of an extended value are in the ranges of its kind, and the options of a regular expression are in order.
abbrev pub IsInKind : Tree → Type 0
IsInKind (object_id id) = HasBytes 12 id
IsInKind (date_time n) = FitsSigned w64 n
IsInKind (binary subtype bytes) = (subtype < 256) × AreBytes bytes
IsInKind (timestamp time increment) = (time < 2 ^ 32) × (increment < 2 ^ 32)
IsInKind (regular_expression pattern options) = sorted options ≡ options
IsInKind (db_pointer namespace id) = HasBytes 12 id
IsInKind (decimal128 bytes) = length bytes ≡ 16
IsInKind t = Unit {0}

-- The document that the value is opened to has a form of its own. Those of a date and of a DbPointer hold a document that is folded first.
abbrev pub HasForm : Tree → Type 0
HasForm (date_time n) = ⊥
HasForm (db_pointer namespace id) = ⊥
HasForm t = Unit {0}

abbrev mutual
  -- a document is folded from inside out
  pub fold_inner : Tree → Tree
  fold_inner (document ps) = fold (fold_values ps)
  fold_inner t = t

  -- the documents that are values of pairs
  pub fold_values : Pairs → Pairs
  fold_values no_pairs = no_pairs
  fold_values (pair key t ps) = pair key (fold_inner t) (fold_values ps)

-- the scope stays as it is where it is folded
abbrev pub KeepsScope : Tree → Type 0
KeepsScope (javascript_code_with_scope code scope) = fold (fold_values scope) ≡ document scope
KeepsScope t = Unit {0}
