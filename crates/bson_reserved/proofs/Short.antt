-- No list of more than six parts is accepted: each step takes one part, and the end none.
use Rattle.std.proofs.Common.{◌≡◌, ℕ, suc, ◌<◌, List, [], ◌∷◌, length, Option, Some, None, refl, ap, true, false, arith, cond}
use Rattle.std.specs.Prelude.{option_map, codes, nat_lt, ◌^◌, ◌||◌, pos}
use Rattle.std.specs.Str.{bytes_eq}
use Rattle.bson_kinds.specs.Outcome.{or_else}
use Rattle.bson_kinds.specs.Text.{Bytes, Utf8}
use Rattle.bson_base.specs.Parsed.{bytes_of_digits, integer_of_text, bytes_of_base64, subtype_of_text}
use Rattle.bson_base.specs.Tree as tree
use Rattle.bson_kinds.specs.declared.element_type.ElementType.{ElementType}
use Rattle.bson_kinds.specs.declared.element_type.ElementType.TheVariants as kinds
use Rattle.bson_values.specs.Value.{FieldValues, Value, str, bytes, integer, u8, i64, map, raw_document}
use Rattle.bson_laws.specs.Unwrap.{Part, a_key, a_value, ◌>>=◌, next_key, next_key_of, next_text, next_bytes, next_byte, next_unsigned, next_scope, end_as, object_id_list, date_time_list, base64_parts, base64_list, bytes_list, binary_list, base64_given, timestamp_list, text_list, regular_expression_list, db_pointer_list, sixteen, decimal128_list, scoped_code, listed, unwrap, unwrap_list}

-- the steps accept no list of more than n parts
abbrev pub IsShort : {A : Type 0} → ℕ → (List (Part Value) → Option A) → Type 0
IsShort n steps = (list : List (Part Value)) → n < length list → steps list ≡ None

none_left : {A B : Type 0} (o : Option A) (f : A → Option B) → ((x : A) → f x ≡ None) → (o >>= f) ≡ None
none_left (Some x) f h = h x
none_left None f h = refl

ends : {A : Type 0} (n : ℕ) (a : A) → IsShort n (end_as a)
ends n a [] long = absurd (omega arith)
ends n a (p ∷ list) long = refl

key : {A : Type 0} (name : Utf8) (n : ℕ) (f : List (Part Value) → Option A) → IsShort n f → IsShort (suc n) (λ list. next_key name list >>= f)
key name n f h [] long = refl
key name n f h (a_key k ∷ rest) long =
    elim (bytes_eq k name) as (λ b. (cond b (Some rest) None >>= f) ≡ None) [ true ↦ h rest (omega arith) | false ↦ refl ]
key name n f h (a_value v s ∷ rest) long = refl

key_of : {A : Type 0} (name other : Utf8) (n : ℕ) (f : List (Part Value) → Option A) → IsShort n f → IsShort (suc n) (λ list. next_key_of name other list >>= f)
key_of name other n f h [] long = refl
key_of name other n f h (a_key k ∷ rest) long =
    elim (bytes_eq k name || bytes_eq k other) as (λ b. (cond b (Some rest) None >>= f) ≡ None) [ true ↦ h rest (omega arith) | false ↦ refl ]
key_of name other n f h (a_value v s ∷ rest) long = refl

text : {A : Type 0} (n : ℕ) (f : Utf8 × List (Part Value) → Option A) → ((t : Utf8) → IsShort n (λ list. f (t, list))) → IsShort (suc n) (λ list. next_text list >>= f)
text n f h (a_value (str t) s ∷ rest) long = h t rest (omega arith)
text n f h list long = refl

byte_string : {A : Type 0} (n : ℕ) (f : Bytes × List (Part Value) → Option A) → ((b : Bytes) → IsShort n (λ list. f (b, list))) → IsShort (suc n) (λ list. next_bytes list >>= f)
byte_string n f h (a_value (bytes b) s ∷ rest) long = h b rest (omega arith)
byte_string n f h list long = refl

byte : {A : Type 0} (n : ℕ) (f : ℕ × List (Part Value) → Option A) → ((b : ℕ) → IsShort n (λ list. f (b, list))) → IsShort (suc n) (λ list. next_byte list >>= f)
byte n f h (a_value (integer u8 (pos b)) s ∷ rest) long = h b rest (omega arith)
byte n f h list long = refl

number : {A : Type 0} (n : ℕ) (f : ℕ × List (Part Value) → Option A) → ((m : ℕ) → IsShort n (λ list. f (m, list))) → IsShort (suc n) (λ list. next_unsigned list >>= f)
number n f h (a_value (integer i64 (pos m)) s ∷ rest) long =
    elim (nat_lt m (2 ^ 32)) as (λ b. (cond b (Some (m, rest)) None >>= f) ≡ None) [ true ↦ h m rest (omega arith) | false ↦ refl ]
number n f h list long = refl

scope : {A : Type 0} (n : ℕ) (f : Value × List (Part Value) → Option A) → ((v : Value) → IsShort n (λ list. f (v, list))) → IsShort (suc n) (λ list. next_scope list >>= f)
scope n f h (a_value (map es) s ∷ rest) long = h s rest (omega arith)
scope n f h (a_value (raw_document b) s ∷ rest) long = h s rest (omega arith)
scope n f h list long = refl

object_id_short : IsShort 6 object_id_list
object_id_short = key _ 5 _ (text 4 _ (λ t list long. none_left (bytes_of_digits 12 t) _ (λ id. ends 4 id list long)))

date_time_short : IsShort 6 date_time_list
date_time_short = key _ 5 _ (key _ 4 _ (text 3 _ (λ t list long. none_left (integer_of_text t) _ (λ n. ends 3 n list long))))

base64_parts_short : IsShort 4 base64_parts
base64_parts_short = text 3 _ (λ t. key _ 2 _ (text 1 _ (λ d list long. none_left (subtype_of_text d) _ (λ n. ends 1 _ list long))))

base64_short : IsShort 4 base64_list
base64_short list long = ap (λ o. o >>= λ given. bytes_of_base64 given.1 >>= λ b. Some (given.0, b)) (base64_parts_short list long)

bytes_short : IsShort 4 bytes_list
bytes_short = byte_string 3 _ (λ b. key _ 2 _ (byte 1 _ (λ n. ends 1 _)))

both_none : {A : Type 0} (o p : Option A) → o ≡ None → p ≡ None → or_else o p ≡ None
both_none o p e d = rw (e, d) refl

binary_short : IsShort 6 binary_list
binary_short = key _ 5 _ (key_of _ _ 4 _ (λ list long. both_none _ _ (base64_short list long) (bytes_short list long)))

timestamp_short : IsShort 6 timestamp_list
timestamp_short = key _ 5 _ (key _ 4 _ (number 3 _ (λ t. key _ 2 _ (number 1 _ (λ i. ends 1 _)))))

text_short : (name : Utf8) → IsShort 6 (text_list name)
text_short name = key _ 5 _ (text 4 _ (λ t. ends 4 _))

regular_expression_short : IsShort 6 regular_expression_list
regular_expression_short = key _ 5 _ (key _ 4 _ (text 3 _ (λ p. key _ 2 _ (text 1 _ (λ o. ends 1 _)))))

db_pointer_short : IsShort 6 db_pointer_list
db_pointer_short =
    key _ 5 _ (key _ 4 _ (text 3 _ (λ m. key _ 2 _ (key _ 1 _ (text 0 _ (λ t list long. none_left (bytes_of_digits 12 t) _ (λ id. ends 0 _ list long)))))))

decimal128_short : IsShort 6 decimal128_list
decimal128_short = key_of _ _ 5 _ (byte_string 4 _ (λ b list long. none_left (sixteen b) _ (λ bits. ends 4 _ list long)))

pub scoped_code_short : IsShort 6 (scoped_code {S = Value})
scoped_code_short = key _ 5 _ (text 4 _ (λ t. key _ 3 _ (scope 2 _ (λ v. ends 2 _))))

pub unwrap_list_short : (kind : ElementType) → IsShort 6 (unwrap_list kind)
unwrap_list_short kinds.ObjectId list long = ap (option_map tree.object_id) (object_id_short list long)
unwrap_list_short kinds.DateTime list long = ap (option_map tree.date_time) (date_time_short list long)
unwrap_list_short kinds.Binary list long = ap (option_map (λ p. tree.binary p.0 p.1)) (binary_short list long)
unwrap_list_short kinds.Timestamp list long = ap (option_map (λ p. tree.timestamp p.0 p.1)) (timestamp_short list long)
unwrap_list_short kinds.JavaScriptCode list long = ap (option_map tree.javascript_code) (text_short (codes "$code") list long)
unwrap_list_short kinds.Symbol list long = ap (option_map tree.symbol) (text_short (codes "$symbol") list long)
unwrap_list_short kinds.RegularExpression list long = ap (option_map (λ p. tree.regular_expression p.0 p.1)) (regular_expression_short list long)
unwrap_list_short kinds.DbPointer list long = ap (option_map (λ p. tree.db_pointer p.0 p.1)) (db_pointer_short list long)
unwrap_list_short kinds.Decimal128 list long = ap (option_map tree.decimal128) (decimal128_short list long)
unwrap_list_short kind list long = refl

pub base64_given_short : (kind : ElementType) → IsShort 6 (base64_given kind)
base64_given_short kinds.Binary list long = key _ 5 _ (key_of _ _ 4 _ base64_parts_short) list long
base64_given_short kind list long = refl

pub unwrap_short : (kind : ElementType) (fields : FieldValues) → (kind ≡ kinds.Undefined → ⊥) → (kind ≡ kinds.MaxKey → ⊥) → (kind ≡ kinds.MinKey → ⊥) → 6 < length (listed fields []) → unwrap kind fields ≡ None
unwrap_short kinds.Undefined fields u x n long = absurd (u refl)
unwrap_short kinds.MaxKey fields u x n long = absurd (x refl)
unwrap_short kinds.MinKey fields u x n long = absurd (n refl)
unwrap_short kind fields u x n long = unwrap_list_short kind (listed fields []) long
