-- A list agrees with the places of a kind exactly where some list that is accepted begins with it.
use Rattle.std.proofs.Common.{◌≡◌, ◌⊎◌, inl, inr, ℕ, List, [], ◌∷◌, ◌++◌, Bool, true, false, Option, Some, None, refl, sym, ◌∙◌}
use Rattle.std.specs.Prelude.{is_some, codes, ◌&&◌, ◌||◌, ◌↔◌}
use Rattle.bson_kinds.specs.Outcome.{or_else}
use Rattle.bson_kinds.specs.Text.{Bytes, Utf8}
use Rattle.bson_base.specs.Parsed.{bytes_of_digits, integer_of_text, bytes_of_base64, subtype_of_text}
use Rattle.bson_kinds.specs.declared.element_type.ElementType.{ElementType}
use Rattle.bson_kinds.specs.declared.element_type.ElementType.TheVariants as kinds
use Rattle.bson_values.specs.Value.{Value}
use Rattle.bson_laws.specs.Unwrap.{◌>>=◌, next_key, next_key_of, next_text, next_bytes, next_byte, next_unsigned, next_scope, end_as, sixteen, object_id_list, date_time_list, base64_list, bytes_list, binary_list, timestamp_list, text_list, regular_expression_list, db_pointer_list, decimal128_list, scoped_code}
use Rattle.bson_ser_parts.specs.Fronts.{accepts, Begins}
use Rattle.bson_ser_parts.specs.Places.{Place, this_key, key_of, object_id, number, base64, subtype, text, byte_string, decimal, byte, unsigned, scope, agrees, agrees_some, as_text, as_bytes, ways}
use Rattle.bson_ser_parts.proofs.Places.{Parts, is_empty, passes, full, front, extended}

-- ---- what accepts a list is that its parts are what they have to be

-- the steps accept the lists that are whole by these places
abbrev Accepts : {A : Type 0} → List Place → (Parts → Option A) → Type 0
Accepts ps steps = (list : Parts) → is_some (steps list) ≡ full ps list

ends : {A : Type 0} (a : A) → Accepts [] (end_as a)
ends a [] = refl
ends a (x ∷ list) = refl

behind : {A : Type 0} (ps : List Place) (f : Parts → Option A) → Accepts ps f → (o : Option Parts) → is_some (o >>= f) ≡ passes (full ps) o
behind ps f h None = refl
behind ps f h (Some list) = h list

key : {A : Type 0} (name : Utf8) (ps : List Place) (f : Parts → Option A) → Accepts ps f → Accepts (this_key name ∷ ps) (λ list. next_key name list >>= f)
key name ps f h list = behind ps f h (next_key name list)

either_key : {A : Type 0} (name other : Utf8) (ps : List Place) (f : Parts → Option A) → Accepts ps f → Accepts (key_of name other ∷ ps) (λ list. next_key_of name other list >>= f)
either_key name other ps f h list = behind ps f h (next_key_of name other list)

-- what a part holds, and what is behind it
held : {X A : Type 0} (ps : List Place) (f : X × Parts → Option A) → ((x : X) → Accepts ps (λ list. f (x, list))) → (o : Option (X × Parts)) → is_some (o >>= f) ≡ passes (full ps) (o >>= λ x. Some x.1)
held ps f h None = refl
held ps f h (Some x) = h x.0 x.1

-- the same, where what it holds stands for something
stood : {X B A : Type 0} (ps : List Place) (f : B → X → Parts → Option A) → ((b : B) (x : X) → Accepts ps (f b x)) → (x : X × Parts) (o : Option B) → is_some (o >>= λ b. f b x.0 x.1) ≡ passes (full ps) (o >>= λ b. Some x.1)
stood ps f h x None = refl
stood ps f h x (Some b) = h b x.0 x.1

stands : {X B A : Type 0} (g : X → Option B) (ps : List Place) (f : B → X → Parts → Option A) → ((b : B) (x : X) → Accepts ps (f b x)) → (o : Option (X × Parts))
    → is_some (o >>= λ x. g x.0 >>= λ b. f b x.0 x.1) ≡ passes (full ps) (o >>= λ x. g x.0 >>= λ b. Some x.1)
stands g ps f h None = refl
stands g ps f h (Some x) = stood ps f h x (g x.0)

object_id_full : Accepts (this_key (codes "$oid") ∷ object_id ∷ []) object_id_list
object_id_full = key _ (object_id ∷ []) _ (λ list. stands (bytes_of_digits 12) [] (λ id t. end_as id) (λ id t. ends id) (next_text list))

date_time_full : Accepts (this_key (codes "$date") ∷ this_key (codes "$numberLong") ∷ number ∷ []) date_time_list
date_time_full = key _ (this_key (codes "$numberLong") ∷ number ∷ []) _ (key _ (number ∷ []) _ (λ list. stands integer_of_text [] (λ n t. end_as n) (λ n t. ends n) (next_text list)))

timestamp_full : Accepts (this_key (codes "$timestamp") ∷ this_key (codes "t") ∷ unsigned ∷ this_key (codes "i") ∷ unsigned ∷ []) timestamp_list
timestamp_full =
    key _ (this_key (codes "t") ∷ unsigned ∷ this_key (codes "i") ∷ unsigned ∷ []) _ (key _ (unsigned ∷ this_key (codes "i") ∷ unsigned ∷ []) _
    (λ list. held (this_key (codes "i") ∷ unsigned ∷ []) _ (λ t. key _ (unsigned ∷ []) _ (λ more. held [] _ (λ i. ends (t, i)) (next_unsigned more))) (next_unsigned list)))

text_full : (name : Utf8) → Accepts (this_key name ∷ text ∷ []) (text_list name)
text_full name = key _ (text ∷ []) _ (λ list. held [] _ (λ t. ends t) (next_text list))

regular_expression_full : Accepts (this_key (codes "$regularExpression") ∷ this_key (codes "pattern") ∷ text ∷ this_key (codes "options") ∷ text ∷ []) regular_expression_list
regular_expression_full =
    key _ (this_key (codes "pattern") ∷ text ∷ this_key (codes "options") ∷ text ∷ []) _ (key _ (text ∷ this_key (codes "options") ∷ text ∷ []) _
    (λ list. held (this_key (codes "options") ∷ text ∷ []) _ (λ p. key _ (text ∷ []) _ (λ more. held [] _ (λ o. ends (p, o)) (next_text more))) (next_text list)))

db_pointer_full : Accepts (this_key (codes "$dbPointer") ∷ this_key (codes "$ref") ∷ text ∷ this_key (codes "$id") ∷ this_key (codes "$oid") ∷ object_id ∷ []) db_pointer_list
db_pointer_full =
    key _ (this_key (codes "$ref") ∷ text ∷ this_key (codes "$id") ∷ this_key (codes "$oid") ∷ object_id ∷ []) _ (key _ (text ∷ this_key (codes "$id") ∷ this_key (codes "$oid") ∷ object_id ∷ []) _
    (λ list. held (this_key (codes "$id") ∷ this_key (codes "$oid") ∷ object_id ∷ []) _
    (λ m. key _ (this_key (codes "$oid") ∷ object_id ∷ []) _ (key _ (object_id ∷ []) _
    (λ more. stands (bytes_of_digits 12) [] (λ id t. end_as (m, id)) (λ id t. ends (m, id)) (next_text more)))) (next_text list)))

decimal_full : Accepts (key_of (codes "$numberDecimal") (codes "$numberDecimalBytes") ∷ decimal ∷ []) decimal128_list
decimal_full = either_key _ _ (decimal ∷ []) _ (λ list. stands sixteen [] (λ bits b. end_as bits) (λ bits b. ends bits) (next_bytes list))

scoped_full : Accepts (this_key (codes "$code") ∷ text ∷ this_key (codes "$scope") ∷ scope ∷ []) (scoped_code {S = Value})
scoped_full =
    key _ (text ∷ this_key (codes "$scope") ∷ scope ∷ []) _
    (λ list. held (this_key (codes "$scope") ∷ scope ∷ []) _ (λ t. key _ (scope ∷ []) _ (λ more. held [] _ (λ s. ends (t, s)) (next_scope more))) (next_text list))

-- ---- a binary, in two ways

bytes_full : Accepts (byte_string ∷ this_key (codes "subType") ∷ byte ∷ []) bytes_list
bytes_full list = held (this_key (codes "subType") ∷ byte ∷ []) _ (λ b. key _ (byte ∷ []) _ (λ more. held [] _ (λ n. ends (n, b)) (next_byte more))) (next_bytes list)

and_false : (b : Bool) → false ≡ (b && false)
and_false true = refl
and_false false = refl

-- the bytes of what is given as base64
abbrev judge : ℕ × Utf8 → Option (ℕ × Bytes)
judge given = bytes_of_base64 given.1 >>= λ b. Some (given.0, b)

module _ (t : Utf8) where
  -- whether a text is base64 is judged at the end; it could be judged at once
  abbrev is_base64 : Bool
  is_base64 = is_some (bytes_of_base64 t)

  some_bytes : (s : ℕ) (o : Option Bytes) → is_some {T = ℕ × Bytes} (o >>= λ b. Some (s, b)) ≡ (is_some o && true)
  some_bytes s None = refl
  some_bytes s (Some b) = refl

  at_end : (s : ℕ) (list : Parts) → is_some (end_as (s, t) list >>= judge) ≡ (is_base64 && is_empty list)
  at_end s [] = some_bytes s (bytes_of_base64 t)
  at_end s (x ∷ list) = and_false is_base64

  at_subtype : (list : Parts) (o : Option ℕ) → is_some ((o >>= λ s. end_as (s, t) list) >>= judge) ≡ (is_base64 && passes (full []) (o >>= λ s. Some list))
  at_subtype list None = and_false is_base64
  at_subtype list (Some s) = at_end s list

  at_digits : (o : Option (Utf8 × Parts)) → is_some ((o >>= λ d. subtype_of_text d.0 >>= λ s. end_as (s, t) d.1) >>= judge) ≡ (is_base64 && passes (full []) (o >>= λ d. subtype_of_text d.0 >>= λ s. Some d.1))
  at_digits None = and_false is_base64
  at_digits (Some d) = at_subtype d.1 (subtype_of_text d.0)

  at_key : (o : Option Parts) → is_some ((o >>= λ value. next_text value >>= λ d. subtype_of_text d.0 >>= λ s. end_as (s, t) d.1) >>= judge) ≡ (is_base64 && passes (full (subtype ∷ [])) o)
  at_key None = and_false is_base64
  at_key (Some value) = at_digits (next_text value)

  at_once : (list : Parts) (o : Option Bytes) → (is_some o && full (this_key (codes "subType") ∷ subtype ∷ []) list) ≡ passes (full (this_key (codes "subType") ∷ subtype ∷ [])) (o >>= λ b. Some list)
  at_once list None = refl
  at_once list (Some b) = refl

at_text : (o : Option (Utf8 × Parts)) → is_some ((o >>= λ t. next_key (codes "subType") t.1 >>= λ value. next_text value >>= λ d. subtype_of_text d.0 >>= λ s. end_as (s, t.0) d.1) >>= judge)
    ≡ passes (full (this_key (codes "subType") ∷ subtype ∷ [])) (o >>= λ t. bytes_of_base64 t.0 >>= λ b. Some t.1)
at_text None = refl
at_text (Some t) = at_key t.0 (next_key (codes "subType") t.1) ∙ at_once t.0 t.1 (bytes_of_base64 t.0)

base64_full : Accepts (base64 ∷ this_key (codes "subType") ∷ subtype ∷ []) base64_list
base64_full list = at_text (next_text list)

either : {A : Type 0} (o p : Option A) → is_some (or_else o p) ≡ (is_some o || is_some p)
either None p = refl
either (Some x) p = refl

binary_value : (o : Option Parts) → is_some (o >>= λ value. or_else (base64_list value) (bytes_list value)) ≡ (passes (full (base64 ∷ this_key (codes "subType") ∷ subtype ∷ [])) o || passes (full (byte_string ∷ this_key (codes "subType") ∷ byte ∷ [])) o)
binary_value None = refl
binary_value (Some value) = either (base64_list value) (bytes_list value) ∙ (λ i. base64_full value i || bytes_full value i)

binary_body : (o : Option Parts) → is_some (o >>= λ body. next_key_of (codes "base64") (codes "bytes") body >>= λ value. or_else (base64_list value) (bytes_list value))
    ≡ (passes (full (key_of (codes "base64") (codes "bytes") ∷ base64 ∷ this_key (codes "subType") ∷ subtype ∷ [])) o || passes (full (key_of (codes "base64") (codes "bytes") ∷ byte_string ∷ this_key (codes "subType") ∷ byte ∷ [])) o)
binary_body None = refl
binary_body (Some body) = binary_value (next_key_of (codes "base64") (codes "bytes") body)

binary_full : (list : Parts) → is_some (binary_list list) ≡ (full as_text list || full as_bytes list)
binary_full list = binary_body (next_key (codes "$binary") list)

-- ---- which lists begin one that is accepted

module _ (k : ElementType) (ps : List Place) (is : (list : Parts) → accepts k list ≡ full ps list) where
  begins_if : (list : Parts) → agrees ps list ≡ true → Begins k list
  begins_if list h = let more = extended ps list h in (more.0, is (list ++ more.0) ∙ more.1)

  begins_only : (list : Parts) → Begins k list → agrees ps list ≡ true
  begins_only list b = front ps list b.0 (sym (is (list ++ b.0)) ∙ b.1)

  begins_by : (list : Parts) → (agrees ps list ≡ true) ↔ Begins k list
  begins_by list = (begins_if list, begins_only list)

-- a binary, by one of its two lists

or_left : (a b : Bool) → a ≡ true → (a || b) ≡ true
or_left true b e = refl
or_left false b e = absurd cc

or_right : (a b : Bool) → b ≡ true → (a || b) ≡ true
or_right true b e = refl
or_right false b e = e

one_of : (a b : Bool) → (a || b) ≡ true → (a ≡ true) ⊎ (b ≡ true)
one_of true b e = inl refl
one_of false b e = inr e

binary_if : (list : Parts) → (agrees as_text list || agrees as_bytes list) ≡ true → Begins kinds.Binary list
binary_if list h = elim (one_of (agrees as_text list) (agrees as_bytes list) h) [
  | inl e ↦ let more = extended as_text list e in (more.0, binary_full (list ++ more.0) ∙ or_left _ _ more.1)
  | inr e ↦ let more = extended as_bytes list e in (more.0, binary_full (list ++ more.0) ∙ or_right _ _ more.1)
]

binary_only : (list : Parts) → Begins kinds.Binary list → (agrees as_text list || agrees as_bytes list) ≡ true
binary_only list b = elim (one_of (full as_text (list ++ b.0)) (full as_bytes (list ++ b.0)) (sym (binary_full (list ++ b.0)) ∙ b.1)) [
  | inl e ↦ or_left _ _ (front as_text list b.0 e)
  | inr e ↦ or_right _ _ (front as_bytes list b.0 e)
]

-- nothing is accepted, and nothing begins it
none_begin : (list : Parts) → (false ≡ true) ↔ ((rest : Parts) × (false ≡ true))
none_begin list = (λ e. ([], e), λ b. b.1)

-- by the lists of places of each kind
pub begins_is : (k : ElementType) (list : Parts) → (agrees_some (ways k) list ≡ true) ↔ Begins k list
begins_is kinds.ObjectId list = begins_by kinds.ObjectId _ object_id_full list
begins_is kinds.DateTime list = begins_by kinds.DateTime _ date_time_full list
begins_is kinds.Binary list = (binary_if list, binary_only list)
begins_is kinds.Timestamp list = begins_by kinds.Timestamp _ timestamp_full list
begins_is kinds.JavaScriptCode list = begins_by kinds.JavaScriptCode _ (text_full (codes "$code")) list
begins_is kinds.JavaScriptCodeWithScope list = begins_by kinds.JavaScriptCodeWithScope _ scoped_full list
begins_is kinds.Symbol list = begins_by kinds.Symbol _ (text_full (codes "$symbol")) list
begins_is kinds.RegularExpression list = begins_by kinds.RegularExpression _ regular_expression_full list
begins_is kinds.DbPointer list = begins_by kinds.DbPointer _ db_pointer_full list
begins_is kinds.Decimal128 list = begins_by kinds.Decimal128 _ decimal_full list
begins_is k list = none_begin list
