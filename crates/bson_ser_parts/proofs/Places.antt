-- Lists whose parts are what they have to be, in front and as a whole.
use Rattle.std.proofs.Common.{◌≡◌, ◌<◌, ℕ, zero, suc, List, [], ◌∷◌, ◌++◌, length, Bool, true, false, cond, Option, Some, None, refl, ap, sym, ◌∙◌, arith}
use Rattle.std.specs.Prelude.{is_some, nat_lt, ◌^◌, ◌&&◌, ◌||◌, pos}
use Rattle.std.specs.Str.{bytes_eq}
use Rattle.std.proofs.lemmas.List.Elements.{All-nil, All-cons}
use Rattle.bson_base.specs.Made.{digits, number_text, base64_text}
use Rattle.bson_base.specs.Parsed.{bytes_of_digits, integer_of_text, bytes_of_base64, subtype_of_text}
use Rattle.bson_kinds.specs.Text.{Bytes, AreBytes, Utf8}
use Rattle.bson_base.proofs.IntegerTexts.{int64_fits}
use Rattle.bson_base.proofs.WrittenTexts.{digits_read, subtype_read, integer_read, base64_read}
use Rattle.bson_laws.proofs.Fitted.{bytes_eq-refl}
use Rattle.bson_values.specs.Value.{Value, unit, str, bytes, integer, u8, i64, map, raw_document, no_entries}
use Rattle.bson_laws.specs.Unwrap.{Part, a_key, a_value, ◌>>=◌, next_key, next_key_of, next_text, next_bytes, next_byte, next_unsigned, next_scope, sixteen}
use Rattle.bson_ser_parts.specs.Places.{Place, this_key, key_of, object_id, number, base64, subtype, text, byte_string, decimal, byte, unsigned, scope, takes, agrees}

abbrev pub Parts : Type 0
Parts = List (Part Value)

abbrev pub is_empty : Parts → Bool
is_empty [] = true
is_empty (x ∷ list) = false

-- there is something, which passes the test
abbrev pub passes : {A : Type 0} → (A → Bool) → Option A → Bool
passes test None = false
passes test (Some x) = test x

-- what is behind the first part of a list, where this part is what it has to be
abbrev pub step : Place → Parts → Option Parts
step (this_key name) list = next_key name list
step (key_of name other) list = next_key_of name other list
step object_id list = next_text list >>= λ t. bytes_of_digits 12 t.0 >>= λ id. Some t.1
step number list = next_text list >>= λ t. integer_of_text t.0 >>= λ n. Some t.1
step base64 list = next_text list >>= λ t. bytes_of_base64 t.0 >>= λ b. Some t.1
step subtype list = next_text list >>= λ t. subtype_of_text t.0 >>= λ n. Some t.1
step text list = next_text list >>= λ t. Some t.1
step byte_string list = next_bytes list >>= λ b. Some b.1
step decimal list = next_bytes list >>= λ b. sixteen b.0 >>= λ bits. Some b.1
step byte list = next_byte list >>= λ b. Some b.1
step unsigned list = next_unsigned list >>= λ n. Some n.1
step scope list = next_scope list >>= λ s. Some s.1

-- the parts of a whole list are what they have to be
abbrev pub full : List Place → Parts → Bool
full [] list = is_empty list
full (p ∷ ps) list = passes (full ps) (step p list)

-- ---- a step looks at the first part alone, and leaves what is behind it

given : {A : Type 0} (o : Option A) (list : Parts) → (o >>= λ a. Some list) ≡ cond (is_some o) (Some list) None
given None list = refl
given (Some a) list = refl

numbered : (b : Bool) (n : ℕ) (list : Parts) → ◌>>=◌ {A = ℕ × Parts} {B = Parts} (cond b (Some (n, list)) None) (λ m. Some m.1) ≡ cond b (Some list) None
numbered true n list = refl
numbered false n list = refl

step_is : (p : Place) (x : Part Value) (list : Parts) → step p (x ∷ list) ≡ cond (takes p x) (Some list) None
step_is (this_key name) (a_key k) list = refl
step_is (this_key name) (a_value v s) list = refl
step_is (key_of name other) (a_key k) list = refl
step_is (key_of name other) (a_value v s) list = refl
step_is object_id (a_value (str t) s) list = given (bytes_of_digits 12 t) list
step_is object_id x list = refl
step_is number (a_value (str t) s) list = given (integer_of_text t) list
step_is number x list = refl
step_is base64 (a_value (str t) s) list = given (bytes_of_base64 t) list
step_is base64 x list = refl
step_is subtype (a_value (str t) s) list = given (subtype_of_text t) list
step_is subtype x list = refl
step_is text (a_value (str t) s) list = refl
step_is text x list = refl
step_is byte_string (a_value (bytes b) s) list = refl
step_is byte_string x list = refl
step_is decimal (a_value (bytes b) s) list = given (sixteen b) list
step_is decimal x list = refl
step_is byte (a_value (integer u8 (pos n)) s) list = refl
step_is byte x list = refl
step_is unsigned (a_value (integer i64 (pos n)) s) list = numbered (nat_lt n (2 ^ 32)) n list
step_is unsigned x list = refl
step_is scope (a_value (map es) s) list = refl
step_is scope (a_value (raw_document b) s) list = refl
step_is scope x list = refl

-- ---- each place has a part that it takes

zeros : ℕ → Bytes
zeros zero = []
zeros (suc n) = 0 ∷ zeros n

zeros_small : (n : ℕ) → AreBytes (zeros n)
unfolding zeros
zeros_small zero = All-nil (λ b. b < 256)
zeros_small (suc n) = All-cons (λ b. b < 256) 0 (zeros n) (omega arith) (zeros_small n)

zeros_long : (n : ℕ) → length (zeros n) ≡ n
unfolding zeros
zeros_long zero = refl
zeros_long (suc n) = omega (arith, zeros_long n)

same_key : (k : Utf8) → bytes_eq k k ≡ true
same_key k = bytes_eq-refl k

of_text : {A : Type 0} (o : Option A) (a : A) → o ≡ Some a → is_some o ≡ true
of_text o a e = ap is_some e

sample : (p : Place) → (x : Part Value) × (takes p x ≡ true)
sample (this_key name) = (a_key name, same_key name)
sample (key_of name other) = (a_key name, ap (λ b. b || bytes_eq name other) (same_key name))
sample object_id = (a_value (str (digits (zeros 12))) unit, of_text (bytes_of_digits 12 (digits (zeros 12))) (zeros 12) (digits_read 12 (zeros 12) (zeros_long 12) (zeros_small 12)))
sample number = (a_value (str (number_text (pos 0))) unit, of_text (integer_of_text (number_text (pos 0))) (pos 0) (integer_read (pos 0) (int64_fits (pos 0) refl)))
sample base64 = (a_value (str (base64_text [])) unit, of_text (bytes_of_base64 (base64_text [])) [] (base64_read [] (All-nil (λ b. b < 256))))
sample subtype = (a_value (str (digits (0 ∷ []))) unit, of_text (subtype_of_text (digits (0 ∷ []))) 0 (subtype_read 0 (omega arith)))
sample text = (a_value (str []) unit, refl)
sample byte_string = (a_value (bytes []) unit, refl)
sample decimal = (a_value (bytes (0 ∷ 0 ∷ 0 ∷ 0 ∷ 0 ∷ 0 ∷ 0 ∷ 0 ∷ 0 ∷ 0 ∷ 0 ∷ 0 ∷ 0 ∷ 0 ∷ 0 ∷ 0 ∷ [])) unit, refl)
sample byte = (a_value (integer u8 (pos 0)) unit, refl)
sample unsigned = (a_value (integer i64 (pos 0)) unit, refl)
sample scope = (a_value (map no_entries) unit, refl)

-- ---- a list agrees with places exactly where it begins a whole one

taken : (b : Bool) (test : Parts → Bool) (list : Parts) → b ≡ true → test list ≡ true → passes test (cond b (Some list) None) ≡ true
taken true test list t h = h
taken false test list t h = absurd cc

pub samples : (ps : List Place) → (rest : Parts) × (full ps rest ≡ true)
samples [] = ([], refl)
samples (p ∷ ps) =
    let first = sample p in
    let others = samples ps in
    (first.0 ∷ others.0, ap (passes (full ps)) (step_is p first.0 others.0) ∙ taken (takes p first.0) (full ps) others.0 first.1 others.1)

no_false : false ≡ true → ⊥
no_false e = absurd cc

-- a part is what it has to be, and what holds of what is behind it holds of a front of that
front_behind : (b : Bool) (whole : Parts → Bool) (part : Bool) (longer : Parts) → (whole longer ≡ true → part ≡ true) → passes whole (cond b (Some longer) None) ≡ true → (b && part) ≡ true
front_behind true whole part longer ih h = ih h
front_behind false whole part longer ih h = h

pub front : (ps : List Place) (list rest : Parts) → full ps (list ++ rest) ≡ true → agrees ps list ≡ true
front [] [] rest h = refl
front (p ∷ ps) [] rest h = refl
front [] (x ∷ list) rest h = h
front (p ∷ ps) (x ∷ list) rest h =
    front_behind (takes p x) (full ps) (agrees ps list) (list ++ rest) (front ps list rest) (sym (ap (passes (full ps)) (step_is p x (list ++ rest))) ∙ h)

-- some list that is whole begins with it
extended_behind : (b : Bool) (whole : Parts → Bool) (part : Bool) (list : Parts) → (part ≡ true → (rest : Parts) × (whole (list ++ rest) ≡ true)) → (b && part) ≡ true
    → (rest : Parts) × (passes whole (cond b (Some (list ++ rest)) None) ≡ true)
extended_behind true whole part list ih h = ih h
extended_behind false whole part list ih h = absurd (no_false h)

pub extended : (ps : List Place) (list : Parts) → agrees ps list ≡ true → (rest : Parts) × (full ps (list ++ rest) ≡ true)
extended ps [] h = samples ps
extended [] (x ∷ list) h = absurd (no_false h)
extended (p ∷ ps) (x ∷ list) h =
    let more = extended_behind (takes p x) (full ps) (agrees ps list) list (extended ps list) h in
    (more.0, ap (passes (full ps)) (step_is p x (list ++ more.0)) ∙ more.1)
