-- Base64 texts: what a text decodes to, whole and from its groups of four characters.
use Rattle.std.proofs.Common.{◌≡◌, ℕ, zero, suc, ◌+◌, ◌*◌, ◌/◌, ◌%◌, ◌<◌, List, [], ◌∷◌, ◌++◌, length, take, drop, slice_index, Option, Some, None, Result, Ok, Err, refl, ap, sym, subst, ◌∙◌, arith, All, inl, inr, ◌⊎◌}
use Rattle.std.specs.Prelude.{◌==◌, if◌then◌else◌}
use Rattle.std.proofs.lemmas.Bool.{cases_lt}
use Rattle.std.proofs.lemmas.Bool.Decides.{eqb_tells}
use Rattle.std.proofs.lemmas.List.{get_or_default, get_or_past, take_at, drop_at, length-append, length-take-le, length-drop, length-replicate, take-append-drop}
use Rattle.std.proofs.lemmas.List.Elements.{All-nil, All-cons, All-append, All-take, All-drop, All-head, All-tail}
use Rattle.std.specs.Result.{result_ok}
use Rattle.base64.specs.Decode.{IsDecodeTable, symbol_error, group_error, groups_error, groups_bytes, groups_before_last, decode_group, or_else, push_leftover, scan, scan_bytes, decode_outcome, lone_error, no_leftover}
use Rattle.base64.specs.Engines.{standard}
use Rattle.base64.specs.GeneralPurpose.{IsBytes, decode_of, encode_of}
use Rattle.base64.specs.Rfc4648.{unpadded_len, padding_len}
use Rattle.base64.proofs.RoundTrip.{length-encode_symbols}
use Rattle.base64.specs.declared.decode.DecodeError.{DecodeError}
use Rattle.std.proofs.lemmas.Grind.{common_steps}
use Rattle.base64.proofs.Decoding.{IsLeftover, IsLeftover_next, scan-cons_err, scan-cons_ok, scan-nil}
use Rattle.base64.proofs.Tables.{IsDecodeTable_from, are_tables_inverse}
use Rattle.base64.proofs.EngineFacts.{decode_of_strict, decode_of-encode_of, encode_of-append}
use Rattle.bson_base.specs.Parsed.{bytes_of_base64}
use Rattle.bson_kinds.specs.Text.{Bytes}

-- a whole group's bytes before those of what follows it
abbrev pub after_group : Option Bytes → Option Bytes → Option Bytes
after_group (Some a) (Some b) = if length a == 3 then Some (a ++ b) else None
after_group (Some a) None = None
after_group None more = None

-- a record, so that antt finds the list from a proof of it
pub record AreSmall (bs : List ℕ) : Type 0 where
  pub all : All (λ b. b < 256) bs

small_nil : AreSmall []
small_nil = record { all = All-nil (λ b. b < 256) }

small_cons : (b : ℕ) (bs : List ℕ) → b < 256 → AreSmall bs → AreSmall (b ∷ bs)
small_cons b bs h t = record { all = All-cons (λ x. x < 256) b bs h t.all }

small_head : (b : ℕ) (bs : List ℕ) → AreSmall (b ∷ bs) → b < 256
small_head b bs h = All-head (λ x. x < 256) b bs h.all

small_tail : (b : ℕ) (bs : List ℕ) → AreSmall (b ∷ bs) → AreSmall bs
small_tail b bs h = record { all = All-tail (λ x. x < 256) b bs h.all }

small_append : (xs ys : List ℕ) → AreSmall xs → AreSmall ys → AreSmall (xs ++ ys)
small_append xs ys h t = record { all = All-append (λ b. b < 256) xs ys h.all t.all }

small_take : (n : ℕ) (xs : List ℕ) → AreSmall xs → AreSmall (take n xs)
small_take n xs h = record { all = All-take (λ b. b < 256) n xs h.all }

small_drop : (n : ℕ) (xs : List ℕ) → AreSmall xs → AreSmall (drop n xs)
small_drop n xs h = record { all = All-drop (λ b. b < 256) n xs h.all }

small_bytes : (b : List ℕ) → AreSmall b → IsBytes b
small_bytes b all i = elim (cases_lt i (length b)) [
  | inl within ↦ all.all i 0 within
  | inr past ↦ rw (get_or_past b i 0 past) (omega arith)
]

bytes_small : (b : List ℕ) → IsBytes b → AreSmall b
bytes_small b all = record { all = λ i d within. rw (get_or_default b i d 0 within) (all i) }

pub bytes_front : (n : ℕ) (s : List ℕ) → IsBytes s → IsBytes (take n s)
bytes_front n s b = small_bytes (take n s) (small_take n s (bytes_small s b))

pub bytes_back : (n : ℕ) (s : List ℕ) → IsBytes s → IsBytes (drop n s)
bytes_back n s b = small_bytes (drop n s) (small_drop n s (bytes_small s b))

-- ---- what decodes is bytes

or_else_none : (a b : Option DecodeError) → or_else a b ≡ None → (a ≡ None) × (b ≡ None)
or_else_none None b e = (refl, e)
or_else_none (Some x) b e = cc e

symbol_small : (dec s : List ℕ) (i : ℕ) → IsDecodeTable dec → IsBytes s → symbol_error dec s i ≡ None → slice_index dec (slice_index s i) < 64
symbol_small dec s i table bytes e = elim (table (slice_index s i) (bytes i)) [
  | inl none ↦ cc (rw none at e)
  | inr small ↦ small
]

group_small : (a b c d : ℕ) → a < 64 → b < 64 → c < 64 → d < 64 → AreSmall (decode_group a b c d)
group_small a b c d ha hb hc hd =
    let one : a * 4 + b / 16 < 256 = omega arith in
    let two : b % 16 * 16 + c / 4 < 256 = omega arith in
    let three : c % 4 * 64 + d < 256 = omega arith in
    small_cons _ _ one (small_cons _ _ two (small_cons _ _ three small_nil))

groups_small : (dec s : List ℕ) (q : ℕ) → IsDecodeTable dec → IsBytes s → groups_error dec s q ≡ None → AreSmall (groups_bytes dec s q)
unfolding groups_error groups_bytes
groups_small dec s zero table bytes e = small_nil
groups_small dec s (suc q) table bytes e =
    let parts = or_else_none (groups_error dec s q) (group_error dec s (4 * q)) e in
    let one = or_else_none (symbol_error dec s (4 * q)) _ parts.1 in
    let two = or_else_none (symbol_error dec s (4 * q + 1)) _ one.1 in
    let three = or_else_none (symbol_error dec s (4 * q + 2)) (symbol_error dec s (4 * q + 3)) two.1 in
    small_append _ _ (groups_small dec s q table bytes parts.0)
    (group_small _ _ _ _ (symbol_small dec s (4 * q) table bytes one.0) (symbol_small dec s (4 * q + 1) table bytes two.0)
    (symbol_small dec s (4 * q + 2) table bytes three.0) (symbol_small dec s (4 * q + 3) table bytes three.1))

result_cases : {T E : Type 0} (r : Result T E) → ((x : T) × (r ≡ Ok x)) ⊎ ((e : E) × (r ≡ Err e))
result_cases (Ok x) = inl (x, refl)
result_cases (Err e) = inr (e, refl)

scan_small : (dec : List ℕ) (pad at i : ℕ) (bs : List ℕ) (st : _) → IsDecodeTable dec → AreSmall bs → IsLeftover st i
    → AreSmall (scan_bytes (scan dec pad at st i bs))
scan_small dec pad at i [] st table small held =
    rw (scan-nil dec pad at st i) (small_take _ _ (group_small _ _ _ _ (held.3 0) (held.3 1) (held.3 2) (held.3 3)))
scan_small dec pad at i (b ∷ bs) st table small held = elim (result_cases (push_leftover dec pad at st i b)) [
  | inl ok ↦
      rw (scan-cons_ok dec pad at st i b bs ok.0 ok.1) (scan_small dec pad at (i + 1) bs ok.0 table (small_tail b bs small)
      (IsLeftover_next dec pad at st i b ok.0 table held (small_head b bs small) ok.1))
  | inr err ↦ rw (scan-cons_err dec pad at st i b bs err.0 err.1) (small_nil)
]

outcome_parts : (e : Option DecodeError) (x b : List ℕ) → decode_outcome e x ≡ Ok b → (e ≡ None) × (x ≡ b)
outcome_parts None x b e = (refl, cc)
outcome_parts (Some f) x b e = cc e

zero_left : (k : ℕ) → slice_index (0 ∷ 0 ∷ 0 ∷ 0 ∷ []) k < 64
zero_left k = grind (arith, common_steps)

table : IsDecodeTable standard.decode_table
table = IsDecodeTable_from standard.encode_table standard.decode_table (are_tables_inverse standard.encode_table standard.decode_table standard.padding.value standard.tables)

pub decoded_small : (s b : List ℕ) → IsBytes s → decode_of standard s ≡ Ok b → AreSmall b
decoded_small s b bytes ok =
    let dec = standard.decode_table in
    let q : ℕ = groups_before_last (length s) in
    let parts = outcome_parts _ _ b ok in
    let lone = or_else_none (lone_error dec 61 s) _ parts.0 in
    let groups = or_else_none (groups_error dec s q) _ lone.1 in
    subst AreSmall parts.1 (small_append _ _ (groups_small dec s q table bytes groups.0)
    (scan_small dec 61 (4 * q) 0 (drop (4 * q) s) no_leftover table (small_drop _ _ (bytes_small s bytes)) (omega arith, omega arith, omega arith, zero_left)))

-- ---- a text is the encoding of its bytes, and of nothing else

ok_some : {T E : Type 0} (r : Result T E) (x : T) → result_ok r ≡ Some x → r ≡ Ok x
ok_some (Ok y) x e = cc
ok_some (Err f) x e = cc e

pub base64_ok : (s b : List ℕ) → IsBytes s → bytes_of_base64 s ≡ Some b → (s ≡ encode_of standard b) × AreSmall b
unfolding bytes_of_base64
base64_ok s b bytes e =
    let d = ok_some (decode_of standard s) b e in
    (decode_of_strict standard s b (refl, refl) bytes d, decoded_small s b bytes d)

pub bytes_of_base64-written : (b : List ℕ) → AreSmall b → bytes_of_base64 (encode_of standard b) ≡ Some b
unfolding bytes_of_base64
bytes_of_base64-written b small = rw (decode_of-encode_of standard b refl (small_bytes b small)) refl

pub length-text : (b : List ℕ) → length (encode_of standard b) ≡ unpadded_len (length b) + padding_len (length b)
length-text b = rw (length-append, length-encode_symbols, length-replicate) refl

-- ---- group by group

record IsSplit (g rest c : List ℕ) : Type 0 where
  front : bytes_of_base64 g ≡ Some (take 3 c)
  back : bytes_of_base64 rest ≡ Some (drop 3 c)
  three : length (take 3 c) ≡ 3

split : (g rest c : List ℕ) → length g ≡ 4 → 0 < length rest → IsBytes (g ++ rest) → bytes_of_base64 (g ++ rest) ≡ Some c → IsSplit g rest c
split g rest c four some bytes e =
    let parts = base64_ok (g ++ rest) c bytes e in
    let all : length g + length rest ≡ unpadded_len (length c) + padding_len (length c) =
    sym (length-append g rest) ∙ ap length parts.0 ∙ length-text c in
    let long : 3 < length c = omega arith in
    let three : length (take 3 c) ≡ 3 = length-take-le 3 c (omega arith) in
    let whole : length (take 3 c) % 3 ≡ 0 = rw three refl in
    let cut : encode_of standard c ≡ encode_of standard (take 3 c) ++ encode_of standard (drop 3 c) =
    subst (λ x. encode_of standard x ≡ encode_of standard (take 3 c) ++ encode_of standard (drop 3 c)) (take-append-drop 3 c) (encode_of-append standard (take 3 c) (drop 3 c) whole) in
    let text : g ++ rest ≡ encode_of standard (take 3 c) ++ encode_of standard (drop 3 c) = parts.0 ∙ cut in
    let group : length (encode_of standard (take 3 c)) ≡ 4 = length-text (take 3 c) ∙ (rw three refl) in
    let gs : g ≡ encode_of standard (take 3 c) = sym (take_at g rest 4 four) ∙ ap (take 4) text ∙ take_at _ _ 4 group in
    let rs : rest ≡ encode_of standard (drop 3 c) = sym (drop_at g rest 4 four) ∙ ap (drop 4) text ∙ drop_at _ _ 4 group in
    record {
      front = subst (λ x. bytes_of_base64 x ≡ Some (take 3 c)) (sym gs) (bytes_of_base64-written _ (small_take 3 c parts.1));
      back = subst (λ x. bytes_of_base64 x ≡ Some (drop 3 c)) (sym rs) (bytes_of_base64-written _ (small_drop 3 c parts.1));
      three = three;
    }

joined : (g rest a b : List ℕ) → IsBytes g → IsBytes rest → bytes_of_base64 g ≡ Some a → bytes_of_base64 rest ≡ Some b → length a ≡ 3 → bytes_of_base64 (g ++ rest) ≡ Some (a ++ b)
joined g rest a b gb rb ga rbs three =
    let one = base64_ok g a gb ga in
    let two = base64_ok rest b rb rbs in
    let whole : length a % 3 ≡ 0 = rw three refl in
    let text : g ++ rest ≡ encode_of standard (a ++ b) = rw (encode_of-append standard a b whole, one.0, two.0) refl in
    rw text (bytes_of_base64-written (a ++ b) (small_append a b one.1 two.1))

step_by : (g rest : List ℕ) (x y z : Option (List ℕ)) → length g ≡ 4 → 0 < length rest → IsBytes g → IsBytes rest → IsBytes (g ++ rest)
    → bytes_of_base64 (g ++ rest) ≡ x → bytes_of_base64 g ≡ y → bytes_of_base64 rest ≡ z → x ≡ after_group y z
step_by g rest (Some c) y z four some gb rb bytes ex ey ez =
    let s = split g rest c four some bytes ex in
    rw (sym ey ∙ s.front, sym ez ∙ s.back, s.three, take-append-drop 3 c) refl
step_by g rest None None z four some gb rb bytes ex ey ez = refl
step_by g rest None (Some a) None four some gb rb bytes ex ey ez = refl
step_by g rest None (Some a) (Some b) four some gb rb bytes ex ey ez = elim (eqb_tells (length a) 3) [
  | inl three ↦ cc (sym ex ∙ joined g rest a b gb rb ey ez three.1)
  | inr other ↦ rw other.0 refl
]

pub base64_step : (g rest : List ℕ) → length g ≡ 4 → 0 < length rest → IsBytes g → IsBytes rest → IsBytes (g ++ rest)
    → bytes_of_base64 (g ++ rest) ≡ after_group (bytes_of_base64 g) (bytes_of_base64 rest)
base64_step g rest four some gb rb bytes = step_by g rest _ _ _ four some gb rb bytes refl refl refl

-- ---- a text is cut

-- a text of more than four characters is a group and the rest
pub base64_cut : (s : List ℕ) → 4 < length s → IsBytes s → bytes_of_base64 s ≡ after_group (bytes_of_base64 (take 4 s)) (bytes_of_base64 (drop 4 s))
base64_cut s long bytes =
    let whole = take-append-drop 4 s in
    ap bytes_of_base64 (sym whole) ∙ base64_step (take 4 s) (drop 4 s) (length-take-le 4 s (omega arith)) (simp length-drop (omega arith)) (bytes_front 4 s bytes) (bytes_back 4 s bytes) (subst IsBytes (sym whole) bytes)

-- ---- what a decoder answers

pub base64_some : (s b : List ℕ) → decode_of standard s ≡ Ok b → bytes_of_base64 s ≡ Some b
unfolding bytes_of_base64
base64_some s b e = ap result_ok e

pub base64_none : (s : List ℕ) (f : DecodeError) → decode_of standard s ≡ Err f → bytes_of_base64 s ≡ None
unfolding bytes_of_base64
base64_none s f e = ap result_ok e
