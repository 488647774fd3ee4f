-- What a value is written as, in the canonical form, is read as it again.
use Rattle.std.proofs.Common.{◌≡◌, ℕ, suc, ◌<◌, ◌^◌, [], ◌∷◌, Bool, true, false, cond, Option, Some, None, Ok, ℤ, pos, negsuc, refl, ap, sym, ◌∙◌, arith, FitsSigned, w32, w64}
use Rattle.std.specs.Prelude.{nat_lt, codes, option_map, option_and_then}
use Rattle.std.specs.Fmt.{decimal}
use Rattle.std.proofs.lemmas.Bool.Decides.{nat_tests}
use Rattle.std.proofs.lemmas.List.Elements.{All-nil, All-cons}
use Rattle.json.specs.Json as json
use Rattle.json.specs.Json.{Json, Items, no_items, item, Members, no_members, member, object}
use Rattle.bson_kinds.specs.Outcome.{◌>>=◌, result_map}
use Rattle.bson_kinds.specs.Text.{Bytes, AreBytes, Utf8}
use Rattle.bson_base.specs.Folded.{byte_of_digits, is_int32, int32_of, uint32_of, object_id_of_text, int32_of_text, int64_of_text}
use Rattle.bson_base.specs.Pairs.{put}
use Rattle.bson_base.specs.Made.{digits, number_text, base64_text}
use Rattle.bson_base.specs.Parsed.{first_byte}
use Rattle.bson_base.specs.Sound.{HasBytes}
use Rattle.bson_base.specs.Tree.{Tree, double, string, document, array, binary, undefined, object_id, boolean, date_time, null, regular_expression, db_pointer, javascript_code, symbol, javascript_code_with_scope, int32, timestamp, int64, decimal128, max_key, min_key, raw, Pairs, no_pairs, pair, Trees, no_trees, tree}
use Rattle.bson_base.proofs.WrittenTexts.{digits_read, integer_read, base64_read}
use Rattle.bson_json_laws.specs.Doubles.{float_in, double_bytes, double_of_text, IsFloatText}
use Rattle.bson_json_laws.specs.JsonOf.{one, two, text_at, one_at, IsJson, AreMembers, AreItems}
use Rattle.bson_json_laws.specs.Read.{read, read_items, read_members, settled, settled_at, integer_tree, integer_or_double, number_tree, binary_of, timestamp_of, decimal_tree, uint32_in}
use Rattle.bson_json_laws.specs.Unread.{Reading, or_refused, bad_wrapper}
use Rattle.bson_json_laws.specs.WrapperKeys.{first_wrapper}
use Rattle.bson_values.specs.Refusal.{under, under_index}
use Rattle.bson_values.specs.declared.wrapper.Wrapper.{Wrapper}
use Rattle.bson_values.specs.declared.wrapper.Wrapper.TheVariants.{Oid, NumberInt, NumberLong, NumberDouble, NumberDecimal, Binary, Timestamp}
use Rattle.bson_decimals.specs.Decimals.{decimal_text}
use Rattle.bson_decimals.specs.Law.{ReadsBack}
use Rattle.bson_json_laws.proofs.Textual.{IsTextual, ArePairsTextual, AreTreesTextual}
use Rattle.bson_json_laws.specs.declared.form.JsonForm.TheVariants.{Canonical}
use Rattle.bson_json_laws.proofs.DoubleTexts.{float_read}
use Rattle.bson_json_laws.proofs.JoinedPairs.{joined, joined_nil, joined_more, AllLack, all_lack_none, all_lack_more, is_new, put_new}

-- ---- the kinds that hold no other value

one_byte : (n : ℕ) → n < 256 → AreBytes (n ∷ [])
one_byte n small = All-cons (λ b. b < 256) n [] small (All-nil (λ b. b < 256))

-- the value of a wrapper key
unwrapped : (w : Wrapper) (o : Option Tree) (t : Tree) → o ≡ Some t → or_refused (bad_wrapper w) o ≡ Ok t
unwrapped w o t e = ap (or_refused (bad_wrapper w)) e

pub double_back : (bytes : Bytes) (s : Utf8) → IsFloatText (float_in bytes) s → double_bytes (float_in bytes) ≡ bytes → read (text_at (codes "$numberDouble") s) ≡ Ok (double bytes)
double_back bytes s h e = unwrapped NumberDouble (option_map double (double_of_text s)) (double bytes) (ap (option_map double) (float_read (float_in bytes) s h) ∙ ap (λ b. Some (double b)) e)

object_id_back : (id : Bytes) → HasBytes 12 id → read (text_at (codes "$oid") (digits id)) ≡ Ok (object_id id)
object_id_back id h = unwrapped Oid (object_id_of_text (digits id)) (object_id id) (ap (option_map object_id) (digits_read 12 id h.count h.are_bytes))

binary_back : (subtype : ℕ) (bytes : Bytes) → subtype < 256 → AreBytes bytes
    → read (one (codes "$binary") (two (codes "base64") (json.string (base64_text bytes)) (codes "subType") (json.string (digits (subtype ∷ []))))) ≡ Ok (binary subtype bytes)
binary_back subtype bytes small all =
    unwrapped Binary (binary_of (string (base64_text bytes)) (string (digits (subtype ∷ [])))) (binary subtype bytes)
    (ap (option_and_then (λ b. option_map (λ n. binary n b) (byte_of_digits (digits (subtype ∷ []))))) (base64_read bytes all)
    ∙ ap (λ o. option_map (λ n. binary n bytes) (option_and_then first_byte o)) (digits_read 1 (subtype ∷ []) refl (one_byte subtype small)))

int64_back : (n : ℤ) → FitsSigned w64 n → read (text_at (codes "$numberLong") (number_text n)) ≡ Ok (int64 n)
int64_back n f = unwrapped NumberLong (int64_of_text (number_text n)) (int64 n) (ap (option_map int64) (integer_read n f))

-- the one member of an object
one_read : (key : Utf8) (j : Json) (t : Tree) → read j ≡ Ok t → read (one key j) ≡ settled (pair key t no_pairs)
one_read key j t e = ap (λ (r : Reading Tree). (under key r >>= λ u. Ok (pair key u no_pairs)) >>= settled) e

pub date_back : (n : ℤ) → FitsSigned w64 n → read (one (codes "$date") (text_at (codes "$numberLong") (number_text n))) ≡ Ok (date_time n)
date_back n f = one_read (codes "$date") (text_at (codes "$numberLong") (number_text n)) (int64 n) (int64_back n f)

pub in_int32 : (n : ℤ) → FitsSigned w32 n → is_int32 n ≡ true
in_int32 (pos n) f = grind (arith, nat_tests)
in_int32 (negsuc n) f = grind (arith, nat_tests)

pub wider : (n : ℤ) → FitsSigned w32 n → FitsSigned w64 n
wider (pos n) f = record { sfits = grind (arith, nat_tests) }
wider (negsuc n) f = record { sfits = grind (arith, nat_tests) }

int32_back : (n : ℤ) → FitsSigned w32 n → read (text_at (codes "$numberInt") (number_text n)) ≡ Ok (int32 n)
int32_back n f =
    unwrapped NumberInt (int32_of_text (number_text n)) (int32 n)
    (ap (option_and_then int32_of) (integer_read n (wider n f)) ∙ ap (λ b. cond b (Some (int32 n)) None) (in_int32 n f))

decimal_back : (bytes : Bytes) → ReadsBack bytes → read (text_at (codes "$numberDecimal") (decimal_text bytes)) ≡ Ok (decimal128 bytes)
decimal_back bytes h = unwrapped NumberDecimal (decimal_tree (decimal_text bytes)) (decimal128 bytes) (ap (option_map decimal128) h)

no_wrapper : (ps : Pairs) → ArePairsTextual ps → first_wrapper ps ≡ None
no_wrapper no_pairs h = refl
no_wrapper (pair k t ps) h = rw (h.0, no_wrapper ps h.3) refl

pointer_back : (namespace : Utf8) (id : Bytes) → HasBytes 12 id
    → read (one (codes "$dbPointer") (two (codes "$ref") (json.string namespace) (codes "$id") (text_at (codes "$oid") (digits id)))) ≡ Ok (db_pointer namespace id)
pointer_back namespace id h = rw (digits_read 12 id h.count h.are_bytes) refl

pub scoped_read : (code : Utf8) (scope : Pairs) (ms : Members) → read_members ms no_pairs ≡ Ok scope → first_wrapper scope ≡ None
    → read (two (codes "$code") (json.string code) (codes "$scope") (object ms)) ≡ Ok (javascript_code_with_scope code scope)
scoped_read code scope ms e h = rw (e, h) refl

-- ---- numbers

abbrev in_range : ℕ → Type 0
in_range n = n < 2 ^ 32

unsigned_read : (n : ℕ) → n < 2 ^ 32 → number_tree (decimal n) ≡ Ok (integer_tree (pos n))
unfolding number_text
unsigned_read n small =
    let fits : FitsSigned w64 (pos n) = record { sfits = omega arith } in
    ap (integer_or_double (decimal n)) (integer_read (pos n) fits)

fits32 : (n : ℕ) → n < 2 ^ 32 → uint32_of (pos n) ≡ Some n
fits32 n small =
    let test : nat_lt n 4294967296 ≡ true = grind (arith, nat_tests) in
    ap (λ b. cond b (Some n) None) test

unsigned_in : (n : ℕ) (b : Bool) → n < 2 ^ 32 → uint32_in (cond b (int32 (pos n)) (int64 (pos n))) ≡ Some n
unsigned_in n true small = fits32 n small
unsigned_in n false small = fits32 n small

timestamp_parts : (t u : Tree) (time increment : ℕ) → uint32_in t ≡ Some time → uint32_in u ≡ Some increment
    → settled (pair (codes "$timestamp") (document (pair (codes "t") t (pair (codes "i") u no_pairs))) no_pairs) ≡ Ok (timestamp time increment)
timestamp_parts t u time increment a b =
    unwrapped Timestamp (timestamp_of t u) (timestamp time increment) (ap (λ o. option_and_then (λ n. option_map (timestamp n) (uint32_in u)) o) a ∙ ap (option_map (timestamp time)) b)

timestamp_back : (time increment : ℕ) → time < 2 ^ 32 → increment < 2 ^ 32
    → read (one (codes "$timestamp") (two (codes "t") (json.number (decimal time)) (codes "i") (json.number (decimal increment)))) ≡ Ok (timestamp time increment)
timestamp_back time increment t i =
    let timed = unsigned_read time t in
    let counted = unsigned_read increment i in
    rw (timed, counted) (timestamp_parts (integer_tree (pos time)) (integer_tree (pos increment)) time increment (unsigned_in time (is_int32 (pos time)) t) (unsigned_in increment (is_int32 (pos increment)) i))

first_number : number_tree (decimal 1) ≡ Ok (int32 (pos 1))
first_number = unsigned_read 1 (omega arith)

max_back : read (one_at (codes "$maxKey")) ≡ Ok max_key
max_back = rw first_number refl

min_back : read (one_at (codes "$minKey")) ≡ Ok min_key
min_back = rw first_number refl

-- ---- every value

pub settles : (ps : Pairs) → first_wrapper ps ≡ None → settled ps ≡ Ok (document ps)
settles ps e = ap (λ w. settled_at w ps) e

mutual
  pub reads_back : (t : Tree) (j : Json) → IsTextual t → IsJson Canonical t j → read j ≡ Ok t
  reads_back (double bytes) j h w = ap read w.1 ∙ double_back bytes w.0 w.2 h
  reads_back (string t) j h w = ap read w
  reads_back (document ps) j h w =
      ap read w.1 ∙ ap (λ (r : Reading Pairs). r >>= settled) (members_back ps w.0 no_pairs h w.2 (all_lack_none ps)) ∙ settles ps (no_wrapper ps h)
  reads_back (array ts) j h w = ap read w.1 ∙ ap (result_map array) (items_back 0 ts w.0 h w.2)
  reads_back (binary subtype bytes) j h w = ap read w ∙ binary_back subtype bytes h.0 h.1
  reads_back undefined j h w = ap read w
  reads_back (object_id id) j h w = ap read w ∙ object_id_back id h
  reads_back (boolean b) j h w = ap read w
  reads_back (date_time n) j h w = ap read w ∙ date_back n h
  reads_back null j h w = ap read w
  reads_back (regular_expression pattern options) j h w = ap read w ∙ ap (λ o. Ok (regular_expression pattern o)) h
  reads_back (db_pointer namespace id) j h w = ap read w ∙ pointer_back namespace id h
  reads_back (javascript_code t) j h w = ap read w
  reads_back (symbol t) j h w = ap read w
  reads_back (javascript_code_with_scope code scope) j h w = ap read w.1 ∙ scoped_read code scope w.0 (members_back scope w.0 no_pairs h w.2 (all_lack_none scope)) (no_wrapper scope h)
  reads_back (int32 n) j h w = ap read w ∙ int32_back n h
  reads_back (timestamp time increment) j h w = ap read w ∙ timestamp_back time increment h.0 h.1
  reads_back (int64 n) j h w = ap read w ∙ int64_back n h
  reads_back (decimal128 bytes) j h w = ap read w ∙ decimal_back bytes h
  reads_back max_key j h w = ap read w ∙ max_back
  reads_back min_key j h w = ap read w ∙ min_back
  reads_back (raw k bytes) j h w = absurd w

  members_back : (ps : Pairs) (ms : Members) (done : Pairs) → ArePairsTextual ps → AreMembers Canonical ps ms → AllLack ps done → read_members ms done ≡ Ok (joined done ps)
  members_back no_pairs no_members done h w new = ap Ok (sym (joined_nil done))
  members_back no_pairs (member k j ms) done h w new = absurd w
  members_back (pair key t ps) no_members done h w new = absurd w
  members_back (pair key t ps) (member k j ms) done h w new =
      let more = joined done (pair key t no_pairs) in
      ap (λ n. read_members (member n j ms) done) w.0
      ∙ ap (λ (r : Reading Pairs). r >>= λ ds. under key (read j) >>= λ u. read_members ms (put key u ds)) (is_new key done new.0)
      ∙ ap (λ (r : Reading Tree). under key r >>= λ u. read_members ms (put key u done)) (reads_back t j h.2 w.1)
      ∙ ap (read_members ms) (put_new key t done new.0)
      ∙ members_back ps ms more h.3 w.2 (all_lack_more ps key t done new.1 h.1)
      ∙ ap Ok (joined_more done key t ps)

  items_back : (i : ℕ) (ts : Trees) (js : Items) → AreTreesTextual ts → AreItems Canonical ts js → read_items i js ≡ Ok ts
  items_back i no_trees no_items h w = refl
  items_back i no_trees (item j js) h w = absurd w
  items_back i (tree t ts) no_items h w = absurd w
  items_back i (tree t ts) (item j js) h w =
      ap (λ (r : Reading Tree). under_index i r >>= λ u. result_map (tree u) (read_items (suc i) js)) (reads_back t j h.0 w.0) ∙ ap (result_map (tree t)) (items_back (suc i) ts js h.1 w.1)
