-- A sound document has a text that is read back, where its values are ordinary.
use Rattle.std.proofs.Common.{◌≡◌, ◌<◌, ◌^◌, ℕ, suc, List, [], ◌∷◌, get_or, Bool, true, false, not, T, None, refl, sym, ap, subst, ◌∙◌, arith, true≢false, leb, zero, w64}
use Rattle.std.specs.Prelude.{codes}
use Rattle.std.specs.Float.{Float, binary64, nan, inf, fin}
use Rattle.std.specs.Int.{from_le_bytes, to_le_bytes}
use Rattle.std.specs.Str.{bytes_eq}
use Rattle.std.proofs.lemmas.Bool.{le-leb}
use Rattle.std.proofs.lemmas.Nat.{le_bytes_8}
use Rattle.std.proofs.lemmas.Slice.Eq.{bytes_eq-Decides}
use lib.Ieee.{is_nan, to_bits, of_bits}
use lib.Ieee.Bits.{to_bits-of_bits}
use Rattle.bson_decimals.proofs.ReadBack.{reads_back as decimal_reads_back}
use Rattle.bson_decimals.specs.Law.{ReadsBack}
use Rattle.bson_kinds.specs.Outcome.{or_else}
use Rattle.bson_kinds.specs.Text.{Bytes, AreBytes, Utf8, begins_with_dollar}
use Rattle.bson_base.specs.Sound.{HasBytes, IsClean, ArePairsClean, AreTreesClean, IsSound}
use Rattle.bson_base.specs.Tree.{Tree, double, string, document, array, binary, undefined, object_id, boolean, date_time, null, regular_expression, db_pointer, javascript_code, symbol, javascript_code_with_scope, int32, timestamp, int64, decimal128, max_key, min_key, raw, Pairs, no_pairs, pair, Trees, no_trees, tree, depth}
use Rattle.bson_values.specs.Refusal.{at_key, at_index}
use Rattle.bson_values.specs.Wrapper.{key, with_key}
use Rattle.bson_values.specs.declared.wrapper.Wrapper.{Wrapper}
use Rattle.bson_json_laws.specs.Doubles.{float_in, double_bytes}
use Rattle.bson_json_laws.specs.Held.{IsHeld, ArePairsHeld, AreTreesHeld}
use Rattle.bson_json_laws.specs.Ordinary.{nan_bytes, IsOrdinary, ArePairsOrdinary, AreTreesOrdinary}
use Rattle.bson_json_laws.specs.TextFault.{key_fault, double_fault, are_these, decimal_fault, fault_in, text_fault, pairs_text_fault, trees_text_fault, levels_fault, document_text_fault}
use Rattle.bson_json_laws.specs.WrapperKeys.{json_wrappers, wrapper_of}

-- ---- keys

abbrev pub BeginWithDollar : List Wrapper → Type 0
BeginWithDollar [] = Unit {0}
BeginWithDollar (w ∷ ws) = (begins_with_dollar (key w) ≡ true) × BeginWithDollar ws

other_key : (k other : Utf8) → begins_with_dollar k ≡ false → begins_with_dollar other ≡ true → bytes_eq k other ≡ false
other_key k other plain dollar = by_test (bytes_eq k other) refl where
  by_test : (b : Bool) → bytes_eq k other ≡ b → b ≡ false
  by_test false e = refl
  by_test true e = absurd (true≢false (sym dollar ∙ ap begins_with_dollar (sym ((bytes_eq-Decides k other).0 e)) ∙ plain))

none_of : (k : Utf8) (ws : List Wrapper) → begins_with_dollar k ≡ false → BeginWithDollar ws → with_key k ws ≡ None
none_of k [] plain h = refl
none_of k (w ∷ ws) plain h = rw (other_key k (key w) plain h.0) (none_of k ws plain h.1)

plain_key : (k : Utf8) → begins_with_dollar k ≡ false → key_fault k ≡ None
plain_key k plain =
    let none : wrapper_of k ≡ None = none_of k json_wrappers plain (refl, (refl, (refl, (refl, (refl, (refl, (refl, (refl, (refl, (refl, (refl, (refl, (refl, (refl, (refl, (refl, (refl, tt))))))))))))))))) in
    rw none refl

-- ---- doubles and decimals

byte_at : (bs : Bytes) (i : ℕ) → AreBytes bs → get_or bs i 0 < 256
byte_at [] i h = omega arith
byte_at (x ∷ bs) zero h = h 0 0 (omega arith)
byte_at (x ∷ bs) (suc i) h = byte_at bs i (λ k d l. h (suc k) d (omega arith))

nan_back : double_bytes (float_in nan_bytes) ≡ nan_bytes
unfolding float_in double_bytes to_bits of_bits
nan_back = refl

bits_back : (bytes : Bytes) (x : Float) → HasBytes 8 bytes → float_in bytes ≡ x → T (not (is_nan x)) → double_bytes (float_in bytes) ≡ bytes
unfolding float_in double_bytes
bits_back bytes x h e number =
    let n = from_le_bytes w64 bytes in
    let at = λ (i : ℕ). byte_at bytes i h.are_bytes in
    let small : n < 2 ^ 64 = omega (arith, at 0, at 1, at 2, at 3, at 4, at 5, at 6, at 7) in
    ap (to_le_bytes w64) (to_bits-of_bits binary64 n small (subst (λ v. T (not (is_nan v))) (sym e) number)) ∙ le_bytes_8 bytes n h.count at refl

double_same : (bytes : Bytes) (x : Float) → float_in bytes ≡ x → HasBytes 8 bytes → (float_in bytes ≡ nan → bytes ≡ nan_bytes) → double_bytes (float_in bytes) ≡ bytes
unfolding is_nan
double_same bytes nan e h ordinary = subst (λ b. double_bytes (float_in b) ≡ b) (sym (ordinary e)) nan_back
double_same bytes (inf s) e h ordinary = bits_back bytes (inf s) h e tt
double_same bytes (fin s m k) e h ordinary = bits_back bytes (fin s m k) h e tt

double_passes : (bytes : Bytes) → double_bytes (float_in bytes) ≡ bytes → double_fault bytes ≡ None
double_passes bytes e = rw ((bytes_eq-Decides (double_bytes (float_in bytes)) bytes).1 e) refl

decimal_passes : (bytes : Bytes) → ReadsBack bytes → decimal_fault bytes ≡ None
decimal_passes bytes e = rw (ap (are_these bytes) e ∙ (bytes_eq-Decides bytes bytes).1 refl) refl

-- ---- every value

mutual
  held : (t : Tree) → IsClean t → IsOrdinary t → IsHeld t
  held (double bytes) h o = tt
  held (string t) h o = tt
  held (document ps) h o = pairs_held ps h o
  held (array ts) h o = trees_held ts h o
  held (binary subtype bytes) h o = (h.is_byte, h.are_bytes)
  held undefined h o = tt
  held (object_id id) h o = h
  held (boolean b) h o = tt
  held (date_time n) h o = h
  held null h o = tt
  held (regular_expression pattern options) h o = o
  held (db_pointer namespace id) h o = h.1
  held (javascript_code t) h o = tt
  held (symbol t) h o = tt
  held (javascript_code_with_scope code scope) h o = pairs_held scope h.1 o
  held (int32 n) h o = h
  held (timestamp time increment) h o = h
  held (int64 n) h o = h
  held (decimal128 bytes) h o = h.count
  held max_key h o = tt
  held min_key h o = tt
  held (raw k bytes) h o = absurd h

  pub pairs_held : (ps : Pairs) → ArePairsClean ps → ArePairsOrdinary ps → ArePairsHeld ps
  pairs_held no_pairs h o = tt
  pairs_held (pair key t ps) h o = (h.1, held t h.2 o.0, pairs_held ps h.3 o.1)

  trees_held : (ts : Trees) → AreTreesClean ts → AreTreesOrdinary ts → AreTreesHeld ts
  trees_held no_trees h o = tt
  trees_held (tree t ts) h o = (held t h.0 o.0, trees_held ts h.1 o.1)

mutual
  passes : (t : Tree) → IsClean t → IsOrdinary t → text_fault t ≡ None
  passes (double bytes) h o = double_passes bytes (double_same bytes (float_in bytes) refl h o)
  passes (string t) h o = refl
  passes (document ps) h o = pairs_pass ps h o
  passes (array ts) h o = trees_pass 0 ts h o
  passes (binary subtype bytes) h o = refl
  passes undefined h o = refl
  passes (object_id id) h o = refl
  passes (boolean b) h o = refl
  passes (date_time n) h o = refl
  passes null h o = refl
  passes (regular_expression pattern options) h o = refl
  passes (db_pointer namespace id) h o = refl
  passes (javascript_code t) h o = refl
  passes (symbol t) h o = refl
  passes (javascript_code_with_scope code scope) h o = ap (fault_in (at_key (codes "$scope"))) (pairs_pass scope h.1 o)
  passes (int32 n) h o = refl
  passes (timestamp time increment) h o = refl
  passes (int64 n) h o = refl
  passes (decimal128 bytes) h o = decimal_passes bytes (decimal_reads_back bytes o)
  passes max_key h o = refl
  passes min_key h o = refl
  passes (raw k bytes) h o = absurd h

  pairs_pass : (ps : Pairs) → ArePairsClean ps → ArePairsOrdinary ps → pairs_text_fault ps ≡ None
  pairs_pass no_pairs h o = refl
  pairs_pass (pair key t ps) h o =
      ap (λ f. or_else (fault_in (at_key key) (or_else f (text_fault t))) (pairs_text_fault ps)) (plain_key key h.0.free.no_dollar)
      ∙ ap (λ f. or_else (fault_in (at_key key) f) (pairs_text_fault ps)) (passes t h.2 o.0)
      ∙ pairs_pass ps h.3 o.1

  trees_pass : (i : ℕ) (ts : Trees) → AreTreesClean ts → AreTreesOrdinary ts → trees_text_fault i ts ≡ None
  trees_pass i no_trees h o = refl
  trees_pass i (tree t ts) h o =
      ap (λ f. or_else (fault_in (at_index i) f) (trees_text_fault (suc i) ts)) (passes t h.0 o.0) ∙ trees_pass (suc i) ts h.1 o.1

pub sound_held : (ps : Pairs) → IsSound (document ps) → ArePairsOrdinary ps → ArePairsHeld ps
sound_held ps s o = pairs_held ps s.clean o

pub sound_passes : (ps : Pairs) → IsSound (document ps) → ArePairsOrdinary ps → document_text_fault ps ≡ None
sound_passes ps s o =
    ap (λ f. or_else f (levels_fault (leb (depth (document ps)) 200))) (pairs_pass ps s.clean o)
    ∙ ap levels_fault (le-leb (depth (document ps)) 200 s.nests)
