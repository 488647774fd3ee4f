-- The values whose text is read as them again, part by part: what is in memory, and has no fault.
use Rattle.std.proofs.Common.{◌≡◌, ◌<◌, ◌^◌, ℕ, suc, true, Option, Some, None, refl, sym, ap, inl, inr, FitsSigned, w32, w64, true≢false}
use Rattle.std.specs.Prelude.{codes}
use Rattle.std.specs.Str.{bytes_eq}
use Rattle.std.proofs.lemmas.Bool.{cases_Bool}
use Rattle.std.proofs.lemmas.Slice.Eq.{bytes_eq-Decides}
use Rattle.bson_decimals.specs.Decimals.{decimal_text}
use Rattle.bson_decimals.specs.Law.{ReadsBack}
use Rattle.bson_decimals.specs.Reading.{decimal_of_text}
use Rattle.bson_kinds.specs.Outcome.{or_else}
use Rattle.bson_kinds.specs.Text.{Bytes, AreBytes, Utf8}
use Rattle.bson_base.specs.Sorted.{sorted}
use Rattle.bson_base.specs.Sound.{HasBytes, Lacks}
use Rattle.bson_base.specs.Tree.{Tree, double, string, document, array, binary, undefined, object_id, boolean, date_time, null, regular_expression, db_pointer, javascript_code, symbol, javascript_code_with_scope, int32, timestamp, int64, decimal128, max_key, min_key, raw, Pairs, no_pairs, pair, Trees, no_trees, tree}
use Rattle.bson_values.specs.Refusal.{Refusal, Segment, at_key, at_index}
use Rattle.bson_values.specs.declared.wrapper.Wrapper.{Wrapper}
use Rattle.bson_json_laws.specs.Doubles.{float_in, double_bytes}
use Rattle.bson_json_laws.specs.Held.{IsHeld, ArePairsHeld, AreTreesHeld}
use Rattle.bson_json_laws.specs.TextFault.{key_fault, double_fault, are_these, decimal_fault, fault_in, text_fault, pairs_text_fault, trees_text_fault}
use Rattle.bson_json_laws.specs.WrapperKeys.{wrapper_of}
use Rattle.bson_json_laws.specs.declared.text_fault.TextFault.{TextFault}

abbrev mutual
  pub IsTextual : Tree → Type 0
  IsTextual (double bytes) = double_bytes (float_in bytes) ≡ bytes
  IsTextual (string t) = Unit {0}
  IsTextual (document ps) = ArePairsTextual ps
  IsTextual (array ts) = AreTreesTextual ts
  IsTextual (binary subtype bytes) = (subtype < 256) × AreBytes bytes
  IsTextual undefined = Unit {0}
  IsTextual (object_id id) = HasBytes 12 id
  IsTextual (boolean b) = Unit {0}
  IsTextual (date_time n) = FitsSigned w64 n
  IsTextual null = Unit {0}
  IsTextual (regular_expression pattern options) = sorted options ≡ options
  IsTextual (db_pointer namespace id) = HasBytes 12 id
  IsTextual (javascript_code t) = Unit {0}
  IsTextual (symbol t) = Unit {0}
  IsTextual (javascript_code_with_scope code scope) = ArePairsTextual scope
  IsTextual (int32 n) = FitsSigned w32 n
  IsTextual (timestamp time increment) = (time < 2 ^ 32) × (increment < 2 ^ 32)
  IsTextual (int64 n) = FitsSigned w64 n
  IsTextual (decimal128 bytes) = ReadsBack bytes
  IsTextual max_key = Unit {0}
  IsTextual min_key = Unit {0}
  IsTextual (raw k bytes) = Unit {0}

  pub ArePairsTextual : Pairs → Type 0
  ArePairsTextual no_pairs = Unit {0}
  ArePairsTextual (pair key t ps) = (wrapper_of key ≡ None) × Lacks key ps × IsTextual t × ArePairsTextual ps

  pub AreTreesTextual : Trees → Type 0
  AreTreesTextual no_trees = Unit {0}
  AreTreesTextual (tree t ts) = IsTextual t × AreTreesTextual ts

-- ---- where there is no fault

pub neither : {A : Type 0} (a b : Option A) → or_else a b ≡ None → (a ≡ None) × (b ≡ None)
neither None b e = (refl, e)
neither (Some x) b e = cc

none_in : (s : Segment) (fault : Option (Refusal TextFault)) → fault_in s fault ≡ None → fault ≡ None
none_in s None e = refl
none_in s (Some r) e = cc

no_wrapper_key : (key : Utf8) (o : Option Wrapper) → wrapper_of key ≡ o → key_fault key ≡ None → wrapper_of key ≡ None
no_wrapper_key key None o e = o
no_wrapper_key key (Some w) o e = cc (rw o at e)

double_same : (bytes : Bytes) → double_fault bytes ≡ None → double_bytes (float_in bytes) ≡ bytes
double_same bytes e =
    elim (cases_Bool (bytes_eq (double_bytes (float_in bytes)) bytes)) [
      | inl same ↦ (bytes_eq-Decides (double_bytes (float_in bytes)) bytes).0 same
      | inr other ↦ cc (rw other at e)
    ]

pub these_are : (bytes : Bytes) (o : Option Bytes) → are_these bytes o ≡ true → o ≡ Some bytes
these_are bytes None e = absurd (true≢false (sym e))
these_are bytes (Some others) e = ap Some ((bytes_eq-Decides others bytes).0 e)

decimal_same : (bytes : Bytes) → decimal_fault bytes ≡ None → ReadsBack bytes
decimal_same bytes e =
    elim (cases_Bool (are_these bytes (decimal_of_text (decimal_text bytes)))) [
      | inl same ↦ these_are bytes (decimal_of_text (decimal_text bytes)) same
      | inr other ↦ cc (rw other at e)
    ]

mutual
  pub textual : (t : Tree) → IsHeld t → text_fault t ≡ None → IsTextual t
  textual (double bytes) h e = double_same bytes e
  textual (string t) h e = tt
  textual (document ps) h e = pairs_textual ps h e
  textual (array ts) h e = trees_textual 0 ts h e
  textual (binary subtype bytes) h e = h
  textual undefined h e = tt
  textual (object_id id) h e = h
  textual (boolean b) h e = tt
  textual (date_time n) h e = h
  textual null h e = tt
  textual (regular_expression pattern options) h e = h
  textual (db_pointer namespace id) h e = h
  textual (javascript_code t) h e = tt
  textual (symbol t) h e = tt
  textual (javascript_code_with_scope code scope) h e = pairs_textual scope h (none_in (at_key (codes "$scope")) (pairs_text_fault scope) e)
  textual (int32 n) h e = h
  textual (timestamp time increment) h e = h
  textual (int64 n) h e = h
  textual (decimal128 bytes) h e = decimal_same bytes e
  textual max_key h e = tt
  textual min_key h e = tt
  textual (raw k bytes) h e = tt

  pub pairs_textual : (ps : Pairs) → ArePairsHeld ps → pairs_text_fault ps ≡ None → ArePairsTextual ps
  pairs_textual no_pairs h e = tt
  pairs_textual (pair key t ps) h e =
      let two = neither (fault_in (at_key key) (or_else (key_fault key) (text_fault t))) (pairs_text_fault ps) e in
      let one = neither (key_fault key) (text_fault t) (none_in (at_key key) (or_else (key_fault key) (text_fault t)) two.0) in
      (no_wrapper_key key (wrapper_of key) refl one.0, h.0, textual t h.1 one.1, pairs_textual ps h.2 two.1)

  trees_textual : (i : ℕ) (ts : Trees) → AreTreesHeld ts → trees_text_fault i ts ≡ None → AreTreesTextual ts
  trees_textual i no_trees h e = tt
  trees_textual i (tree t ts) h e =
      let two = neither (fault_in (at_index i) (text_fault t)) (trees_text_fault (suc i) ts) e in
      (textual t h.0 (none_in (at_index i) (text_fault t) two.0), trees_textual (suc i) ts h.1 two.1)
