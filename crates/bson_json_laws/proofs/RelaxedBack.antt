-- What a value is written as in the relaxed form is read as it, but for the widths of integers.
use Rattle.std.proofs.Common.{◌≡◌, ℕ, suc, ◌<◌, length, List, [], ◌∷◌, ◌++◌, Bool, true, false, cond, None, Ok, ℤ, pos, negsuc, refl, ap, sym, subst, ◌∙◌, arith, FitsSigned, w32, w64, inl, inr, true≢false}
use Rattle.std.specs.Prelude.{nat_lt, option_map, ◌&&◌}
use Rattle.std.specs.List.{list_all}
use Rattle.std.specs.Char.{digit_value}
use Rattle.std.specs.Fmt.{sign_text}
use Rattle.std.specs.Float.{Float, nan, inf, fin, float_is_finite}
use Rattle.std.specs.Float.Numeral.{exponent_text}
use Rattle.std.specs.Str.Parse.{AllDigits, without_leading_sign, signed_digits_value}
use Rattle.std.proofs.lemmas.Bool.{ne_eqb}
use Rattle.ryu.specs.Plain.{IsPlainNumber}
use Rattle.json.specs.Json.{Json, Items, no_items, item, Members, no_members, member}
use Rattle.bson_kinds.specs.Outcome.{◌>>=◌, result_map}
use Rattle.bson_kinds.specs.Text.{Bytes, Utf8}
use Rattle.bson_dates.proofs.ReadBack.{text_back as date_text_back}
use Rattle.bson_dates.specs.DateText.{date_of_text}
use Rattle.bson_base.specs.Made.{number_text}
use Rattle.bson_base.specs.Parsed.{int64_of_numeral, integer_of_text}
use Rattle.bson_base.specs.Sound.{Lacks}
use Rattle.bson_base.specs.Tree.{Tree, double, string, document, array, binary, undefined, object_id, boolean, date_time, null, regular_expression, db_pointer, javascript_code, symbol, javascript_code_with_scope, int32, timestamp, int64, decimal128, max_key, min_key, raw, Pairs, no_pairs, pair, Trees, no_trees, tree, depth, pairs_depth, trees_depth}
use Rattle.bson_base.specs.Folded.{is_int32}
use Rattle.bson_base.proofs.WrittenTexts.{integer_read}
use Rattle.bson_json_laws.specs.Doubles.{float_in, double_bytes, IsFloatText}
use Rattle.bson_json_laws.specs.JsonOf.{IsRelaxedDouble, IsDate, IsJson, AreMembers, AreItems}
use Rattle.bson_json_laws.specs.Read.{read, read_items, read_members, settled, integer_tree, integer_or_double, number_tree}
use Rattle.bson_json_laws.specs.Unread.{Reading, or_refused, too_large, bad_wrapper}
use Rattle.bson_json_laws.specs.WrapperKeys.{first_wrapper}
use Rattle.bson_values.specs.Refusal.{under, under_index}
use Rattle.bson_values.specs.declared.wrapper.Wrapper.TheVariants.{Date}
use Rattle.bson_base.specs.Pairs.{put}
use Rattle.bson_json_laws.specs.Relaxed.{relaxed, relaxed_pairs, relaxed_trees}
use Rattle.bson_json_laws.proofs.Textual.{IsTextual, ArePairsTextual, AreTreesTextual}
use Rattle.bson_json_laws.specs.declared.form.JsonForm.TheVariants.{Relaxed}
use Rattle.bson_json_laws.proofs.DoubleTexts.{finite_read}
use Rattle.bson_json_laws.proofs.JoinedPairs.{joined, joined_nil, joined_more, AllLack, all_lack_none, all_lack_more, is_new, put_new}
use Rattle.bson_json_laws.proofs.ReadBack.{reads_back, double_back, date_back, in_int32, wider, settles, scoped_read}

-- ---- a plain number is no integer

abbrev digit : ℕ → Bool
digit c = nat_lt (digit_value c) 10

and_false : (b : Bool) → (b && false) ≡ false
and_false true = refl
and_false false = refl

tail_bad : (point : Bool) (f e : List ℕ) (n : Bool) → (point ≡ false → 0 < length e) → list_all digit (cond point (46 ∷ f) [] ++ exponent_text n e) ≡ false
tail_bad true f e n h = refl
tail_bad false f [] n h = absurd (omega (arith, h refl))
tail_bad false f (d ∷ ds) n h = refl

with_bad : (w t : List ℕ) → list_all digit t ≡ false → list_all digit (w ++ t) ≡ false
with_bad [] t h = h
with_bad (c ∷ w) t h = rw (with_bad w t h) (and_false (digit c))

unsigned_same : (w t : List ℕ) → AllDigits 10 w → 0 < length w → without_leading_sign (w ++ t) ≡ w ++ t
unsigned_same [] t h k = absurd (omega arith)
unsigned_same (d ∷ w) t h k =
    rw (ne_eqb d 45 (λ e. omega (arith, subst (λ c. digit_value c < 10) e h.0)), ne_eqb d 43 (λ e. omega (arith, subst (λ c. digit_value c < 10) e h.0))) refl

without : (negative : Bool) (w t : List ℕ) → AllDigits 10 w → 0 < length w → without_leading_sign (sign_text negative ++ (w ++ t)) ≡ w ++ t
without true w t h k = refl
without false w t h k = unsigned_same w t h k

no_integer : (ds : List ℕ) (z : ℤ) → list_all digit ds ≡ false → int64_of_numeral ds z ≡ None
no_integer ds z e = rw (e, and_false (nat_lt 0 (length ds))) refl

pub not_integer : (s : Utf8) → IsPlainNumber s → integer_of_text s ≡ None
unfolding integer_of_text
not_integer s h =
    let p = h.1 in
    let tail = cond p.point (46 ∷ p.fraction) [] ++ exponent_text p.exponent_negative p.exponent in
    let bare : without_leading_sign s ≡ p.whole ++ tail = ap without_leading_sign h.2 ∙ without h.0 p.whole tail h.3.well_formed.whole_digits h.3.whole in
    no_integer (without_leading_sign s) (signed_digits_value 10 s) (ap (list_all digit) bare ∙ with_bad p.whole tail (tail_bad p.point p.fraction p.exponent p.exponent_negative h.3.marked))

-- ---- the kinds that are written otherwise

number_back : (x : Float) (bytes : Bytes) (s : Utf8) → IsFloatText x s → float_is_finite x ≡ true → double_bytes x ≡ bytes → number_tree s ≡ Ok (double bytes)
unfolding float_is_finite
number_back nan bytes s h f e = absurd (true≢false (sym f))
number_back (inf b) bytes s h f e = absurd (true≢false (sym f))
number_back (fin n m t) bytes s h f e =
    ap (integer_or_double s) (not_integer s h.0) ∙ ap (λ o. or_refused too_large (option_map double o)) (finite_read s (fin n m t) h.1 refl) ∙ ap (λ b. Ok (double b)) e

relaxed_double_back : (b : Bool) (bytes : Bytes) (j : Json) → float_is_finite (float_in bytes) ≡ b → IsRelaxedDouble b bytes j → double_bytes (float_in bytes) ≡ bytes → read j ≡ Ok (double bytes)
relaxed_double_back true bytes j f w e = ap read w.1 ∙ number_back (float_in bytes) bytes w.0 w.2 f e
relaxed_double_back false bytes j f w e = ap read w.1 ∙ double_back bytes w.0 w.2 e

relaxed_date_back : (n : ℤ) (j : Json) → IsDate Relaxed n j → FitsSigned w64 n → read j ≡ Ok (date_time n)
relaxed_date_back (pos n) j (inl w) f =
    ap read w.1 ∙ ap (λ s. or_refused (bad_wrapper Date) (option_map date_time (date_of_text s))) w.2.is_text
    ∙ ap (λ o. or_refused (bad_wrapper Date) (option_map date_time o)) (date_text_back (pos n) w.2.year w.2.month w.2.day w.2.millis_of_day w.2.is_at)
relaxed_date_back (pos n) j (inr w) f = ap read w.1 ∙ date_back (pos n) f
relaxed_date_back (negsuc n) j w f = ap read w ∙ date_back (negsuc n) f

number_is : (n : ℤ) → FitsSigned w64 n → number_tree (number_text n) ≡ Ok (integer_tree n)
number_is n f = ap (integer_or_double (number_text n)) (integer_read n f)

small_is : (n : ℤ) → FitsSigned w32 n → integer_tree n ≡ int32 n
small_is n f = ap (λ b. cond b (int32 n) (int64 n)) (in_int32 n f)

-- ---- the pairs keep their keys

relaxed_plain : (ps : Pairs) → ArePairsTextual ps → first_wrapper (relaxed_pairs ps) ≡ None
relaxed_plain no_pairs h = refl
relaxed_plain (pair k t ps) h = rw (h.0, relaxed_plain ps h.3) refl

relaxed_lacks : (k : Utf8) (ps : Pairs) → Lacks k ps → Lacks k (relaxed_pairs ps)
relaxed_lacks k no_pairs h = tt
relaxed_lacks k (pair l u ps) h = (h.0, relaxed_lacks k ps h.1)

mutual
  pub relaxed_back : (t : Tree) (j : Json) → IsTextual t → IsJson Relaxed t j → read j ≡ Ok (relaxed t)
  relaxed_back (double bytes) j h w = relaxed_double_back (float_is_finite (float_in bytes)) bytes j refl w h
  relaxed_back (string t) j h w = ap read w
  relaxed_back (document ps) j h w =
      ap read w.1 ∙ ap (λ (r : Reading Pairs). r >>= settled) (relaxed_members ps w.0 no_pairs h w.2 (all_lack_none (relaxed_pairs ps))) ∙ settles (relaxed_pairs ps) (relaxed_plain ps h)
  relaxed_back (array ts) j h w = ap read w.1 ∙ ap (result_map array) (relaxed_items 0 ts w.0 h w.2)
  relaxed_back (binary subtype bytes) j h w = reads_back (binary subtype bytes) j h w
  relaxed_back undefined j h w = ap read w
  relaxed_back (object_id id) j h w = reads_back (object_id id) j h w
  relaxed_back (boolean b) j h w = ap read w
  relaxed_back (date_time n) j h w = relaxed_date_back n j w h
  relaxed_back null j h w = ap read w
  relaxed_back (regular_expression pattern options) j h w = reads_back (regular_expression pattern options) j h w
  relaxed_back (db_pointer namespace id) j h w = reads_back (db_pointer namespace id) j h w
  relaxed_back (javascript_code t) j h w = ap read w
  relaxed_back (symbol t) j h w = ap read w
  relaxed_back (javascript_code_with_scope code scope) j h w =
      ap read w.1 ∙ scoped_read code (relaxed_pairs scope) w.0 (relaxed_members scope w.0 no_pairs h w.2 (all_lack_none (relaxed_pairs scope))) (relaxed_plain scope h)
  relaxed_back (int32 n) j h w = ap read w ∙ number_is n (wider n h) ∙ ap Ok (small_is n h)
  relaxed_back (timestamp time increment) j h w = reads_back (timestamp time increment) j h w
  relaxed_back (int64 n) j h w = ap read w ∙ number_is n h
  relaxed_back (decimal128 bytes) j h w = reads_back (decimal128 bytes) j h w
  relaxed_back max_key j h w = reads_back max_key j h w
  relaxed_back min_key j h w = reads_back min_key j h w
  relaxed_back (raw k bytes) j h w = absurd w

  relaxed_members : (ps : Pairs) (ms : Members) (done : Pairs) → ArePairsTextual ps → AreMembers Relaxed ps ms → AllLack (relaxed_pairs ps) done → read_members ms done ≡ Ok (joined done (relaxed_pairs ps))
  relaxed_members no_pairs no_members done h w new = ap Ok (sym (joined_nil done))
  relaxed_members no_pairs (member k j ms) done h w new = absurd w
  relaxed_members (pair key t ps) no_members done h w new = absurd w
  relaxed_members (pair key t ps) (member k j ms) done h w new =
      let u = relaxed t in
      let more = joined done (pair key u no_pairs) in
      ap (λ n. read_members (member n j ms) done) w.0
      ∙ ap (λ (r : Reading Pairs). r >>= λ ds. under key (read j) >>= λ v. read_members ms (put key v ds)) (is_new key done new.0)
      ∙ ap (λ (r : Reading Tree). under key r >>= λ v. read_members ms (put key v done)) (relaxed_back t j h.2 w.1)
      ∙ ap (read_members ms) (put_new key u done new.0)
      ∙ relaxed_members ps ms more h.3 w.2 (all_lack_more (relaxed_pairs ps) key u done new.1 (relaxed_lacks key ps h.1))
      ∙ ap Ok (joined_more done key u (relaxed_pairs ps))

  relaxed_items : (i : ℕ) (ts : Trees) (js : Items) → AreTreesTextual ts → AreItems Relaxed ts js → read_items i js ≡ Ok (relaxed_trees ts)
  relaxed_items i no_trees no_items h w = refl
  relaxed_items i no_trees (item j js) h w = absurd w
  relaxed_items i (tree t ts) no_items h w = absurd w
  relaxed_items i (tree t ts) (item j js) h w =
      ap (λ (r : Reading Tree). under_index i r >>= λ u. result_map (tree u) (read_items (suc i) js)) (relaxed_back t j h.0 w.0) ∙ ap (result_map (tree (relaxed t))) (relaxed_items (suc i) ts js h.1 w.1)

-- ---- it nests as deep

integer_depth : (n : ℤ) (b : Bool) → depth (cond b (int32 n) (int64 n)) ≡ 0
integer_depth n true = refl
integer_depth n false = refl

mutual
  same_depth : (t : Tree) → depth (relaxed t) ≡ depth t
  same_depth (double bytes) = refl
  same_depth (string t) = refl
  same_depth (document ps) = ap suc (same_pairs_depth ps)
  same_depth (array ts) = ap suc (same_trees_depth ts)
  same_depth (binary subtype bytes) = refl
  same_depth undefined = refl
  same_depth (object_id id) = refl
  same_depth (boolean b) = refl
  same_depth (date_time n) = refl
  same_depth null = refl
  same_depth (regular_expression pattern options) = refl
  same_depth (db_pointer namespace id) = refl
  same_depth (javascript_code t) = refl
  same_depth (symbol t) = refl
  same_depth (javascript_code_with_scope code scope) = ap suc (same_pairs_depth scope)
  same_depth (int32 n) = refl
  same_depth (timestamp time increment) = refl
  same_depth (int64 n) = integer_depth n (is_int32 n)
  same_depth (decimal128 bytes) = refl
  same_depth max_key = refl
  same_depth min_key = refl
  same_depth (raw k bytes) = refl

  pub same_pairs_depth : (ps : Pairs) → pairs_depth (relaxed_pairs ps) ≡ pairs_depth ps
  same_pairs_depth no_pairs = refl
  same_pairs_depth (pair key t ps) = rw (same_depth t, same_pairs_depth ps) refl

  same_trees_depth : (ts : Trees) → trees_depth (relaxed_trees ts) ≡ trees_depth ts
  same_trees_depth no_trees = refl
  same_trees_depth (tree t ts) = rw (same_depth t, same_trees_depth ts) refl
