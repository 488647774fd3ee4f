-- The indexes of names.
use Rattle.std.proofs.Common.{◌≡◌, ℕ, zero, suc, ◌+◌, ◌-◌, ◌<◌, ◌≤◌, List, [], ◌∷◌, ◌++◌, length, get_or, take, map, Bool, true, false, cond, Option, Some, None, refl, ap, sym, subst, ◌∙◌, string_bytes, arith, MatchOption}
use Rattle.std.specs.Prelude.{◌||◌}
use Rattle.std.specs.BTreeMap.{BTreeMap, UpdatesBy, get_by_text}
use Rattle.std.specs.Cmp.Lexicographic.{slice_cmp}
use Rattle.std.specs.List.{list_any, AllByRecursion, IsDistinct}
use Rattle.std.specs.Ordering.{nat_cmp}
use Rattle.std.specs.Str.{bytes_eq}
use Rattle.std.specs.String.{string_cmp}
use Rattle.std.proofs.lemmas.List.{take_more, map-append, length-map, length-take, take_all}
use Rattle.std.proofs.lemmas.Map.Text.{btree_map_updates_text}
use Rattle.std.proofs.lemmas.Slice.Eq.{bytes_eq-Decides}
use Rattle.bson_kinds.specs.Places.{further_or_first, place_among}
use Rattle.bson_base.specs.BsonView.{Key}
use Rattle.bson_kinds.specs.Text.{Utf8}
use Rattle.bson_infer_run.specs.NamesView.{FindsAll, IsIndexed}
use Rattle.bson_infer_run.specs.SummaryView.{IsAt}
use Rattle.bson_infer_run.proofs.Places.{at_distinct}
use Rattle.bson_laws.proofs.Fitted.{unlike_swap}

-- the texts of names
abbrev pub texts_of : List Key → List Utf8
texts_of ks = map string_bytes ks

-- ---- one name more

further_again : (b : Bool) (n : ℕ) (o first : Option ℕ) → further_or_first (cond b (Some n) o) first ≡ cond b (Some (suc n)) (further_or_first o first)
further_again true n o first = refl
further_again false n o first = refl

-- a name behind all others
pub place_behind : (names : List Utf8) (new name : Utf8) → place_among (names ++ new ∷ []) name ≡ cond (bytes_eq new name) (Some (length names)) (place_among names name)
place_behind [] new name = refl
place_behind (n ∷ names) new name =
    ap (λ o. further_or_first o (cond (bytes_eq n name) (Some 0) None)) (place_behind names new name) ∙ further_again (bytes_eq new name) (length names) (place_among names name) (cond (bytes_eq n name) (Some 0) None)

-- where an index was put into the B-tree at a name, each other name has the index that it had
pub tree_updates : (new : Key) (m n : BTreeMap Key ℕ) (w : Option ℕ) → UpdatesBy string_cmp (λ k. slice_cmp nat_cmp (string_bytes new) (string_bytes k)) m n w
    → (name : Utf8) → get_by_text n name ≡ cond (bytes_eq (string_bytes new) name) w (get_by_text m name)
tree_updates new m n w h name = btree_map_updates_text (string_bytes new) m n w h name

-- the index of all names and one more
pub finds_more : (m n : BTreeMap Key ℕ) (names : List Utf8) (new : Utf8) (place : ℕ) → FindsAll m names → place ≡ length names → ((name : Utf8) → get_by_text n name ≡ cond (bytes_eq new name) (Some place) (get_by_text m name))
    → FindsAll n (names ++ new ∷ [])
finds_more m n names new place h e u name =
    u name ∙ (λ i. cond (bytes_eq new name) (Some (e i)) (h name i)) ∙ sym (place_behind names new name)

-- one more of the names that a loop has gone over
pub texts_more : (ks : List Key) (i : ℕ) (k : Key) → i < length ks → k ≡ get_or ks i k → texts_of (take (i + 1) ks) ≡ texts_of (take i ks) ++ string_bytes k ∷ []
texts_more ks i k lt is = ap texts_of (take_more ks i k lt) ∙ map-append string_bytes (take i ks) (get_or ks i k ∷ []) ∙ ap (λ (x : Key). texts_of (take i ks) ++ string_bytes x ∷ []) (sym is)

pub texts_long : (ks : List Key) (i : ℕ) → i < length ks → i ≡ length (texts_of (take i ks))
texts_long ks i lt = omega (arith, length-map (take i ks) string_bytes, length-take i ks)

-- ---- a scan from the last name

module _ (ks : List Key) (place : ℕ) (k : Key) (name : Utf8) (some : 0 < place) (within : place ≤ length ks) (is : k ≡ get_or ks (place - 1) k) where
  scan_more : place_among (texts_of (take place ks)) name ≡ cond (bytes_eq (string_bytes k) name) (Some (place - 1)) (place_among (texts_of (take (place - 1) ks)) name)
  scan_more =
      let back : place ≡ (place - 1) + 1 = omega arith in
      ap (λ n. place_among (texts_of (take n ks)) name) back
      ∙ ap (λ ns. place_among ns name) (texts_more ks (place - 1) k (omega arith) is)
      ∙ place_behind (texts_of (take (place - 1) ks)) (string_bytes k) name
      ∙ ap (λ n. cond (bytes_eq (string_bytes k) name) (Some n) (place_among (texts_of (take (place - 1) ks)) name)) (sym (texts_long ks (place - 1) (omega arith)))

  pub scan_found : bytes_eq (string_bytes k) name ≡ true → place_among (texts_of (take place ks)) name ≡ Some (place - 1)
  scan_found e = scan_more ∙ ap (λ b. cond b (Some (place - 1)) (place_among (texts_of (take (place - 1) ks)) name)) e

  pub scan_next : bytes_eq (string_bytes k) name ≡ false → place_among (texts_of (take place ks)) name ≡ place_among (texts_of (take (place - 1) ks)) name
  scan_next e = scan_more ∙ ap (λ b. cond b (Some (place - 1)) (place_among (texts_of (take (place - 1) ks)) name)) e

-- ---- different names

some_same : (i j : ℕ) → Some i ≡ Some j → i ≡ j
some_same i j e = cc

-- the name that has an index is at it
found_at : (names : List Utf8) (name : Utf8) (i : ℕ) → place_among names name ≡ Some i → (i < length names) × (name ≡ get_or names i name)
found_at [] name i e = absurd cc
found_at (n ∷ names) name i e = by (place_among names name) (λ j is. found_at names name j is) (bytes_eq n name) refl e
  where
    by : (o : Option ℕ) → ((j : ℕ) → o ≡ Some j → (j < length names) × (name ≡ get_or names j name)) → (b : Bool) → bytes_eq n name ≡ b → further_or_first o (cond b (Some 0) None) ≡ Some i
        → (i < length (n ∷ names)) × (name ≡ get_or (n ∷ names) i name)
    by (Some j) later b test h =
        let r = later j refl in
        subst (λ k. (k < length (n ∷ names)) × (name ≡ get_or (n ∷ names) k name)) (some_same (suc j) i h) (omega (arith, r.0), r.1)
    by None later true test h =
        subst (λ k. (k < length (n ∷ names)) × (name ≡ get_or (n ∷ names) k name)) (some_same 0 i h) (omega arith, sym ((bytes_eq-Decides n name).0 test))
    by None later false test h = absurd cc

-- a name without an index is none of them
none_found : (names : List Utf8) (name : Utf8) → place_among names name ≡ None → list_any (bytes_eq name) names ≡ false
none_found [] name e = refl
none_found (n ∷ names) name e = by (place_among names name) (none_found names name) (bytes_eq n name) refl e
  where
    by : (o : Option ℕ) → (o ≡ None → list_any (bytes_eq name) names ≡ false) → (b : Bool) → bytes_eq n name ≡ b → further_or_first o (cond b (Some 0) None) ≡ None → (bytes_eq name n || list_any (bytes_eq name) names) ≡ false
    by (Some j) later b test h = absurd cc
    by None later true test h = absurd cc
    by None later false test h = ap (λ c. c || list_any (bytes_eq name) names) (unlike_swap n name test) ∙ later refl

pub found : (names : List Utf8) (name : Utf8) (o : Option ℕ) → IsDistinct bytes_eq names → o ≡ place_among names name → MatchOption o (list_any (bytes_eq name) names ≡ false) (IsAt names name)
found names name None d e = none_found names name (sym e)
found names name (Some i) d e = let r = found_at names name i (sym e) in at_distinct name names i name d r.0 r.1 refl

-- ---- a new name

neither : (b c : Bool) → (b || c) ≡ false → (b ≡ false) × (c ≡ false)
neither true c e = absurd cc
neither false c e = (refl, e)

all_more : (P : Utf8 → Type 0) (names : List Utf8) (new : Utf8) → AllByRecursion P names → P new → AllByRecursion P (names ++ new ∷ [])
all_more P [] new h last = (last, tt)
all_more P (n ∷ names) new h last = (h.0, all_more P names new h.1 last)

pub distinct_none : IsDistinct bytes_eq []
unfolding IsDistinct
distinct_none = tt

pub distinct_more : (names : List Utf8) (new : Utf8) → list_any (bytes_eq new) names ≡ false → IsDistinct bytes_eq names → IsDistinct bytes_eq (names ++ new ∷ [])
unfolding IsDistinct
distinct_more [] new e d = (tt, tt)
distinct_more (n ∷ names) new e d =
    let parts = neither (bytes_eq new n) (list_any (bytes_eq new) names) e in
    (all_more (λ y. bytes_eq n y ≡ false) names new d.0 (unlike_swap new n parts.0), distinct_more names new parts.1 d.1)

pub indexed_none : (places : BTreeMap Key ℕ) → IsIndexed [] places
indexed_none places = record { distinct = distinct_none; finds = λ h. absurd (omega (arith, h)) }

pub indexed_more : (names : List Utf8) (new : Utf8) (m n : BTreeMap Key ℕ) → IsIndexed names m → list_any (bytes_eq new) names ≡ false → (16 < length names + 1 → FindsAll n (names ++ new ∷ [])) → (ks : List Utf8) → ks ≡ names ++ new ∷ []
    → length ks ≡ length names + 1 → IsIndexed ks n
indexed_more names new m n h e f ks is long =
    record { distinct = subst (IsDistinct bytes_eq) (sym is) (distinct_more names new e h.distinct); finds = λ l. subst (FindsAll n) (sym is) (f (omega (arith, l, long))) }

-- the name at an index of texts
pub text_at : (ks : List Key) (i : ℕ) (k : Key) (d : Utf8) → i < length ks → k ≡ get_or ks i k → string_bytes k ≡ get_or (texts_of ks) i d
text_at [] i k d lt is = absurd (omega (arith, lt))
text_at (x ∷ ks) zero k d lt is = ap string_bytes is
text_at (x ∷ ks) (suc i) k d lt is = text_at ks i k d (omega (arith, lt)) is
