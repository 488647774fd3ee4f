-- The places of texts among keys.
use Rattle.std.proofs.Common.{◌≡◌, Ordering, ℕ, suc, ◌+◌, ◌-◌, ◌<◌, ◌≤◌, List, [], ◌∷◌, ◌++◌, length, get_or, set, take, map, Bool, true, false, ◌&&◌, cond, Option, Some, None, refl, ap, sym, ◌∙◌, arith}
use Rattle.std.specs.Borrow.{Bor}
use Rattle.std.specs.BTreeMap.{BTreeMap, UpdatesBy}
use Rattle.std.specs.Cmp.{tied_then}
use Rattle.std.specs.Cmp.Lexicographic.{slice_cmp}
use Rattle.std.specs.Ordering.{is_eq, nat_cmp, ordering_then}
use Rattle.std.specs.Str.{bytes_eq}
use Rattle.std.proofs.Math.Bool.{and-false}
use Rattle.std.proofs.lemmas.Cmp.{nat_cmp_total, eq_by_cmp_equiv}
use Rattle.std.proofs.lemmas.Map.Text.{is_eq-slice_cmp}
use Rattle.std.proofs.lemmas.Slice.Eq.{bytes_eq-Decides}
use Rattle.std.proofs.lemmas.List.{take_more, take_more_set, map-append, length-map, length-take, take_all}
use Rattle.bson_kinds.specs.Places.{further_or_first, place_among}
use Rattle.bson_kinds.specs.Text.{Utf8}
use Rattle.bson_keys.specs.Places.{place_in_tree}
use Rattle.bson_keys.specs.Hashes.{second_hash_of}
use Rattle.bson_keys.specs.KeysView.{place_found}

-- a key compares equal to another in a B-tree where it is the same text
compared : (h : Ordering) (key text : Utf8) (b : Bool) → bytes_eq key text ≡ b → (key ≡ text → is_eq h ≡ true) → is_eq (ordering_then h (slice_cmp nat_cmp key text)) ≡ b
compared h key text true is same =
    sym (tied_then h (slice_cmp nat_cmp key text)) ∙ ap (λ c. c && is_eq (slice_cmp nat_cmp key text)) (same ((bytes_eq-Decides key text).0 is)) ∙ is_eq-slice_cmp key text ∙ is
compared h key text false other same = sym (tied_then h (slice_cmp nat_cmp key text)) ∙ ap (λ c. is_eq h && c) (is_eq-slice_cmp key text ∙ other) ∙ and-false (is_eq h)

equal_order : (h : ℕ) (key text : Utf8) → h ≡ second_hash_of key → key ≡ text → is_eq (nat_cmp h (second_hash_of text)) ≡ true
equal_order h key text is same = ap (λ t. is_eq (nat_cmp h (second_hash_of t))) (sym same) ∙ ap (λ n. is_eq (nat_cmp n (second_hash_of key))) is ∙ (eq_by_cmp_equiv nat_cmp_total).refl (second_hash_of key)

-- where a place was put into a B-tree at a key, each other text has the place that it had
pub tree_updates : (key : Bor Utf8) (h : ℕ) (m n : BTreeMap (ℕ × Bor Utf8) ℕ) (w : Option ℕ) → h ≡ second_hash_of key.now → UpdatesBy (λ x y. ordering_then (nat_cmp x.0 y.0) (slice_cmp nat_cmp x.1.now y.1.now)) (λ k. ordering_then (nat_cmp h k.0) (slice_cmp nat_cmp key.now k.1.now)) m n w
    → (text : Utf8) → place_in_tree n text ≡ cond (bytes_eq key.now text) w (place_in_tree m text)
tree_updates key h m n w is updates text =
    updates.0 (second_hash_of text, record { ref_ptr = key.ref_ptr; now = text })
    ∙ ap (λ b. cond b w (place_in_tree m text)) (compared (nat_cmp h (second_hash_of text)) key.now text (bytes_eq key.now text) refl (equal_order h key.now text is))

-- of a key that is put in twice the second place counts
pub put_again : (b : Bool) (place found : ℕ) (o : Option ℕ) → cond b (Some found) (cond b (Some place) o) ≡ cond b (Some found) o
put_again true place found o = refl
put_again false place found o = refl

-- the texts of keys
abbrev pub texts_of : List (Bor Utf8) → List Utf8
texts_of keys = map (λ k. k.now) keys

further_again : (b : Bool) (n : ℕ) (o first : Option ℕ) → further_or_first (cond b (Some n) o) first ≡ cond b (Some (suc n)) (further_or_first o first)
further_again true n o first = refl
further_again false n o first = refl

-- a key behind all others
pub place_behind : (keys : List Utf8) (key text : Utf8) → place_among (keys ++ key ∷ []) text ≡ cond (bytes_eq key text) (Some (length keys)) (place_among keys text)
place_behind [] key text = refl
place_behind (k ∷ keys) key text =
    ap (λ o. further_or_first o (cond (bytes_eq k text) (Some 0) None)) (place_behind keys key text) ∙ further_again (bytes_eq key text) (length keys) (place_among keys text) (cond (bytes_eq k text) (Some 0) None)

-- a key behind those so far
pub place_append : (done : List (Bor Utf8)) (key : Bor Utf8) (place : ℕ) (text : Utf8) → length done ≡ place → place_among (texts_of (done ++ key ∷ [])) text ≡ cond (bytes_eq key.now text) (Some place) (place_among (texts_of done) text)
place_append done key place text many =
    ap (λ ks. place_among ks text) (map-append (λ (k : Bor Utf8). k.now) done (key ∷ []))
    ∙ place_behind (texts_of done) key.now text
    ∙ ap (λ n. cond (bytes_eq key.now text) (Some n) (place_among (texts_of done) text)) (length-map done (λ k. k.now) ∙ many)

-- one more of the keys that a loop has gone over
pub place_more : (keys : List (Bor Utf8)) (i : ℕ) (key : Bor Utf8) (text : Utf8) → i < length keys → place_among (texts_of (take (i + 1) keys)) text ≡ cond (bytes_eq (get_or keys i key).now text) (Some i) (place_among (texts_of (take i keys)) text)
place_more keys i key text lt =
    ap (λ ks. place_among (texts_of ks) text) (take_more keys i key lt) ∙ place_append (take i keys) (get_or keys i key) i text (omega (arith, length-take i keys))

-- while there is no B-tree one more key goes behind the others
pub few_more : (m : Option (BTreeMap (ℕ × Bor Utf8) ℕ)) (first : List (Bor Utf8)) (count place : ℕ) (key : Bor Utf8) (text : Utf8) → m ≡ None → place ≡ count → count < length first
    → place_found m (texts_of (take (count + 1) (set first count key))) text ≡ cond (bytes_eq key.now text) (Some place) (place_found m (texts_of (take count first)) text)
few_more m first count place key text none next lt =
    ap (λ o. place_found o (texts_of (take (count + 1) (set first count key))) text) none
    ∙ ap (λ ks. place_among (texts_of ks) text) (take_more_set first count key lt)
    ∙ place_append (take count first) key place text (omega (arith, next, length-take count first))
    ∙ ap (λ o. cond (bytes_eq key.now text) (Some place) (place_found o (texts_of (take count first)) text)) (sym none)

-- where they fill all the room there is
pub few_all : (m : Option (BTreeMap (ℕ × Bor Utf8) ℕ)) (first : List (Bor Utf8)) (count : ℕ) (text : Utf8) → m ≡ None → length first ≤ count → place_among (texts_of first) text ≡ place_found m (texts_of (take count first)) text
few_all m first count text none all =
    ap (λ ks. place_among (texts_of ks) text) (sym (take_all count first all)) ∙ ap (λ o. place_found o (texts_of (take count first)) text) (sym none)

-- a scan from the last key comes to one more
module _ (keys : List (Bor Utf8)) (place : ℕ) (key : Bor Utf8) (text : Utf8) (some : 0 < place) (within : place ≤ length keys) where
  scan_more : place_among (texts_of (take place keys)) text ≡ cond (bytes_eq (get_or keys (place - 1) key).now text) (Some (place - 1)) (place_among (texts_of (take (place - 1) keys)) text)
  scan_more =
      let back : place ≡ (place - 1) + 1 = omega arith in
      ap (λ n. place_among (texts_of (take n keys)) text) back ∙ place_more keys (place - 1) key text (omega arith)

  pub scan_found : bytes_eq (get_or keys (place - 1) key).now text ≡ true → place_among (texts_of (take place keys)) text ≡ Some (place - 1)
  scan_found is = scan_more ∙ ap (λ b. cond b (Some (place - 1)) (place_among (texts_of (take (place - 1) keys)) text)) is

  pub scan_next : bytes_eq (get_or keys (place - 1) key).now text ≡ false → place_among (texts_of (take place keys)) text ≡ place_among (texts_of (take (place - 1) keys)) text
  scan_next other = scan_more ∙ ap (λ b. cond b (Some (place - 1)) (place_among (texts_of (take (place - 1) keys)) text)) other
