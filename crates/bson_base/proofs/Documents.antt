-- The pairs of a document, as a list of pairs.
use Rattle.std.proofs.Common.{◌≡◌, ℕ, zero, suc, ◌+◌, ◌<◌, List, [], ◌∷◌, ◌++◌, length, get_or, take, Bool, true, false, ◌||◌, Some, None, refl, ap, sym, subst, ◌∙◌, string_bytes, arith}
use Rattle.std.specs.Prelude.{if◌then◌else◌, slice_get, slice_set, remove}
use Rattle.std.specs.Option.{option_map}
use Rattle.std.specs.List.{list_any, position, IsDistinct, AllByRecursion}
use Rattle.std.specs.Str.{bytes_eq}
use Rattle.std.proofs.lemmas.List.{take_more, take-map, get_or-map}
use Rattle.std.proofs.lemmas.List.Quantifiers.{position-Some}
use Rattle.std.proofs.lemmas.Option.{get_or_from_slice_get}
use Rattle.std.proofs.lemmas.Slice.Eq.{bytes_eq-Decides}
use Rattle.bson_key_map.proofs.Texts.{length-texts, new_at, text_at, text_in}
use Rattle.bson_kinds.specs.Text.{Utf8}
use Rattle.bson_key_map.specs.Keys.{key_texts, pair_with}
use Rattle.bson_key_map.specs.declared.pair.Pair.{Pair}
use Rattle.bson_base.specs.Tree.{Tree, Trees, no_trees, tree, Pairs, no_pairs, pair}
use Rattle.bson_base.specs.BsonView.{tree_of, trees_of, listed_pairs}
use Rattle.bson_base.specs.Sound.{Lacks}
use Rattle.bson_base.specs.Pairs.{lookup, put, without, count, keys_of, AreDistinct}
use Rattle.bson_base.specs.declared.bson.Bson.{Bson}

pub count-pairs : (ps : List (Pair Bson)) → count (listed_pairs ps) ≡ length ps
count-pairs [] = refl
count-pairs (p ∷ ps) = ap suc (count-pairs ps)

pub keys-pairs : (ps : List (Pair Bson)) → key_texts ps ≡ keys_of (listed_pairs ps)
keys-pairs [] = refl
keys-pairs (p ∷ ps) = ap (λ ts. string_bytes p.key ∷ ts) (keys-pairs ps)

lacks : (key : Utf8) (ps : List (Pair Bson)) → AllByRecursion (λ t. bytes_eq key t ≡ false) (key_texts ps) → Lacks key (listed_pairs ps)
lacks key [] h = tt
lacks key (p ∷ ps) h = (h.0, lacks key ps h.1)

-- distinct keys make distinct pairs
pub distinct-pairs : (ps : List (Pair Bson)) → IsDistinct bytes_eq (key_texts ps) → AreDistinct (listed_pairs ps)
unfolding IsDistinct
distinct-pairs [] h = tt
distinct-pairs (p ∷ ps) h = (lacks (string_bytes p.key) ps h.0, distinct-pairs ps h.1)

-- a pair within the list
pub there : (ps : List (Pair Bson)) (i : ℕ) → i < length ps → (p : Pair Bson) × (slice_get ps i ≡ Some p)
there [] i lt = absurd (omega arith)
there (p ∷ ps) zero lt = (p, refl)
there (p ∷ ps) (suc i) lt = there ps i (omega arith)

-- the key is first at i
abbrev IsFirst : Utf8 → List (Pair Bson) → ℕ → Utf8 → Type 0
IsFirst key ps i d = (i < length (key_texts ps)) × (bytes_eq key (get_or (key_texts ps) i d) ≡ true) × ((k : ℕ) → k < i → bytes_eq key (get_or (key_texts ps) k d) ≡ false)

later : (key : Utf8) (p : Pair Bson) (ps : List (Pair Bson)) (i : ℕ) (d : Utf8) → IsFirst key (p ∷ ps) (suc i) d → IsFirst key ps i d
later key p ps i d h = (omega (arith, h.0), h.1, λ j lt. h.2 (suc j) (omega arith))

-- the value at the first place of a key is what is looked up
lookup_first : (key : Utf8) (ps : List (Pair Bson)) (i : ℕ) (d : Utf8) → IsFirst key ps i d → option_map (λ p. tree_of p.value) (slice_get ps i) ≡ lookup key (listed_pairs ps)
lookup_first key [] i d h = absurd (omega (arith, h.0))
lookup_first key (p ∷ ps) zero d h = ap (λ b. if b then Some (tree_of p.value) else lookup key (listed_pairs ps)) (sym h.1)
lookup_first key (p ∷ ps) (suc i) d h = lookup_first key ps i d (later key p ps i d h) ∙ ap (λ b. if b then Some (tree_of p.value) else lookup key (listed_pairs ps)) (sym (h.2 0 (omega arith)))

-- a value set there is put at the key
put_first : (key : Utf8) (ps : List (Pair Bson)) (q : Pair Bson) (v : Bson) (i : ℕ) (d : Utf8) → slice_get ps i ≡ Some q → IsFirst key ps i d
    → listed_pairs (slice_set ps i (pair_with v q)) ≡ put key (tree_of v) (listed_pairs ps)
put_first key [] q v i d is h = absurd (omega (arith, h.0))
put_first key (p ∷ ps) q v zero d is h =
    ap (λ o. pair (text_in o) (tree_of v) (listed_pairs ps)) (sym is)
    ∙ ap (λ b. if b then pair (string_bytes p.key) (tree_of v) (listed_pairs ps) else pair (string_bytes p.key) (tree_of p.value) (put key (tree_of v) (listed_pairs ps))) (sym h.1)
put_first key (p ∷ ps) q v (suc i) d is h =
    ap (pair (string_bytes p.key) (tree_of p.value)) (put_first key ps q v i d is (later key p ps i d h))
    ∙ ap (λ b. if b then pair (string_bytes p.key) (tree_of v) (listed_pairs ps) else pair (string_bytes p.key) (tree_of p.value) (put key (tree_of v) (listed_pairs ps))) (sym (h.2 0 (omega arith)))

-- a pair removed there
without_first : (key : Utf8) (ps : List (Pair Bson)) (i : ℕ) (d : Utf8) → IsFirst key ps i d → listed_pairs (remove ps i) ≡ without key (listed_pairs ps)
without_first key [] i d h = absurd (omega (arith, h.0))
without_first key (p ∷ ps) zero d h = ap (λ b. if b then listed_pairs ps else pair (string_bytes p.key) (tree_of p.value) (without key (listed_pairs ps))) (sym h.1)
without_first key (p ∷ ps) (suc i) d h =
    ap (pair (string_bytes p.key) (tree_of p.value)) (without_first key ps i d (later key p ps i d h))
    ∙ ap (λ b. if b then listed_pairs ps else pair (string_bytes p.key) (tree_of p.value) (without key (listed_pairs ps))) (sym (h.2 0 (omega arith)))

-- the same where `position` finds it
first : (key : Utf8) (ps : List (Pair Bson)) (i : ℕ) → Some i ≡ position (bytes_eq key) (key_texts ps) → IsFirst key ps i key
first key ps i h = position-Some (bytes_eq key) (key_texts ps) i key (sym h)

pub lookup_position : (key : Utf8) (ps : List (Pair Bson)) (i : ℕ) → Some i ≡ position (bytes_eq key) (key_texts ps) → option_map (λ p. tree_of p.value) (slice_get ps i) ≡ lookup key (listed_pairs ps)
lookup_position key ps i h = lookup_first key ps i key (first key ps i h)

pub put_position : (key : Utf8) (ps : List (Pair Bson)) (q : Pair Bson) (v : Bson) (i : ℕ) → slice_get ps i ≡ Some q → Some i ≡ position (bytes_eq key) (key_texts ps)
    → listed_pairs (slice_set ps i (pair_with v q)) ≡ put key (tree_of v) (listed_pairs ps)
put_position key ps q v i is h = put_first key ps q v i key is (first key ps i h)

pub without_position : (key : Utf8) (ps : List (Pair Bson)) (i : ℕ) → Some i ≡ position (bytes_eq key) (key_texts ps) → listed_pairs (remove ps i) ≡ without key (listed_pairs ps)
without_position key ps i h = without_first key ps i key (first key ps i h)

-- the key there is the text that is looked for
pub key_position : (key : Utf8) (ps : List (Pair Bson)) (i : ℕ) (p : Pair Bson) → Some i ≡ position (bytes_eq key) (key_texts ps) → slice_get ps i ≡ Some p → string_bytes p.key ≡ key
key_position key ps i p e is =
    let h = first key ps i e in
    let within : i < length ps = subst (λ n. i < n) (length-texts ps) h.0 in
    let at : get_or (key_texts ps) i key ≡ string_bytes p.key = get_or-map (λ p. string_bytes p.key) ps i p key within ∙ ap (λ q. string_bytes q.key) (get_or_from_slice_get ps i p p is) in
    sym ((bytes_eq-Decides key (string_bytes p.key)).0 (ap (bytes_eq key) (sym at) ∙ h.1))

neither : (b c : Bool) → false ≡ (b || c) → (b ≡ false) × (c ≡ false)
neither true c e = absurd cc
neither false c e = (refl, sym e)

-- of a key that is not there nothing is found
pub lookup_new : (key : Utf8) (ps : List (Pair Bson)) → false ≡ list_any (bytes_eq key) (key_texts ps) → None ≡ lookup key (listed_pairs ps)
lookup_new key [] h = refl
lookup_new key (p ∷ ps) h =
    let n = neither (bytes_eq key (string_bytes p.key)) (list_any (bytes_eq key) (key_texts ps)) h in
    lookup_new key ps (sym n.1) ∙ ap (λ b. if b then Some (tree_of p.value) else lookup key (listed_pairs ps)) (sym n.0)

-- and nothing is removed
pub without_new : (key : Utf8) (ps : List (Pair Bson)) → false ≡ list_any (bytes_eq key) (key_texts ps) → listed_pairs ps ≡ without key (listed_pairs ps)
without_new key [] h = refl
without_new key (p ∷ ps) h =
    let n = neither (bytes_eq key (string_bytes p.key)) (list_any (bytes_eq key) (key_texts ps)) h in
    ap (pair (string_bytes p.key) (tree_of p.value)) (without_new key ps (sym n.1))
    ∙ ap (λ b. if b then listed_pairs ps else pair (string_bytes p.key) (tree_of p.value) (without key (listed_pairs ps))) (sym n.0)

-- and a pair of it goes last
pub put_new : (ps : List (Pair Bson)) (q : Pair Bson) → false ≡ list_any (bytes_eq (string_bytes q.key)) (key_texts ps) → listed_pairs (ps ++ q ∷ []) ≡ put (string_bytes q.key) (tree_of q.value) (listed_pairs ps)
put_new [] q h = refl
put_new (p ∷ ps) q h =
    let key = string_bytes q.key in
    let n = neither (bytes_eq key (string_bytes p.key)) (list_any (bytes_eq key) (key_texts ps)) h in
    ap (pair (string_bytes p.key) (tree_of p.value)) (put_new ps q (sym n.1))
    ∙ ap (λ b. if b then pair (string_bytes p.key) (tree_of q.value) (listed_pairs ps) else pair (string_bytes p.key) (tree_of p.value) (put key (tree_of q.value) (listed_pairs ps))) (sym n.0)

-- one more value at the end
abbrev push_tree : Trees → Tree → Trees
push_tree no_trees t = tree t no_trees
push_tree (tree u us) t = tree u (push_tree us t)

trees_of-push : (bs : List Bson) (b : Bson) → trees_of (bs ++ b ∷ []) ≡ push_tree (trees_of bs) (tree_of b)
trees_of-push [] b = refl
trees_of-push (c ∷ bs) b = ap (tree (tree_of c)) (trees_of-push bs b)

-- the values so far, and one more
pub trees_more : (copies xs : List Bson) (c : Bson) (i : ℕ) (d : Bson) → i < length xs → trees_of copies ≡ trees_of (take i xs) → tree_of c ≡ tree_of (get_or xs i d) → trees_of (copies ++ c ∷ []) ≡ trees_of (take (i + 1) xs)
trees_more copies xs c i d lt so_far e =
    trees_of-push copies c ∙ (λ j. push_tree (so_far j) (e j)) ∙ sym (trees_of-push (take i xs) (get_or xs i d)) ∙ ap trees_of (sym (take_more xs i d lt))

-- one more pair at the end
abbrev push_pair : Pairs → Utf8 → Tree → Pairs
push_pair no_pairs key t = pair key t no_pairs
push_pair (pair k u ps) key t = pair k u (push_pair ps key t)

listed_pairs-push : (ps : List (Pair Bson)) (p : Pair Bson) → listed_pairs (ps ++ p ∷ []) ≡ push_pair (listed_pairs ps) (string_bytes p.key) (tree_of p.value)
listed_pairs-push [] p = refl
listed_pairs-push (q ∷ ps) p = ap (pair (string_bytes q.key) (tree_of q.value)) (listed_pairs-push ps p)

-- the pairs so far, and one more
pub pairs_more : (copies ps : List (Pair Bson)) (c : Pair Bson) (i : ℕ) (d : Pair Bson) → i < length ps → listed_pairs copies ≡ listed_pairs (take i ps) → string_bytes c.key ≡ string_bytes (get_or ps i d).key → tree_of c.value ≡ tree_of (get_or ps i d).value
    → listed_pairs (copies ++ c ∷ []) ≡ listed_pairs (take (i + 1) ps)
pairs_more copies ps c i d lt so_far key value =
    listed_pairs-push copies c ∙ (λ j. push_pair (so_far j) (key j) (value j)) ∙ sym (listed_pairs-push (take i ps) (get_or ps i d)) ∙ ap listed_pairs (sym (take_more ps i d lt))

-- the same keys
pub texts_same : (ps qs : List (Pair Bson)) → listed_pairs ps ≡ listed_pairs qs → key_texts ps ≡ key_texts qs
texts_same ps qs e = keys-pairs ps ∙ ap keys_of e ∙ sym (keys-pairs qs)

-- a key is none of those before it
pub new_pair : (copies ps : List (Pair Bson)) (i : ℕ) (p : Pair Bson) → i < length ps → p ≡ get_or ps i p → IsDistinct bytes_eq (key_texts ps) → listed_pairs copies ≡ listed_pairs (take i ps)
    → list_any (bytes_eq (string_bytes p.key)) (key_texts copies) ≡ false
new_pair copies ps i p lt is h so_far =
    let within : i < length (key_texts ps) = subst (λ n. i < n) (sym (length-texts ps)) lt in
    let key = sym (text_at ps i p lt is) in
    let before = texts_same copies (take i ps) so_far ∙ sym (take-map (λ (q : Pair Bson). string_bytes q.key) i ps) in
    (λ j. list_any (bytes_eq (key j)) (before j))
    ∙ new_at (key_texts ps) i (string_bytes p.key) h within
