-- The elements of a document and of an array, one by one: those that are left, and the whole.
use Rattle.std.proofs.Common.{◌≡◌, ℕ, zero, suc, ◌+◌, [], ◌∷◌, ◌++◌, List, length, take, drop, get_or, ◌≤◌, ◌-◌, ◌<◌, Bool, cond, eqb, true, false, Option, Some, None, refl, ap, sym, subst, ◌∙◌, append_assoc, arith}
use Rattle.std.specs.Fmt.{decimal}
use Rattle.std.specs.Str.{is_utf8, bytes_eq}
use Rattle.std.specs.List.{IsDistinct}
use Rattle.std.specs.Prelude.{not}
use Rattle.std.proofs.lemmas.Slice.Eq.{bytes_eq-Decides}
use Rattle.std.proofs.lemmas.Bool.{eqb-true}
use Rattle.std.proofs.lemmas.List.{take_all, length-drop, drop-drop, take-append-drop}
use Rattle.bson_kinds.specs.Kind.{byte, of_byte, with_byte}
use Rattle.bson_kinds.specs.Kind.{kinds as all_kinds}
use Rattle.bson_kinds.specs.Text.{Bytes, Utf8, has_zero}
use Rattle.bson_base.specs.Tree.{Pairs, no_pairs, pair, Trees, no_trees, tree, kind, enc, elements, array_elements}
use Rattle.bson_kinds.specs.declared.element_type.ElementType.{ElementType}
use Rattle.bson_kinds.proofs.Outcomes.{some_is}
use Rattle.bson_rawdoc.specs.Extent.{in_front, cut_at_zero}
use Rattle.bson_itself.specs.Encoded.{EncodesItself, ArePairs, AreTrees}
use Rattle.bson_itself.specs.Itself.{ArePairsThemselves, AreTreesThemselves, IsTakenKey}
use Rattle.bson_itself.specs.Keys.{IsKey}
use Rattle.bson_itself.specs.declared.untyped.UntypedLeaf.{UntypedLeaf}
use Rattle.bson_keys.proofs.Distinct.{distinct_last}
use Rattle.bson_itself.proofs.Names.{LacksAll, lacked_last, lacked_pair}

-- ---- kinds

byte_case : (b : ℕ) (j k : ElementType) (c : Bool) (rest : Option ElementType) → eqb b (byte j) ≡ c → (rest ≡ Some k → byte k ≡ b) → cond c (Some j) rest ≡ Some k → byte k ≡ b
byte_case b j k true rest is later e = let same : j ≡ k = cc in ap byte (sym same) ∙ sym (eqb-true b (byte j) is)
byte_case b j k false rest is later e = later e

byte_among : (b : ℕ) (ks : List ElementType) (k : ElementType) → with_byte b ks ≡ Some k → byte k ≡ b
byte_among b [] k e = absurd cc
byte_among b (j ∷ ks) k e = byte_case b j k (eqb b (byte j)) (with_byte b ks) refl (byte_among b ks k) e

-- the kind that a byte stands for has this byte
pub byte_is : (b : ℕ) (k : ElementType) → of_byte b ≡ Some k → byte k ≡ b
byte_is b k e = byte_among b all_kinds k e

-- ---- the elements that are left

-- Whatever pairs the rest is, with them the whole is pairs, if the keys of those before them are different.
abbrev pub PairsLeft : UntypedLeaf → (whole : Bytes) → (levels : ℕ) → (before : List Utf8) → (rest : Bytes) → Type 0
PairsLeft leaf whole levels before rest = (ps : Pairs) → ArePairsThemselves leaf ps levels → LacksAll before ps → elements ps ≡ rest → IsDistinct bytes_eq before → ArePairs leaf levels whole

pub pairs_first : (leaf : UntypedLeaf) (whole : Bytes) (levels : ℕ) → PairsLeft leaf whole levels [] whole
pairs_first leaf whole levels ps all lacked is different = (ps, all, is)

none_lacked : (ks : List Utf8) → LacksAll ks no_pairs
none_lacked [] = tt
none_lacked (k ∷ ks) = (tt, none_lacked ks)

pub pairs_end : (leaf : UntypedLeaf) (whole : Bytes) (levels : ℕ) (before : List Utf8) (rest : Bytes) → PairsLeft leaf whole levels before rest → rest ≡ [] → IsDistinct bytes_eq before → ArePairs leaf levels whole
pairs_end leaf whole levels before rest left none different = left no_pairs tt (none_lacked before) (sym none) different

element_before : (k : ℕ) (key value more : Bytes) → (k ∷ (key ++ (0 ∷ value))) ++ more ≡ k ∷ (key ++ (0 ∷ (value ++ more)))
element_before k key value more = ap (λ (b : Bytes). k ∷ b) (append_assoc key (0 ∷ value) more)

-- one more: its kind, its key, its value
pub pairs_step : (leaf : UntypedLeaf) (whole : Bytes) (levels : ℕ) (before : List Utf8) (k : ElementType) (key value rest : Bytes) → PairsLeft leaf whole levels before (byte k ∷ (key ++ (0 ∷ (value ++ rest)))) → is_utf8 key ≡ true
    → has_zero key ≡ false → IsTakenKey leaf key → EncodesItself leaf k levels value → PairsLeft leaf whole levels (before ++ key ∷ []) rest
pairs_step leaf whole levels before k key value rest left text closed taken one ps all lacked is different =
    let parts = distinct_last before key different in
    left (pair key one.0 ps) (text, closed, taken, lacked_last before key ps lacked, one.2, all) (lacked_pair before key one.0 ps parts.0 lacked)
    (element_before (byte (kind one.0)) key (enc one.0) (elements ps)
    ∙ (λ i. byte (one.1 i) ∷ (key ++ (0 ∷ (one.3 i ++ is i))))) parts.1

-- the same for arrays
abbrev pub TreesLeft : UntypedLeaf → (whole : Bytes) → (levels index : ℕ) → (rest : Bytes) → Type 0
TreesLeft leaf whole levels i rest = (ts : Trees) → AreTreesThemselves leaf ts levels → array_elements i ts ≡ rest → AreTrees leaf levels whole

pub trees_first : (leaf : UntypedLeaf) (whole : Bytes) (levels : ℕ) → TreesLeft leaf whole levels 0 whole
trees_first leaf whole levels ts all is = (ts, all, is)

pub trees_end : (leaf : UntypedLeaf) (whole : Bytes) (levels i : ℕ) (rest : Bytes) → TreesLeft leaf whole levels i rest → rest ≡ [] → AreTrees leaf levels whole
trees_end leaf whole levels i rest left none = left no_trees tt (sym none)

pub trees_step : (leaf : UntypedLeaf) (whole : Bytes) (levels i : ℕ) (k : ElementType) (value rest : Bytes) → TreesLeft leaf whole levels i (byte k ∷ (decimal i ++ (0 ∷ (value ++ rest)))) → EncodesItself leaf k levels value
    → TreesLeft leaf whole levels (suc i) rest
trees_step leaf whole levels i k value rest left one ts all is =
    left (tree one.0 ts) (one.2, all)
    (element_before (byte (kind one.0)) (decimal i) (enc one.0) (array_elements (suc i) ts)
    ∙ (λ j. byte (one.1 j) ∷ (decimal i ++ (0 ∷ (one.3 j ++ is j)))))

-- ---- keys

-- the bytes are these, with a zero between them
abbrev pub AreCut : Bytes → Bytes × Bytes → Type 0
AreCut bs p = (has_zero p.0 ≡ false) × (bs ≡ p.0 ++ 0 ∷ p.1)

not_zero : (b : ℕ) (c : Bool) → eqb (suc b) 0 ≡ c → c ≡ false
not_zero b true e = absurd (omega (arith, eqb-true _ _ e))
not_zero b false e = refl

differ : (b : ℕ) → eqb (suc b) 0 ≡ false
differ b = not_zero b (eqb (suc b) 0) refl

cut_behind : (b : ℕ) (bs : Bytes) (p : Bytes × Bytes) (o : Option (Bytes × Bytes)) → ((q : Bytes × Bytes) → o ≡ Some q → AreCut bs q) → in_front (suc b) o ≡ Some p → AreCut (suc b ∷ bs) p
cut_behind b bs p None again e = absurd cc
cut_behind b bs p (Some q) again e = let parts = again q refl in subst (AreCut (suc b ∷ bs)) (some_is (suc b ∷ q.0, q.1) p e) (rw (differ b) parts.0, ap (λ (l : Bytes). suc b ∷ l) parts.1)

-- what is cut at a zero
pub cut_parts : (bs : Bytes) (p : Bytes × Bytes) → cut_at_zero bs ≡ Some p → AreCut bs p
cut_parts [] p e = absurd cc
cut_parts (zero ∷ bs) p e = subst (AreCut (0 ∷ bs)) (some_is ([], bs) p e) (refl, refl)
cut_parts (suc b ∷ bs) p e = cut_behind b bs p (cut_at_zero bs) (λ q is. cut_parts bs q is) e

pub key_is : (bytes : Bytes) (n : ℕ) (name back : Bytes) → n < length bytes → cut_at_zero bytes ≡ Some (take n bytes, drop (n + 1) bytes) → is_utf8 (take n bytes) ≡ true → name ≡ take n bytes → back ≡ drop n bytes
    → IsKey bytes name (take (length back - 1) (drop 1 back))
key_is bytes n name back within cut text front is =
    let parts = cut_parts bytes (take n bytes, drop (n + 1) bytes) cut in
    let rest : take (length back - 1) (drop 1 back) ≡ drop (n + 1) bytes = take_all (length back - 1) (drop 1 back) (omega (arith, length-drop 1 back)) ∙ ap (drop 1) is ∙ drop-drop 1 n bytes in
    record { text = ap is_utf8 front ∙ text; no_zero = ap has_zero front ∙ parts.0; parts = parts.1 ∙ (λ i. sym front i ++ 0 ∷ sym rest i) }

-- an element in front of what is left: its kind, its key, its value
pub element_there : (rest behind value : Bytes) (k n : ℕ) (key back : Bytes) → rest ≡ k ∷ behind → IsKey behind key value → back ≡ drop n value → rest ≡ k ∷ (key ++ (0 ∷ (take n value ++ back)))
element_there rest behind value k n key back is parts split =
    is ∙ ap (λ (b : Bytes). k ∷ b) (parts.parts ∙ ap (λ (b : Bytes). key ++ 0 ∷ b) (sym (take-append-drop n value) ∙ ap (λ b. take n value ++ b) (sym split)))

-- the same, for the kind that the first byte stands for
pub element_first : (rest value : Bytes) (k : ElementType) (n : ℕ) (key back : Bytes) → 1 ≤ length rest → of_byte (get_or rest 0 0) ≡ Some k → IsKey (take (length rest - 1) (drop 1 rest)) key value → back ≡ drop n value
    → rest ≡ byte k ∷ (key ++ (0 ∷ (take n value ++ back)))
element_first [] value k n key back some is parts split = absurd (omega arith)
element_first (b ∷ rest) value k n key back some is parts split =
    element_there (b ∷ rest) (take (length (b ∷ rest) - 1) rest) value (byte k) n key back
    ((λ i. sym (byte_is b k is) i ∷ sym (take_all (length (b ∷ rest) - 1) rest (omega arith)) i)) parts split

-- two byte strings that do not differ
pub same_bytes : (a b : Bytes) → false ≡ not (bytes_eq a b) → a ≡ b
same_bytes a b e = (bytes_eq-Decides a b).0 (not_false (bytes_eq a b) e) where
  not_false : (c : Bool) → false ≡ not c → c ≡ true
  not_false true e = refl
  not_false false e = absurd cc
