-- A tree with the options of its regular expressions in order is sound where the tree is, and has the same form.
use Rattle.std.proofs.Common.{◌≡◌, ℕ, suc, ◌+◌, List, [], ◌∷◌, ◌++◌, length, Bool, true, false, refl, ap, ◌∙◌, arith}
use Rattle.std.specs.Prelude.{encode_utf8, encode_utf8_all, if◌then◌else◌, nat_lt}
use Rattle.std.specs.Fmt.{decimal}
use Rattle.std.specs.Str.{chars, is_utf8}
use Rattle.std.proofs.lemmas.List.{length-append}
use Rattle.std.proofs.lemmas.Str.{encodes-chars, IsUtf8-from_is_utf8}
use Rattle.bson_base.specs.Sorted.{insert, ascending, sorted}
use Rattle.bson_base.specs.Sound.{Lacks, IsClean, ArePairsClean, AreTreesClean, IsSound}
use Rattle.bson_kinds.specs.Text.{Bytes, Utf8}
use Rattle.bson_base.specs.Tree as tree
use Rattle.bson_base.specs.Tree.{Tree, document, Pairs, no_pairs, pair, Trees, no_trees, kind, enc, element, elements, array_elements, depth, pairs_depth, trees_depth}
use Rattle.bson_base.proofs.Lengths.{length-document, length-array, length-regular_expression, length-javascript_code_with_scope}
use Rattle.bson_shape.specs.Form.{dropped, Form, structure, sequence, field}
use Rattle.bson_laws.specs.Datum.{sorted_tree, sorted_pairs, sorted_trees}
use Rattle.bson_laws.proofs.ZeroFree.{free_sorted}
use Rattle.bson_infer_laws.specs.Inferred.{shape_of, pair_shapes, joined_shapes}
use Rattle.bson_infer_laws.specs.Join.{nothing, join}

-- ---- texts

length-insert : (c : ℕ) (cs : List ℕ) → length (encode_utf8_all (insert c cs)) ≡ length (encode_utf8 c) + length (encode_utf8_all cs)
length-insert c [] = omega (arith, length-append (encode_utf8 c) [])
length-insert c (d ∷ ds) = by (nat_lt d c) (length-insert c ds)
  where
    by : (t : Bool) → length (encode_utf8_all (insert c ds)) ≡ length (encode_utf8 c) + length (encode_utf8_all ds)
        → length (encode_utf8_all (if t then d ∷ insert c ds else c ∷ d ∷ ds)) ≡ length (encode_utf8 c) + length (encode_utf8_all (d ∷ ds))
    by true ih = omega (arith, ih, length-append (encode_utf8 d) (encode_utf8_all (insert c ds)), length-append (encode_utf8 d) (encode_utf8_all ds))
    by false ih = length-append (encode_utf8 c) (encode_utf8_all (d ∷ ds))

length-ascending : (cs : List ℕ) → length (encode_utf8_all (ascending cs)) ≡ length (encode_utf8_all cs)
length-ascending [] = refl
length-ascending (c ∷ cs) = omega (arith, length-insert c (ascending cs), length-ascending cs, length-append (encode_utf8 c) (encode_utf8_all cs))

-- a text in order is as long as before
length-sorted : (text : Utf8) → is_utf8 text ≡ true → length (sorted text) ≡ length text
length-sorted text h = length-ascending (chars text) ∙ ap length (encodes-chars text (IsUtf8-from_is_utf8 text h))

-- ---- levels

mutual
  pub sorted_depth : (t : Tree) → depth (sorted_tree t) ≡ depth t
  sorted_depth (tree.document ps) = ap suc (pairs_sorted_depth ps)
  sorted_depth (tree.array ts) = ap suc (trees_sorted_depth ts)
  sorted_depth (tree.regular_expression pattern options) = refl
  sorted_depth (tree.javascript_code_with_scope code scope) = ap suc (pairs_sorted_depth scope)
  sorted_depth t = refl

  pairs_sorted_depth : (ps : Pairs) → pairs_depth (sorted_pairs ps) ≡ pairs_depth ps
  pairs_sorted_depth no_pairs = refl
  pairs_sorted_depth (pair key t ps) = omega (arith, sorted_depth t, pairs_sorted_depth ps)

  trees_sorted_depth : (ts : Trees) → trees_depth (sorted_trees ts) ≡ trees_depth ts
  trees_sorted_depth no_trees = refl
  trees_sorted_depth (tree.tree t ts) = omega (arith, sorted_depth t, trees_sorted_depth ts)

-- ---- bytes

element_length : (k : Utf8) (t : Tree) (rest : Bytes) → length (element (kind t) k (enc t) ++ rest) ≡ length k + 2 + length (enc t) + length rest
element_length k t rest = omega (arith, length-append (element (kind t) k (enc t)) rest, length-append k (0 ∷ enc t))

mutual
  sorted_length : (t : Tree) → IsClean t → length (enc (sorted_tree t)) ≡ length (enc t)
  sorted_length (tree.document ps) c = omega (arith, length-document (sorted_pairs ps), length-document ps, pairs_sorted_length ps c)
  sorted_length (tree.array ts) c = omega (arith, length-array (sorted_trees ts), length-array ts, trees_sorted_length 0 ts c)
  sorted_length (tree.regular_expression pattern options) c =
      omega (arith, length-regular_expression pattern (sorted options), length-regular_expression pattern options, length-sorted options c.1.text)
  sorted_length (tree.javascript_code_with_scope code scope) c =
      omega (arith, length-javascript_code_with_scope code (sorted_pairs scope), length-javascript_code_with_scope code scope, pairs_sorted_length scope c.1)
  sorted_length t c = refl

  pairs_sorted_length : (ps : Pairs) → ArePairsClean ps → length (elements (sorted_pairs ps)) ≡ length (elements ps)
  pairs_sorted_length no_pairs c = refl
  pairs_sorted_length (pair key t ps) c =
      omega (arith, element_length key (sorted_tree t) (elements (sorted_pairs ps)), element_length key t (elements ps), sorted_length t c.2, pairs_sorted_length ps c.3)

  trees_sorted_length : (i : ℕ) (ts : Trees) → AreTreesClean ts → length (array_elements i (sorted_trees ts)) ≡ length (array_elements i ts)
  trees_sorted_length i no_trees c = refl
  trees_sorted_length i (tree.tree t ts) c =
      omega (arith, element_length (decimal i) (sorted_tree t) (array_elements (suc i) (sorted_trees ts)), element_length (decimal i) t (array_elements (suc i) ts), sorted_length t c.0, trees_sorted_length (suc i) ts c.1)

-- ---- clean trees

sorted_lacks : (key : Utf8) (ps : Pairs) → Lacks key ps → Lacks key (sorted_pairs ps)
sorted_lacks key no_pairs l = tt
sorted_lacks key (pair k t ps) l = (l.0, sorted_lacks key ps l.1)

mutual
  pub sorted_clean : (t : Tree) → IsClean t → IsClean (sorted_tree t)
  sorted_clean (tree.document ps) c = pairs_sorted_clean ps c
  sorted_clean (tree.array ts) c = trees_sorted_clean ts c
  sorted_clean (tree.regular_expression pattern options) c = (c.0, free_sorted options c.1)
  sorted_clean (tree.javascript_code_with_scope code scope) c = (c.0, pairs_sorted_clean scope c.1)
  sorted_clean t c = c

  pairs_sorted_clean : (ps : Pairs) → ArePairsClean ps → ArePairsClean (sorted_pairs ps)
  pairs_sorted_clean no_pairs c = tt
  pairs_sorted_clean (pair key t ps) c = (c.0, sorted_lacks key ps c.1, sorted_clean t c.2, pairs_sorted_clean ps c.3)

  trees_sorted_clean : (ts : Trees) → AreTreesClean ts → AreTreesClean (sorted_trees ts)
  trees_sorted_clean no_trees c = tt
  trees_sorted_clean (tree.tree t ts) c = (sorted_clean t c.0, trees_sorted_clean ts c.1)

-- a sound document stays sound
pub sorted_sound : (ps : Pairs) → IsSound (document ps) → IsSound (document (sorted_pairs ps))
sorted_sound ps s =
    record {
      document = tt;
      clean = pairs_sorted_clean ps s.clean;
      nests = omega (arith, pairs_sorted_depth ps, s.nests);
      fits = omega (arith, sorted_length (document ps) s.clean, s.fits);
    }

-- ---- forms

mutual
  sorted_shape : (t : Tree) → shape_of (sorted_tree t) ≡ shape_of t
  sorted_shape (tree.document ps) = ap (structure dropped []) (sorted_fields ps)
  sorted_shape (tree.array ts) = ap sequence (sorted_joined nothing ts)
  sorted_shape (tree.regular_expression pattern options) = refl
  sorted_shape (tree.javascript_code_with_scope code scope) = refl
  sorted_shape t = refl

  sorted_fields : (ps : Pairs) → pair_shapes (sorted_pairs ps) ≡ pair_shapes ps
  sorted_fields no_pairs = refl
  sorted_fields (pair key t ps) = λ i. field key (sorted_shape t i) (sorted_fields ps i)

  pub sorted_joined : (s : Form) (ts : Trees) → joined_shapes s (sorted_trees ts) ≡ joined_shapes s ts
  sorted_joined s no_trees = refl
  sorted_joined s (tree.tree t ts) = ap (λ x. joined_shapes (join s x) (sorted_trees ts)) (sorted_shape t) ∙ sorted_joined (join s (shape_of t)) ts

-- the form of a document is the same
pub document_shape : (ps : Pairs) → shape_of (document (sorted_pairs ps)) ≡ shape_of (document ps)
document_shape ps = sorted_shape (document ps)
