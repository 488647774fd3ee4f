-- The laws of values in memory that are trees.
use Rattle.std.specs.Prelude.{◌≡◌, zero, suc, pos, false, cond, Some, Ok, refl, codes}
use Rattle.std.specs.Str.{bytes_eq}
use Rattle.std.proofs.Common.{ap, sym, ◌∙◌}
use Rattle.bson_kinds.specs.Outcome.{◌>>=◌, result_map}
use Rattle.bson_kinds.specs.Text.{Utf8}
use Rattle.bson_base.specs.Pairs.{put, AreDistinct}
use Rattle.bson_base.specs.Sound.{Lacks}
use Rattle.bson_base.specs.Tree as tree
use Rattle.bson_base.specs.Tree.{Tree, Pairs, no_pairs, pair, Trees, no_trees, null}
use Rattle.bson_shape.specs.Form.{leaf}
use Rattle.bson_shape.specs.declared.leaf.Leaf.TheVariants as leaves
use Rattle.bson_values.specs.Prover.Decided.{same_decides}
use Rattle.bson_laws.specs.Datum.{datum, itself, pair_data, tree_data, sorted_tree, sorted_pairs, sorted_trees}
use Rattle.bson_laws.specs.InRange.{IsInRange, ArePairsInRange, AreTreesInRange}
use Rattle.bson_laws.specs.Means.{norm}
use Rattle.bson_laws.proofs.DatumNormal.{datum_norm}
use Rattle.bson_laws.proofs.Fitted.{unlike_swap}
use Rattle.bson_type_data.specs.Extended.{both, id_datum, id_said, date_datum, date_said, stamp_datum, stamp_said, decimal_datum, decimal_said, binary_datum, binary_said, pointer_datum, pointer_said, regex_datum, regex_said, with_sorted}
use Rattle.bson_traits.specs.Laws.{Returns, IsNeverNull}
use Rattle.bson_traits.specs.Prover.ExtendedBack.{of_kind, own_datum, only_null, id_says, date_says, stamp_says, sized_is, binary_says}
use Rattle.bson_type_data.specs.Trees.{text_under, text_said, taken_only, stamp_tree, code_and_scope, scoped_tree, taken_tree, taken_trees, taken_pairs, taken_document, taken_scoped, IsInMemory, ArePairsInMemory, AreTreesInMemory, tree_datum, document_datum, scoped_datum, IsTree, IsTreeDocument, IsTreeScoped}

-- ---- pairs that are put one after another

-- one list of pairs, and then another
abbrev pub after : (done new : Pairs) → Pairs
after no_pairs qs = qs
after (pair k t ps) qs = pair k t (after ps qs)

after_none : (ps : Pairs) → after ps no_pairs ≡ ps
after_none no_pairs = refl
after_none (pair k t ps) = ap (pair k t) (after_none ps)

after_one : (k : Utf8) (t : Tree) (done ps : Pairs) → after (after done (pair k t no_pairs)) ps ≡ after done (pair k t ps)
after_one k t no_pairs ps = refl
after_one k t (pair j u done) ps = ap (pair j u) (after_one k t done ps)

-- a key that is not there goes last
put_new : (k : Utf8) (t : Tree) (done : Pairs) → Lacks k done → put k t done ≡ after done (pair k t no_pairs)
put_new k t no_pairs h = refl
put_new k t (pair j u done) h = ap (λ b. cond b (pair j t done) (pair j u (put k t done))) h.0 ∙ ap (pair j u) (put_new k t done h.1)

-- each key of the second list is none of the first
abbrev AreApart : (done new : Pairs) → Type 0
AreApart done no_pairs = Unit {0}
AreApart done (pair k t ps) = Lacks k done × AreApart done ps

apart_none : (ps : Pairs) → AreApart no_pairs ps
apart_none no_pairs = tt
apart_none (pair k t ps) = (tt, apart_none ps)

lacks_after : (j k : Utf8) (t : Tree) (done : Pairs) → Lacks j done → bytes_eq j k ≡ false → Lacks j (after done (pair k t no_pairs))
lacks_after j k t no_pairs h e = (e, tt)
lacks_after j k t (pair i u done) h e = (h.0, lacks_after j k t done h.1 e)

apart_after : (k : Utf8) (t : Tree) (done ps : Pairs) → AreApart done ps → Lacks k ps → AreApart (after done (pair k t no_pairs)) ps
apart_after k t done no_pairs h l = tt
apart_after k t done (pair j u ps) h l = (lacks_after j k t done h.0 (unlike_swap k j l.0), apart_after k t done ps h.1 l.1)

-- ---- the normal form of a datum is the datum itself

mutual
  in_order : (t : Tree) → IsInMemory t → sorted_tree t ≡ t
  in_order (tree.document ps) m = ap tree.document (pairs_in_order ps m.1)
  in_order (tree.array ts) m = ap tree.array (trees_in_order ts m)
  in_order (tree.regular_expression p o) m = ap (tree.regular_expression p) m
  in_order (tree.javascript_code_with_scope code scope) m = ap (tree.javascript_code_with_scope code) (pairs_in_order scope m.1)
  in_order t m = refl

  pairs_in_order : (ps : Pairs) → ArePairsInMemory ps → sorted_pairs ps ≡ ps
  pairs_in_order no_pairs m = refl
  pairs_in_order (pair key t ps) m = λ i. pair key (in_order t m.0 i) (pairs_in_order ps m.1 i)

  trees_in_order : (ts : Trees) → AreTreesInMemory ts → sorted_trees ts ≡ ts
  trees_in_order no_trees m = refl
  trees_in_order (tree.tree t ts) m = λ i. tree.tree (in_order t m.0 i) (trees_in_order ts m.1 i)

own_norm : (t : Tree) → IsInMemory t → norm (datum itself t) ≡ datum itself t
own_norm t m = datum_norm t ∙ ap (datum itself) (in_order t m)

-- ---- a datum gives its tree

only_itself : (t : Tree) → taken_only t (datum itself t) ≡ Ok t
only_itself t = rw ((same_decides (datum itself t) (datum itself t)).1 refl) refl

mutual
  tree_back : (t : Tree) → IsInRange t → IsInMemory t → taken_tree (datum itself t) ≡ Ok t
  tree_back (tree.double bits) r m = refl
  tree_back (tree.string t) r m = refl
  tree_back (tree.document ps) r m = ap (result_map tree.document) (pairs_back ps no_pairs r m.0 m.1 (apart_none ps))
  tree_back (tree.array ts) r m = ap (result_map tree.array) (trees_back ts r m)
  tree_back (tree.binary zero b) r m = refl
  tree_back (tree.binary (suc n) b) r m = ap (result_map (λ p. tree.binary p.0 p.1)) (own_datum binary_datum binary_said (suc n, b) (binary_says (suc n) b r.0 r.1))
  tree_back tree.undefined r m = only_itself tree.undefined
  tree_back (tree.object_id id) r m = ap (result_map tree.object_id) (own_datum id_datum id_said id (id_says id r))
  tree_back (tree.boolean b) r m = refl
  tree_back (tree.date_time n) r m = ap (result_map tree.date_time) (own_datum date_datum date_said n (date_says n r))
  tree_back tree.null r m = refl
  tree_back (tree.regular_expression p o) r m =
      ap (λ x. result_map (λ q. tree.regular_expression q.0 q.1) (result_map with_sorted x)) (own_datum regex_datum regex_said (p, o) refl) ∙ ap (λ q. Ok (tree.regular_expression p q)) m
  tree_back (tree.db_pointer n id) r m = ap (result_map (λ p. tree.db_pointer p.0 p.1)) (own_datum pointer_datum pointer_said (n, id) (ap (λ o. both (Some n) o) (id_says id r.1)))
  tree_back (tree.javascript_code t) r m = ap (result_map tree.javascript_code) (own_datum (text_under (codes "$code")) (text_said (codes "$code")) t refl)
  tree_back (tree.symbol t) r m = ap (result_map tree.symbol) (own_datum (text_under (codes "$symbol")) (text_said (codes "$symbol")) t refl)
  tree_back (tree.javascript_code_with_scope code scope) r m = ap (λ x. result_map scoped_tree (code_and_scope (Ok code) x)) (pairs_back scope no_pairs r.1 m.0 m.1 (apart_none scope))
  tree_back (tree.int32 n) r m = refl
  tree_back (tree.timestamp t i) r m = ap (λ x. x >>= stamp_tree) (own_datum stamp_datum stamp_said (pos t, pos i) (stamp_says t i r.0 r.1))
  tree_back (tree.int64 n) r m = refl
  tree_back (tree.decimal128 b) r m = ap (result_map tree.decimal128) (own_datum decimal_datum decimal_said b (sized_is b r.count))
  tree_back tree.max_key r m = only_itself tree.max_key
  tree_back tree.min_key r m = only_itself tree.min_key
  tree_back (tree.raw k b) r m = absurd r

  pairs_back : (ps done : Pairs) → ArePairsInRange ps → AreDistinct ps → ArePairsInMemory ps → AreApart done ps → taken_pairs done (pair_data itself ps) ≡ Ok (after done ps)
  pairs_back no_pairs done r d m a = ap Ok (sym (after_none done))
  pairs_back (pair k t ps) done r d m a =
      ap (λ x. x >>= λ u. taken_pairs (put k u done) (pair_data itself ps)) (tree_back t r.1 m.0)
      ∙ ap (λ qs. taken_pairs qs (pair_data itself ps)) (put_new k t done a.0)
      ∙ pairs_back ps (after done (pair k t no_pairs)) r.2 d.1 m.1 (apart_after k t done ps a.1 d.0)
      ∙ ap Ok (after_one k t done ps)

  trees_back : (ts : Trees) → AreTreesInRange ts → AreTreesInMemory ts → taken_trees (tree_data itself ts) ≡ Ok ts
  trees_back no_trees r m = refl
  trees_back (tree.tree t ts) r m =
      ap (λ x. x >>= λ u. result_map (tree.tree u) (taken_trees (tree_data itself ts))) (tree_back t r.0 m.0) ∙ ap (result_map (tree.tree t)) (trees_back ts r.1 m.1)

-- ---- the laws

pub tree_returns : (t : Tree) → IsTree t → Returns (leaf leaves.Bson) t taken_tree (Ok (tree_datum t))
tree_returns t h = record {
  fits = record { tree = t; ranges = h.0; is_datum = refl };
  again = ap taken_tree (own_norm t h.1) ∙ tree_back t h.0 h.1;
}

pub document_returns : (ps : Pairs) → IsTreeDocument ps → Returns (leaf leaves.Document) ps taken_document (Ok (document_datum ps))
document_returns ps h = record {
  fits = of_kind (tree.document ps) h.0;
  again = ap taken_document (own_norm (tree.document ps) h.1) ∙ pairs_back ps no_pairs h.0 h.1.0 h.1.1 (apart_none ps);
}

pub document_not_null : (ps : Pairs) → IsTreeDocument ps → IsNeverNull (Ok (document_datum ps))
document_not_null ps h e = let is : null ≡ tree.document (sorted_pairs ps) = only_null (tree.document ps) h.0 e in cc

pub scoped_returns : (p : Utf8 × Pairs) → IsTreeScoped p → Returns (leaf leaves.CodeWithScope) p taken_scoped (Ok (scoped_datum p))
scoped_returns p h = record {
  fits = of_kind (scoped_tree p) h.0;
  again = ap taken_scoped (own_norm (scoped_tree p) h.1) ∙ ap (code_and_scope (Ok p.0)) (pairs_back p.1 no_pairs h.0.1 h.1.0 h.1.1 (apart_none p.1));
}

pub scoped_not_null : (p : Utf8 × Pairs) → IsTreeScoped p → IsNeverNull (Ok (scoped_datum p))
scoped_not_null p h e = let is : null ≡ tree.javascript_code_with_scope p.0 (sorted_pairs p.1) = only_null (scoped_tree p) h.0 e in cc
