-- The value that a tree is, in its normal form and as what it means: the tree with the options of its regular expressions sorted.
use Rattle.std.proofs.Common.{◌≡◌, zero, suc, Bool, true, false, cond, Option, Some, None, Ok, Err, refl, ap, sym, ◌∙◌, arith}
use Rattle.std.specs.Prelude.{nat_eq, codes, option_map}
use Rattle.std.specs.Result.{result_ok}
use Rattle.std.proofs.lemmas.Bool.Decides.{nat_tests}
use Rattle.bson_kinds.specs.Kind.{byte, of_byte}
use Rattle.bson_base.specs.Tree as tree
use Rattle.bson_base.specs.Tree.{Tree, Pairs, no_pairs, pair, Trees, no_trees}
use Rattle.bson_kinds.specs.declared.element_type.ElementType.{ElementType}
use Rattle.bson_kinds.specs.Prover.KindBytes.{of_byte-byte}
use Rattle.bson_kinds.proofs.Outcomes.{some_is, some_map, some_then, ok_is}
use Rattle.bson_values.specs.Value as value
use Rattle.bson_values.specs.Value.{item, entry}
use Rattle.bson_laws.specs.Written.{Writing, with_scope, spell_whole}
use Rattle.bson_laws.specs.Datum.{datum, itself, two, pair_data, tree_data, sorted_tree, sorted_pairs, sorted_trees}
use Rattle.bson_laws.specs.InRange.{IsInRange, ArePairsInRange, AreTreesInRange}
use Rattle.bson_laws.specs.Means.{unwrapped_means, means, means_items, means_entries, norm, norm_items, norm_entries}
use Rattle.bson_laws.proofs.DatumSpelled.{in_range_sizes, accepted}
use Rattle.bson_laws.proofs.ParsedSizes.{sorted_text, sorted_twice}
use Rattle.bson_laws.proofs.Sizes.{binary_is, expression_spelled}
use Rattle.bson_laws.proofs.Spelled.{tree_is}
use Rattle.bson_kinds.proofs.Apart.{no_some}

-- ---- kinds

pub same_kind : (j k : ElementType) → nat_eq (byte j) (byte k) ≡ true → j ≡ k
same_kind j k e =
    let same : byte j ≡ byte k = grind (arith, nat_tests, e) in
    some_is j k (sym (of_byte-byte j) ∙ ap of_byte same ∙ of_byte-byte k)

pub own_kind : (k : ElementType) → nat_eq (byte k) (byte k) ≡ true
own_kind k = grind (arith, nat_tests)

-- ---- sorted

mutual
  pub sorted_in_range : (t : Tree) → IsInRange t → IsInRange (sorted_tree t)
  sorted_in_range (tree.document ps) r = sorted_pairs_in_range ps r
  sorted_in_range (tree.array ts) r = sorted_trees_in_range ts r
  sorted_in_range (tree.regular_expression p q) r = (r.0, sorted_text q r.1)
  sorted_in_range (tree.javascript_code_with_scope code scope) r = (r.0, sorted_pairs_in_range scope r.1)
  sorted_in_range t r = r

  sorted_pairs_in_range : (ps : Pairs) → ArePairsInRange ps → ArePairsInRange (sorted_pairs ps)
  sorted_pairs_in_range no_pairs r = tt
  sorted_pairs_in_range (pair key t ps) r = (r.0, sorted_in_range t r.1, sorted_pairs_in_range ps r.2)

  sorted_trees_in_range : (ts : Trees) → AreTreesInRange ts → AreTreesInRange (sorted_trees ts)
  sorted_trees_in_range no_trees r = tt
  sorted_trees_in_range (tree.tree t ts) r = (sorted_in_range t r.0, sorted_trees_in_range ts r.1)

mutual
  pub tree_sorted_twice : (t : Tree) → IsInRange t → sorted_tree (sorted_tree t) ≡ sorted_tree t
  tree_sorted_twice (tree.document ps) r = ap tree.document (pairs_sorted_twice ps r)
  tree_sorted_twice (tree.array ts) r = ap tree.array (trees_sorted_twice ts r)
  tree_sorted_twice (tree.regular_expression p q) r = ap (tree.regular_expression p) (sorted_twice q r.1)
  tree_sorted_twice (tree.javascript_code_with_scope code scope) r = ap (tree.javascript_code_with_scope code) (pairs_sorted_twice scope r.1)
  tree_sorted_twice t r = refl

  pairs_sorted_twice : (ps : Pairs) → ArePairsInRange ps → sorted_pairs (sorted_pairs ps) ≡ sorted_pairs ps
  pairs_sorted_twice no_pairs r = refl
  pairs_sorted_twice (pair key t ps) r = λ i. pair key (tree_sorted_twice t r.1 i) (pairs_sorted_twice ps r.2 i)

  trees_sorted_twice : (ts : Trees) → AreTreesInRange ts → sorted_trees (sorted_trees ts) ≡ sorted_trees ts
  trees_sorted_twice no_trees r = refl
  trees_sorted_twice (tree.tree t ts) r = λ i. tree.tree (tree_sorted_twice t r.0 i) (trees_sorted_twice ts r.1 i)

-- ---- the normal form

mutual
  pub datum_norm : (t : Tree) → norm (datum itself t) ≡ datum itself (sorted_tree t)
  datum_norm (tree.document ps) = ap value.map (pairs_norm ps)
  datum_norm (tree.array ts) = ap value.sequence (trees_norm ts)
  datum_norm (tree.binary zero b) = refl
  datum_norm (tree.binary (suc n) b) = refl
  datum_norm (tree.javascript_code_with_scope code scope) =
      ap (λ es. value.structure (codes "$codeWithScope") (two itself (codes "$code") (value.str code) (codes "$scope") (value.map es))) (pairs_norm scope)
  datum_norm t = refl

  pairs_norm : (ps : Pairs) → norm_entries (pair_data itself ps) ≡ pair_data itself (sorted_pairs ps)
  pairs_norm no_pairs = refl
  pairs_norm (pair key t ps) = λ i. entry (value.str key) (datum_norm t i) (pairs_norm ps i)

  trees_norm : (ts : Trees) → norm_items (tree_data itself ts) ≡ tree_data itself (sorted_trees ts)
  trees_norm no_trees = refl
  trees_norm (tree.tree t ts) = λ i. item (datum_norm t i) (trees_norm ts i)

-- ---- what the value means

whole_ok : (r : Writing Tree) (u : Tree) → result_ok r ≡ Some u → r ≡ Ok u
whole_ok (Ok t) u e = ap Ok (some_is t u e)
whole_ok (Err f) u e = absurd (no_some e)

-- what a reserved struct is accepted as is what it means, as it is written
taken : (t u : Tree) (o : Option Tree) → o ≡ Some t → unwrapped_means o ≡ Some u → spell_whole t ≡ Ok u
taken t u o is e = whole_ok (spell_whole t) u (ap unwrapped_means (sym is) ∙ e)

taken_whole : (t u : Tree) (o : Option Tree) → o ≡ Some t → spell_whole t ≡ Ok t → unwrapped_means o ≡ Some u → u ≡ t
taken_whole t u o is whole e = sym (ok_is t u (sym whole ∙ taken t u o is e))

wide_meant : (b : Bool) (n : _) (u : Tree) → cond b None (Some (tree.int64 n)) ≡ Some u → u ≡ tree.int64 n
wide_meant true n u e = absurd (no_some e)
wide_meant false n u e = sym (tree_is (tree.int64 n) u e)

mutual
  -- it means the tree, with the options sorted
  pub datum_means : (t u : Tree) → IsInRange t → means (datum itself t) ≡ Some u → u ≡ sorted_tree t
  datum_means (tree.double bits) u r e = sym (some_is (tree.double bits) u e)
  datum_means (tree.string x) u r e = sym (some_is (tree.string x) u e)
  datum_means (tree.document ps) u r e = let m = some_map tree.document (means_entries (pair_data itself ps)) u e in sym m.2 ∙ ap tree.document (pairs_mean ps m.0 r m.1)
  datum_means (tree.array ts) u r e = let m = some_map tree.array (means_items (tree_data itself ts)) u e in sym m.2 ∙ ap tree.array (trees_mean ts m.0 r m.1)
  datum_means (tree.binary zero b) u r e = sym (some_is (tree.binary 0 b) u e)
  datum_means (tree.binary (suc n) b) u r e = sym (binary_is _ _ (suc n) b u (taken (tree.binary (suc n) b) u _ (accepted (tree.binary (suc n) b) r) e))
  datum_means (tree.boolean b) u r e = sym (some_is (tree.boolean b) u e)
  datum_means tree.null u r e = sym (some_is tree.null u e)
  datum_means (tree.int32 n) u r e = sym (some_is (tree.int32 n) u e)
  datum_means (tree.int64 n) u r e = wide_meant _ n u e
  datum_means (tree.regular_expression p q) u r e = (expression_spelled p q u (taken (tree.regular_expression p q) u _ (accepted (tree.regular_expression p q) tt) e)).0
  datum_means (tree.javascript_code_with_scope code scope) u r e =
      let m = some_map (with_scope code) (option_map tree.document (means_entries (pair_data itself scope))) u e in
      let d = some_map tree.document (means_entries (pair_data itself scope)) m.0 m.1 in
      sym m.2 ∙ ap (with_scope code) (sym d.2) ∙ ap (tree.javascript_code_with_scope code) (pairs_mean scope d.0 r.1 d.1)
  datum_means tree.undefined u r e = taken_whole tree.undefined u _ (accepted tree.undefined tt) refl e
  datum_means (tree.object_id id) u r e = taken_whole (tree.object_id id) u _ (accepted (tree.object_id id) (in_range_sizes (tree.object_id id) r)) refl e
  datum_means (tree.date_time n) u r e = taken_whole (tree.date_time n) u _ (accepted (tree.date_time n) r) refl e
  datum_means (tree.db_pointer namespace id) u r e = taken_whole (tree.db_pointer namespace id) u _ (accepted (tree.db_pointer namespace id) (in_range_sizes (tree.db_pointer namespace id) r)) refl e
  datum_means (tree.javascript_code x) u r e = taken_whole (tree.javascript_code x) u _ (accepted (tree.javascript_code x) tt) refl e
  datum_means (tree.symbol x) u r e = taken_whole (tree.symbol x) u _ (accepted (tree.symbol x) tt) refl e
  datum_means (tree.timestamp time increment) u r e = taken_whole (tree.timestamp time increment) u _ (accepted (tree.timestamp time increment) r) refl e
  datum_means (tree.decimal128 b) u r e = taken_whole (tree.decimal128 b) u _ (accepted (tree.decimal128 b) (in_range_sizes (tree.decimal128 b) r)) refl e
  datum_means tree.max_key u r e = taken_whole tree.max_key u _ (accepted tree.max_key tt) refl e
  datum_means tree.min_key u r e = taken_whole tree.min_key u _ (accepted tree.min_key tt) refl e
  datum_means (tree.raw k b) u r e = absurd r

  pairs_mean : (ps qs : Pairs) → ArePairsInRange ps → means_entries (pair_data itself ps) ≡ Some qs → qs ≡ sorted_pairs ps
  pairs_mean no_pairs qs r e = sym (some_is no_pairs qs e)
  pairs_mean (pair key t ps) qs r e =
      let a = some_then (λ x. option_map (pair key x) (means_entries (pair_data itself ps))) (means (datum itself t)) qs e in
      let b = some_map (pair key a.0) (means_entries (pair_data itself ps)) qs a.2 in
      sym b.2 ∙ (λ i. pair key (datum_means t a.0 r.1 a.1 i) (pairs_mean ps b.0 r.2 b.1 i))

  trees_mean : (ts us : Trees) → AreTreesInRange ts → means_items (tree_data itself ts) ≡ Some us → us ≡ sorted_trees ts
  trees_mean no_trees us r e = sym (some_is no_trees us e)
  trees_mean (tree.tree t ts) us r e =
      let a = some_then (λ x. option_map (tree.tree x) (means_items (tree_data itself ts))) (means (datum itself t)) us e in
      let b = some_map (tree.tree a.0) (means_items (tree_data itself ts)) us a.2 in
      sym b.2 ∙ (λ i. tree.tree (datum_means t a.0 r.0 a.1 i) (trees_mean ts b.0 r.1 b.1 i))
