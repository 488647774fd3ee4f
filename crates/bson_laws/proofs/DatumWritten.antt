-- Where the value of a tree is spelled, it is spelled as the tree with its options in order, the format has bytes for the tree, and there are levels for it.
use Rattle.std.proofs.Common.{◌≡◌, ℕ, zero, suc, ◌≤◌, ltb, length, Bool, true, false, cond, Option, Some, Ok, Err, refl, ap, sym, ◌∙◌, arith}
use Rattle.std.specs.Prelude.{codes}
use Rattle.std.proofs.lemmas.Bool.Decides.{nat_tests}
use Rattle.bson_kinds.specs.Outcome.{◌>>=◌, result_map}
use Rattle.bson_base.specs.Sound.{max_binary}
use Rattle.bson_kinds.specs.Text.{Bytes, Utf8, has_zero}
use Rattle.bson_base.specs.Tree as tree
use Rattle.bson_base.specs.Tree.{Tree, Pairs, no_pairs, pair, Trees, no_trees, depth, pairs_depth, trees_depth}
use Rattle.bson_kinds.proofs.Outcomes.{some_is, ok_is, map_ok, bind_ok}
use Rattle.bson_values.specs.Refusal.{WriteFault, Refusal, at_index, under, under_index}
use Rattle.bson_values.specs.Value as value
use Rattle.bson_laws.specs.Written.{with_scope, spell_binary, spell_whole, spell_unwrapped}
use Rattle.bson_laws.specs.Datum.{datum, itself, pair_data, tree_data, sorted_tree, sorted_pairs, sorted_trees}
use Rattle.bson_laws.specs.Encodable.{IsEncodable, ArePairsEncodable, AreTreesEncodable}
use Rattle.bson_laws.specs.InRange.{IsInRange, ArePairsInRange, AreTreesInRange}
use Rattle.bson_laws.specs.Spell.{enclosed_at, spell_key, spell_as, spell_items_as, spell_entries_as}
use Rattle.bson_laws.proofs.DatumSpelled.{in_range_sizes, accepted}
use Rattle.bson_laws.proofs.Sizes.{inside_ok, under_ok, spell_key_ok, enclosed_ok, wide_is, expression_spelled}
use Rattle.bson_kinds.proofs.Apart.{no_ok}

-- ---- binaries

short_by : (b : Bool) (f : Refusal WriteFault) (m n : ℕ) (t u : Tree) → ltb m n ≡ b → cond b (Err f) (Ok t) ≡ Ok u → (u ≡ t) × (n ≤ m)
short_by true f m n t u is e = absurd (no_ok e)
short_by false f m n t u is e = (sym (ok_is t u e), grind (arith, nat_tests, is))

binary_short : (subtype : ℕ) (b : Bytes) (u : Tree) → spell_binary subtype b ≡ Ok u → (u ≡ tree.binary subtype b) × (length b ≤ max_binary subtype)
binary_short subtype b u e = short_by (ltb (max_binary subtype) (length b)) _ (max_binary subtype) (length b) (tree.binary subtype b) u refl e

-- ---- reserved structs

-- what a reserved struct is accepted as is spelled
pub taken : (t u : Tree) (o : Option Tree) → o ≡ Some t → spell_unwrapped o ≡ Ok u → spell_whole t ≡ Ok u
taken t u o is e = ap spell_unwrapped (sym is) ∙ e

-- as itself
pub taken_whole : (t u : Tree) (o : Option Tree) → o ≡ Some t → spell_whole t ≡ Ok t → spell_unwrapped o ≡ Ok u → u ≡ t
taken_whole t u o is whole e = sym (ok_is t u (sym whole ∙ taken t u o is e))

-- ---- trees

mutual
  pub datum_written : (readable : Bool) (t : Tree) (levels : ℕ) (u : Tree) → IsInRange t → spell_as readable (datum itself t) levels ≡ Ok u → (u ≡ sorted_tree t) × IsEncodable t × (depth t ≤ levels)
  datum_written f (tree.double bits) levels u r e = (sym (ok_is (tree.double bits) u e), tt, omega arith)
  datum_written f (tree.string x) levels u r e = (sym (ok_is (tree.string x) u e), tt, omega arith)
  datum_written f (tree.document ps) levels u r e =
      let m = enclosed_ok tree.document levels (spell_entries_as f (pair_data itself ps)) u e in
      let h = pairs_written f ps m.0 m.2.0 r m.2.1 in
      (sym m.2.2 ∙ ap tree.document h.0, h.1, omega (arith, m.1, h.2))
  datum_written f (tree.array ts) levels u r e =
      let m = enclosed_ok tree.array levels (spell_items_as f 0 (tree_data itself ts)) u e in
      let h = trees_written f 0 ts m.0 m.2.0 r m.2.1 in
      (sym m.2.2 ∙ ap tree.array h.0, h.1, omega (arith, m.1, h.2))
  datum_written f (tree.binary zero b) levels u r e = let h = binary_short 0 b u e in (h.0, h.1, omega arith)
  datum_written f (tree.binary (suc n) b) levels u r e =
      let h = binary_short (suc n) b u (taken (tree.binary (suc n) b) u _ (accepted (tree.binary (suc n) b) r) e) in (h.0, h.1, omega arith)
  datum_written f tree.undefined levels u r e = (taken_whole tree.undefined u _ (accepted tree.undefined tt) refl e, tt, omega arith)
  datum_written f (tree.object_id id) levels u r e = (taken_whole (tree.object_id id) u _ (accepted (tree.object_id id) (in_range_sizes (tree.object_id id) r)) refl e, tt, omega arith)
  datum_written f (tree.boolean b) levels u r e = (sym (ok_is (tree.boolean b) u e), tt, omega arith)
  datum_written f (tree.date_time n) levels u r e = (taken_whole (tree.date_time n) u _ (accepted (tree.date_time n) r) refl e, tt, omega arith)
  datum_written f tree.null levels u r e = (sym (ok_is tree.null u e), tt, omega arith)
  datum_written f (tree.regular_expression p q) levels u r e = let h = expression_spelled p q u (taken (tree.regular_expression p q) u _ (accepted (tree.regular_expression p q) tt) e) in (h.0, (h.1, h.2), omega arith)
  datum_written f (tree.db_pointer namespace id) levels u r e =
      (taken_whole (tree.db_pointer namespace id) u _ (accepted (tree.db_pointer namespace id) (in_range_sizes (tree.db_pointer namespace id) r)) refl e, tt, omega arith)
  datum_written f (tree.javascript_code x) levels u r e = (taken_whole (tree.javascript_code x) u _ (accepted (tree.javascript_code x) tt) refl e, tt, omega arith)
  datum_written f (tree.symbol x) levels u r e = (taken_whole (tree.symbol x) u _ (accepted (tree.symbol x) tt) refl e, tt, omega arith)
  datum_written f (tree.javascript_code_with_scope code scope) levels u r e =
      let parts = spell_entries_as f (pair_data itself scope) in
      let m = map_ok (with_scope code) (under (codes "$scope") (enclosed_at tree.document levels parts)) u e in
      let inner = enclosed_ok tree.document levels parts m.0 (under_ok (codes "$scope") (enclosed_at tree.document levels parts) m.0 m.1) in
      let h = pairs_written f scope inner.0 inner.2.0 r.1 inner.2.1 in
      (sym m.2 ∙ ap (with_scope code) (sym inner.2.2) ∙ ap (tree.javascript_code_with_scope code) h.0, h.1, omega (arith, inner.1, h.2))
  datum_written f (tree.int32 n) levels u r e = (sym (ok_is (tree.int32 n) u e), tt, omega arith)
  datum_written f (tree.timestamp time increment) levels u r e = (taken_whole (tree.timestamp time increment) u _ (accepted (tree.timestamp time increment) r) refl e, tt, omega arith)
  datum_written f (tree.int64 n) levels u r e = (sym (wide_is _ _ n u e), tt, omega arith)
  datum_written f (tree.decimal128 b) levels u r e = (taken_whole (tree.decimal128 b) u _ (accepted (tree.decimal128 b) r.count) refl e, tt, omega arith)
  datum_written f tree.max_key levels u r e = (taken_whole tree.max_key u _ (accepted tree.max_key tt) refl e, tt, omega arith)
  datum_written f tree.min_key levels u r e = (taken_whole tree.min_key u _ (accepted tree.min_key tt) refl e, tt, omega arith)
  datum_written f (tree.raw k b) levels u r e = absurd r

  pairs_written : (readable : Bool) (ps : Pairs) (n : ℕ) (qs : Pairs) → ArePairsInRange ps → spell_entries_as readable (pair_data itself ps) n ≡ Ok qs
      → (qs ≡ sorted_pairs ps) × ArePairsEncodable ps × (pairs_depth ps ≤ n)
  pairs_written f no_pairs n qs r e = (sym (ok_is no_pairs qs e), tt, omega arith)
  pairs_written f (pair key t ps) n qs r e =
      let es = pair_data itself ps in
      let a = bind_ok (spell_key (value.str key)) (λ k. under k (spell_as f (datum itself t) n) >>= λ x. spell_entries_as f es n >>= λ xs. Ok (pair k x xs)) qs e in
      let b = bind_ok (under a.0 (spell_as f (datum itself t) n)) (λ x. spell_entries_as f es n >>= λ xs. Ok (pair a.0 x xs)) qs a.2 in
      let c = bind_ok (spell_entries_as f es n) (λ xs. Ok (pair a.0 b.0 xs)) qs b.2 in
      let k = spell_key_ok (value.str key) a.0 a.1 in
      let is : key ≡ a.0 = some_is key a.0 k.0 in
      let first = datum_written f t n b.0 r.1 (under_ok a.0 (spell_as f (datum itself t) n) b.0 b.1) in
      let rest = pairs_written f ps n c.0 r.2 c.1 in
      (sym (ok_is (pair a.0 b.0 c.0) qs c.2) ∙ (λ i. pair (sym is i) (first.0 i) (rest.0 i)), (ap has_zero is ∙ k.1, first.1, rest.1), omega (arith, first.2, rest.2))

  trees_written : (readable : Bool) (index : ℕ) (ts : Trees) (n : ℕ) (us : Trees) → AreTreesInRange ts → spell_items_as readable index (tree_data itself ts) n ≡ Ok us
      → (us ≡ sorted_trees ts) × AreTreesEncodable ts × (trees_depth ts ≤ n)
  trees_written f i no_trees n us r e = (sym (ok_is no_trees us e), tt, omega arith)
  trees_written f i (tree.tree t ts) n us r e =
      let vs = tree_data itself ts in
      let a = bind_ok (under_index i (spell_as f (datum itself t) n)) (λ x. spell_items_as f (suc i) vs n >>= λ xs. Ok (tree.tree x xs)) us e in
      let b = bind_ok (spell_items_as f (suc i) vs n) (λ xs. Ok (tree.tree a.0 xs)) us a.2 in
      let first = datum_written f t n a.0 r.0 (inside_ok (at_index i) (spell_as f (datum itself t) n) a.0 a.1) in
      let rest = trees_written f (suc i) ts n b.0 r.1 b.1 in
      (sym (ok_is (tree.tree a.0 b.0) us b.2) ∙ (λ j. tree.tree (first.0 j) (rest.0 j)), (first.1, rest.1), omega (arith, first.2, rest.2))

-- ---- the parts of the law

-- it is spelled as this alone
pub written_sorted : (readable : Bool) (t u : Tree) (levels : ℕ) → IsInRange t → spell_as readable (datum itself t) levels ≡ Ok u → u ≡ sorted_tree t
written_sorted readable t u levels r e = (datum_written readable t levels u r e).0

pub written_fits : (readable : Bool) (t u : Tree) (levels : ℕ) → IsInRange t → spell_as readable (datum itself t) levels ≡ Ok u → IsEncodable t × (depth t ≤ levels)
written_fits readable t u levels r e = let h = datum_written readable t levels u r e in (h.1, h.2)

-- code with a scope is spelled wherever the map of its scope is
pub scope_written : (readable : Bool) (code : Utf8) (scope : Pairs) (u : Tree) (levels : ℕ) → ArePairsInRange scope → spell_as readable (datum itself (tree.document scope)) levels ≡ Ok u
    → spell_as readable (datum itself (tree.javascript_code_with_scope code scope)) levels ≡ Ok (sorted_tree (tree.javascript_code_with_scope code scope))
scope_written readable code scope u levels r e =
    ap (λ x. result_map (with_scope code) (under (codes "$scope") x)) e ∙ ap (λ x. Ok (with_scope code x)) (written_sorted readable (tree.document scope) u levels r e)
