-- The value of a tree that reading gives is spelled as that tree, and the tree is read again as itself.
use Rattle.std.proofs.Common.{◌≡◌, ℕ, zero, suc, ◌≤◌, length, true, cond, Ok, Err, refl, ap, sym, subst, ◌∙◌, arith}
use Rattle.std.specs.Prelude.{nat_eq, codes}
use Rattle.bson_kinds.specs.Kind.{byte}
use Rattle.bson_kinds.specs.Outcome.{◌>>=◌, result_map}
use Rattle.bson_kinds.specs.Text.{Bytes}
use Rattle.bson_base.specs.Tree as tree
use Rattle.bson_base.specs.Tree.{Tree, Pairs, no_pairs, pair, Trees, no_trees, kind, depth, pairs_depth, trees_depth}
use Rattle.bson_kinds.specs.declared.element_type.ElementType.{ElementType}
use Rattle.bson_kinds.proofs.Outcomes.{some_is, ok_is, map_ok, bind_ok}
use Rattle.bson_rawdoc.specs.Node.{Sight, tree_node}
use Rattle.bson_kinds.specs.Piece.{made}
use Rattle.bson_values.specs.Cause.{wrong_kind, invalid_length}
use Rattle.bson_values.specs.Marked.{Marked, contents}
use Rattle.bson_values.specs.Refusal.{at_index, under, under_index}
use Rattle.bson_values.specs.Value as value
use Rattle.bson_values.specs.Value.{Value}
use Rattle.bson_laws.specs.Written.{Writing, with_scope}
use Rattle.bson_laws.specs.Datum.{datum, itself, pair_data, tree_data, uuid_datum}
use Rattle.bson_laws.specs.Leaves as leaf_kinds
use Rattle.bson_laws.specs.Leaves.{ExtendedLeaf, object_ids, uuids, of_kind, documents}
use Rattle.bson_laws.specs.Judged.{Reading, refused, judged}
use Rattle.bson_laws.specs.Trees.{as_tree, pairs_in}
use Rattle.bson_laws.specs.ReadsExtended.{tree_of_kind, read_extended}
use Rattle.bson_laws.specs.Spell.{enclosed_at, spell_key, spell, spell_items, spell_entries}
use Rattle.bson_laws.proofs.Coded.{IsCoded, ArePairsCoded, AreTreesCoded}
use Rattle.bson_laws.proofs.DatumContents.{datum_contents}
use Rattle.bson_laws.proofs.DatumSpelled.{accepted}
use Rattle.bson_laws.proofs.DatumWritten.{taken, taken_whole}
use Rattle.bson_laws.proofs.GivenTrees.{IsGivenTree, ArePairsGiven, AreTreesGiven, IsGivenExtended, given_readable, given_sorted}
use Rattle.bson_laws.proofs.Sizes.{inside_ok, under_ok, spell_key_ok, wide_is, binary_is, expression_spelled}
use Rattle.bson_laws.proofs.TreesRead.{judged_readable, tree_again}

-- ---- what is spelled

-- spelled as this tree, which has no more levels than there were, and is found again in its bytes
abbrev pub SpelledAs : ℕ → Tree → Tree → Type 0
SpelledAs levels t u = (u ≡ t) × (depth t ≤ levels) × IsCoded t

within : {A : Type 0} (P : ℕ → Tree → Type 0) (container : A → Tree) (levels : ℕ) (parts : ℕ → Writing A) (t : Tree) → enclosed_at container levels parts ≡ Ok t → ((n : ℕ) (x : A) → parts n ≡ Ok x → P (suc n) (container x)) → P levels t
within P container zero parts t e f = absurd cc
within P container (suc n) parts t e f = let m = map_ok container (parts n) t e in subst (P (suc n)) m.2 (f n m.0 m.1)

mutual
  pub datum_spelled : (t : Tree) (levels : ℕ) (u : Tree) → IsGivenTree t → spell (datum itself t) levels ≡ Ok u → SpelledAs levels t u
  datum_spelled (tree.double bits) levels u g e = (sym (ok_is (tree.double bits) u e), omega arith, g)
  datum_spelled (tree.string x) levels u g e = (sym (ok_is (tree.string x) u e), omega arith, g)
  datum_spelled (tree.document ps) levels u g e =
      within (λ n x. SpelledAs n (tree.document ps) x) tree.document levels (spell_entries (pair_data itself ps)) u e
      (λ n qs q. let h = pairs_spelled ps n qs g q in (ap tree.document h.0, omega (arith, h.1), h.2))
  datum_spelled (tree.array ts) levels u g e =
      within (λ n x. SpelledAs n (tree.array ts) x) tree.array levels (spell_items 0 (tree_data itself ts)) u e
      (λ n us q. let h = trees_spelled ts 0 n us g q in (ap tree.array h.0, omega (arith, h.1), h.2))
  datum_spelled (tree.binary zero b) levels u g e = (sym (binary_is _ _ 0 b u e), omega arith, tt)
  datum_spelled (tree.binary (suc n) b) levels u g e = (sym (binary_is _ _ (suc n) b u (taken (tree.binary (suc n) b) u _ (accepted (tree.binary (suc n) b) g) e)), omega arith, tt)
  datum_spelled tree.undefined levels u g e = (taken_whole tree.undefined u _ (accepted tree.undefined tt) refl e, omega arith, tt)
  datum_spelled (tree.object_id id) levels u g e = (taken_whole (tree.object_id id) u _ (accepted (tree.object_id id) g) refl e, omega arith, g.0)
  datum_spelled (tree.boolean b) levels u g e = (sym (ok_is (tree.boolean b) u e), omega arith, tt)
  datum_spelled (tree.date_time n) levels u g e = (taken_whole (tree.date_time n) u _ (accepted (tree.date_time n) g) refl e, omega arith, g)
  datum_spelled tree.null levels u g e = (sym (ok_is tree.null u e), omega arith, tt)
  datum_spelled (tree.regular_expression p q) levels u g e = let h = expression_spelled p q u e in (h.0 ∙ ap (tree.regular_expression p) g.2, omega arith, ((g.0, h.1), (g.1, h.2)))
  datum_spelled (tree.db_pointer namespace id) levels u g e = (taken_whole (tree.db_pointer namespace id) u _ (accepted (tree.db_pointer namespace id) (g.1, g.2)) refl e, omega arith, (g.0, g.1))
  datum_spelled (tree.javascript_code x) levels u g e = (taken_whole (tree.javascript_code x) u _ (accepted (tree.javascript_code x) tt) refl e, omega arith, g)
  datum_spelled (tree.symbol x) levels u g e = (taken_whole (tree.symbol x) u _ (accepted (tree.symbol x) tt) refl e, omega arith, g)
  datum_spelled (tree.javascript_code_with_scope code scope) levels u g e =
      let parts = spell_entries (pair_data itself scope) in
      let t = tree.javascript_code_with_scope code scope in
      let m = map_ok (with_scope code) (under (codes "$scope") (enclosed_at tree.document levels parts)) u e in
      subst (SpelledAs levels t) m.2
      (within (λ n x. SpelledAs n t (with_scope code x)) tree.document levels parts m.0 (under_ok (codes "$scope") (enclosed_at tree.document levels parts) m.0 m.1)
      (λ n qs q. let h = pairs_spelled scope n qs g.1 q in (ap (tree.javascript_code_with_scope code) h.0, omega (arith, h.1), (g.0, h.2))))
  datum_spelled (tree.int32 n) levels u g e = (sym (ok_is (tree.int32 n) u e), omega arith, g)
  datum_spelled (tree.timestamp time increment) levels u g e = (taken_whole (tree.timestamp time increment) u _ (accepted (tree.timestamp time increment) g) refl e, omega arith, g)
  datum_spelled (tree.int64 n) levels u g e = (sym (wide_is _ _ n u e), omega arith, g)
  datum_spelled (tree.decimal128 b) levels u g e = (taken_whole (tree.decimal128 b) u _ (accepted (tree.decimal128 b) g) refl e, omega arith, g)
  datum_spelled tree.max_key levels u g e = (taken_whole tree.max_key u _ (accepted tree.max_key tt) refl e, omega arith, tt)
  datum_spelled tree.min_key levels u g e = (taken_whole tree.min_key u _ (accepted tree.min_key tt) refl e, omega arith, tt)
  datum_spelled (tree.raw k b) levels u g e = absurd g

  pairs_spelled : (ps : Pairs) (n : ℕ) (qs : Pairs) → ArePairsGiven ps → spell_entries (pair_data itself ps) n ≡ Ok qs → (qs ≡ ps) × (pairs_depth ps ≤ n) × ArePairsCoded ps
  pairs_spelled no_pairs n qs g e = (sym (ok_is no_pairs qs e), omega arith, tt)
  pairs_spelled (pair key t ps) n qs g e =
      let es = pair_data itself ps in
      let a = bind_ok (spell_key (value.str key)) (λ k. under k (spell (datum itself t) n) >>= λ x. spell_entries es n >>= λ xs. Ok (pair k x xs)) qs e in
      let b = bind_ok (under a.0 (spell (datum itself t) n)) (λ x. spell_entries es n >>= λ xs. Ok (pair a.0 x xs)) qs a.2 in
      let c = bind_ok (spell_entries es n) (λ xs. Ok (pair a.0 b.0 xs)) qs b.2 in
      let is : key ≡ a.0 = some_is key a.0 (spell_key_ok (value.str key) a.0 a.1).0 in
      let first = datum_spelled t n b.0 g.3 (under_ok a.0 (spell (datum itself t) n) b.0 b.1) in
      let rest = pairs_spelled ps n c.0 g.4 c.1 in
      (sym (ok_is (pair a.0 b.0 c.0) qs c.2) ∙ (λ i. pair (sym is i) (first.0 i) (rest.0 i)), omega (arith, first.1, rest.1), (g.0, first.2, rest.2))

  trees_spelled : (ts : Trees) (i n : ℕ) (us : Trees) → AreTreesGiven ts → spell_items i (tree_data itself ts) n ≡ Ok us → (us ≡ ts) × (trees_depth ts ≤ n) × AreTreesCoded ts
  trees_spelled no_trees i n us g e = (sym (ok_is no_trees us e), omega arith, tt)
  trees_spelled (tree.tree t ts) i n us g e =
      let vs = tree_data itself ts in
      let a = bind_ok (under_index i (spell (datum itself t) n)) (λ x. spell_items (suc i) vs n >>= λ xs. Ok (tree.tree x xs)) us e in
      let b = bind_ok (spell_items (suc i) vs n) (λ xs. Ok (tree.tree a.0 xs)) us a.2 in
      let first = datum_spelled t n a.0 g.0 (inside_ok (at_index i) (spell (datum itself t) n) a.0 a.1) in
      let rest = trees_spelled ts (suc i) n b.0 g.1 b.1 in
      (sym (ok_is (tree.tree a.0 b.0) us b.2) ∙ (λ j. tree.tree (first.0 j) (rest.0 j)), omega (arith, first.1, rest.1), (first.2, rest.2))

-- ---- what is read again

-- a tree that is given is read as itself
pub reads_itself : (at : Sight) (t : Tree) (levels : ℕ) → IsGivenTree t → depth t ≤ levels → (judged (tree_node at t levels) >>= λ _. as_tree (tree_node at t levels)) ≡ Ok t
reads_itself at t levels g d =
    ap (λ r. r >>= λ _. as_tree (tree_node at t levels)) (judged_readable at t levels (given_readable t g) d) ∙ tree_again at t levels (given_readable t g) d ∙ ap Ok (given_sorted t g)

-- what is given at the leaf and spelled is read again there, as what is spelled as the same
abbrev pub Comes : (at : Sight) → ExtendedLeaf → ℕ → Tree → Type 0
Comes at k levels t = (m : Marked) × ((judged (tree_node at t levels) >>= λ _. read_extended k (tree_node at t levels)) ≡ Ok m) × (spell (contents m) levels ≡ Ok t) × IsCoded t

of_judged : {A : Type 0} (r : Reading A) (s : Reading Tree) (f : Reading Tree → Reading Marked) (t : Tree) (m : Marked) → (r >>= λ _. s) ≡ Ok t → (s ≡ Ok t → f s ≡ Ok m) → (r >>= λ _. f s) ≡ Ok m
of_judged (Ok x) s f t m e h = h e
of_judged (Err d) s f t m e h = absurd cc

-- the tree is the one whose value was spelled
spelled_same : (P : ℕ → Tree → Type 0) (t u : Tree) (v : Value) (levels : ℕ) → IsGivenTree t → v ≡ datum itself t → spell v levels ≡ Ok u → (depth t ≤ levels → IsCoded t → spell (contents (datum made t)) levels ≡ Ok t → P levels t) → P levels u
spelled_same P t u v levels g is e f =
    let q : spell (datum itself t) levels ≡ Ok u = ap (λ x. spell x levels) (sym is) ∙ e in
    let h = datum_spelled t levels u g q in
    subst (P levels) (sym h.0) (f h.1 h.2 (ap (λ x. spell x levels) (datum_contents t) ∙ q ∙ ap Ok h.0))

uuid_kept : (at : Sight) (b : Bytes) → length b ≡ 16 → read_extended uuids (tree_node at (tree.binary 4 b) 0) ≡ Ok (uuid_datum made b)
uuid_kept at b h = ap (λ n. result_map (uuid_datum made) (cond (nat_eq n 16) (Ok b) (refused (invalid_length n)))) h

kind_kept : (k : ElementType) (t : Tree) → nat_eq (byte (kind t)) (byte k) ≡ true → tree_of_kind k t ≡ Ok t
kind_kept k t e = ap (λ b. cond b (Ok t) (refused (wrong_kind (kind t)))) e

pub extended_comes : (at : Sight) (k : ExtendedLeaf) (v : Value) (levels : ℕ) (t : Tree) → IsGivenExtended k v → spell v levels ≡ Ok t → Comes at k levels t
extended_comes at object_ids v levels t g e =
    spelled_same (Comes at object_ids) (tree.object_id g.0) t v levels g.1 g.2 e (λ d c s. (datum made (tree.object_id g.0), refl, s, c))
extended_comes at uuids v levels t g e =
    let q : spell (uuid_datum itself g.0) levels ≡ Ok t = ap (λ x. spell x levels) (sym g.2) ∙ e in
    let is : t ≡ tree.binary 4 g.0 = sym (binary_is _ _ 4 g.0 t q) in
    subst (λ u. spell (uuid_datum itself g.0) levels ≡ Ok u → Comes at uuids levels u) (sym is) (λ r. (uuid_datum made g.0, uuid_kept at g.0 g.1, r, tt)) q
extended_comes at (of_kind k) v levels t g e =
    spelled_same (Comes at (of_kind k)) g.0 t v levels g.2 g.3 e
    (λ d c s. (
      datum made g.0,
      of_judged (judged (tree_node at g.0 levels)) (as_tree (tree_node at g.0 levels)) (λ r. result_map (datum made) (r >>= tree_of_kind k)) g.0 (datum made g.0) (reads_itself at g.0 levels g.2 d)
          (λ q. ap (λ r. result_map (datum made) (r >>= tree_of_kind k)) q ∙ ap (result_map (datum made)) (kind_kept k g.0 g.1)),
      s,
      c,
    ))
extended_comes at leaf_kinds.trees v levels t g e =
    spelled_same (Comes at leaf_kinds.trees) g.0 t v levels g.1 g.2 e
    (λ d c s. (
      datum made g.0,
      of_judged (judged (tree_node at g.0 levels)) (as_tree (tree_node at g.0 levels)) (result_map (datum made)) g.0 (datum made g.0) (reads_itself at g.0 levels g.1 d) (λ q. ap (result_map (datum made)) q),
      s,
      c,
    ))
extended_comes at documents v levels t g e =
    let u = tree.document g.0 in
    spelled_same (Comes at documents) u t v levels g.1 g.2 e
    (λ d c s. (
      datum made u,
      of_judged (judged (tree_node at u levels)) (as_tree (tree_node at u levels)) (λ r. result_map (λ ps. datum made (tree.document ps)) (r >>= pairs_in)) u (datum made u) (reads_itself at u levels g.1 d)
          (λ q. ap (λ r. result_map (λ ps. datum made (tree.document ps)) (r >>= pairs_in)) q),
      s,
      c,
    ))
