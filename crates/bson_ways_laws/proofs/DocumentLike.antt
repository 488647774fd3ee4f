-- The tree of the document of some bytes is read as the bytes are.
use Rattle.std.proofs.Common.{◌≡◌, ℕ, zero, suc, Bool, true, false, cond, Some, None, Result, Ok, refl, ap, sym, subst, ◌∙◌}
use Rattle.std.specs.Prelude.{option_map}
use Rattle.std.specs.Str.{is_utf8}
use Rattle.bson_kinds.specs.Outcome.{◌>>=◌}
use Rattle.bson_base.specs.Pairs.{put}
use Rattle.bson_base.specs.Sorted.{sorted}
use Rattle.bson_kinds.specs.Text.{Bytes, Utf8}
use Rattle.bson_base.specs.Tree as tree
use Rattle.bson_base.specs.Tree.{Tree, Pairs, no_pairs, pair, Trees, no_trees}
use Rattle.bson_kinds.specs.declared.element_type.ElementType.{ElementType}
use Rattle.bson_kinds.specs.declared.element_type.ElementType.TheVariants as kinds
use Rattle.bson_kinds.proofs.Outcomes.{ok_is, some_is, some_map, some_then, map_ok, bind_ok}
use Rattle.bson_rawdoc.specs.DocumentTree.{and_last, pairs_with, trees_with, pairs_at, trees_at, tree_at}
use Rattle.bson_rawdoc.specs.Envelope.{is_closed}
use Rattle.bson_rawdoc.specs.Node as node
use Rattle.bson_rawdoc.specs.Node.{Node, of_bytes, text_fault, fault, opens, nodes_with, node_in, inner_node, value_node, from_memory, tree_node, pair_nodes, tree_nodes}
use Rattle.bson_kinds.specs.Piece.{borrowed}
use Rattle.bson_rawdoc.specs.RawValue as raw
use Rattle.bson_rawdoc.specs.RawValue.{RawValue, value_in}
use Rattle.bson_rawdoc.specs.Walk.{Walk, ended, faulty, then_walk, walk}
use Rattle.bson_faults.specs.declared.raw.Error.{Error}
use Rattle.bson_faults.specs.declared.raw.Error.TheVariants.{ValueUnclosed}
use Rattle.bson_rawdoc.proofs.Nodes.{Sees, element_seen}
use Rattle.bson_laws.specs.Unmarked.{with_document, unmarked, unmarked_pairs, unmarked_trees}
use Rattle.bson_laws.proofs.JudgedTexts.{neither_fault, unfaulted}
use Rattle.bson_laws.proofs.ParsedSizes.{sorted_twice}
use Rattle.bson_tree_laws.specs.Alike.{HasFreeKeys, PairsHaveFreeKeys, TreesHaveFreeKeys}
use Rattle.bson_tree_laws.proofs.Puts.{after, after_none, after_one, put_new, AreApart, apart_after, apart_none}
use Rattle.bson_ways_laws.proofs.Likes.{AreCommon, Like, NodesLike, ItemsLike, never}
use Rattle.bson_kinds.proofs.Apart.{no_some}

-- ---- a value and its tree

abbrev made_as : Tree → Result Tree Error
made_as t = Ok t

-- the tree that the value is made into is read as the value is; no key in the value begins with `$`, and none is repeated in its document
abbrev MadeLike : ℕ → RawValue → Type 0
MadeLike levels v = (t u : Tree) → tree_at levels v ≡ Ok u → unmarked (value_node (inner_node levels) v) ≡ Some t → HasFreeKeys t → fault (value_node (inner_node levels) v) ≡ None
    → Like (value_node (inner_node levels) v) (tree_node from_memory u levels)

-- the same for the value of a kind in its bytes
abbrev pub ElementLike : ℕ → ElementType → Bytes → Type 0
ElementLike levels k b = (t u : Tree) → (value_in k b >>= tree_at levels) ≡ Ok u → unmarked (node_in levels k b) ≡ Some t → HasFreeKeys t → Like (node_in levels k b) (tree_node from_memory u levels)

-- the same for documents, and for arrays
abbrev DocumentMade : ℕ → Bytes → Type 0
DocumentMade levels b = (t : Tree) (ps : Pairs) → pairs_at levels b ≡ Ok ps → unmarked (inner_node levels kinds.EmbeddedDocument b) ≡ Some t → HasFreeKeys t
    → Like (inner_node levels kinds.EmbeddedDocument b) (tree_node from_memory (tree.document ps) levels)

abbrev ArrayMade : ℕ → Bytes → Type 0
ArrayMade levels b = (t : Tree) (ts : Trees) → trees_at levels b ≡ Ok ts → unmarked (inner_node levels kinds.Array b) ≡ Some t → HasFreeKeys t
    → Like (inner_node levels kinds.Array b) (tree_node from_memory (tree.array ts) levels)

-- the tree is this one
this : (levels : ℕ) (n : Node) (x u : Tree) → x ≡ u → Like n (tree_node from_memory x levels) → Like n (tree_node from_memory u levels)
this levels n x u is h = subst (λ z. Like n (tree_node from_memory z levels)) is h

leaf : (levels : ℕ) (n : Node) (x u : Tree) → made_as x ≡ made_as u → Like n (tree_node from_memory x levels) → Like n (tree_node from_memory u levels)
leaf levels n x u e h = this levels n x u (ok_is x u e) h

binary_made : (levels : ℕ) (s : ℕ) (b : Bytes) (u : Tree) → made_as (tree.binary s b) ≡ made_as u → Like (node.binary_node false s (borrowed b)) (tree_node from_memory u levels)
binary_made levels zero b u e = leaf levels (node.bytes false (borrowed b)) (tree.binary 0 b) u e refl
binary_made levels (suc n) b u e = leaf levels (opens (node.binary (suc n) (borrowed b))) (tree.binary (suc n) b) u e ((refl, refl), (refl, λ c. never c, tt), refl)

-- code with a scope, whose scope is a document
scope_made : (levels : ℕ) (code : Utf8) (n : Node) (s t u : Tree) (ps : Pairs) → with_document code s ≡ Some t → HasFreeKeys t → is_utf8 code ≡ true → tree.javascript_code_with_scope code ps ≡ u
    → (HasFreeKeys s → Like n (tree_node from_memory (tree.document ps) levels)) → Like (opens (node.javascript_code_with_scope (borrowed code) n)) (tree_node from_memory u levels)
scope_made levels code n (tree.document qs) t u ps d f w is inner =
    let free : HasFreeKeys (tree.document qs) = subst HasFreeKeys (sym (some_is (tree.javascript_code_with_scope code qs) t d)) f in
    this levels (opens (node.javascript_code_with_scope (borrowed code) n)) (tree.javascript_code_with_scope code ps) u is
    (((refl, w), inner free), (refl, λ c. never c, (refl, λ c. never c, tt)), refl)
scope_made levels code n s t u ps d f w is inner = absurd cc

module _ (levels : ℕ) (documents : (b : Bytes) → DocumentMade levels b) (arrays : (b : Bytes) → ArrayMade levels b) where
  value_made : (v : RawValue) → MadeLike levels v
  value_made (raw.double b) t u e d f o = leaf levels (node.double b) (tree.double b) u e refl
  value_made (raw.string x) t u e d f o = leaf levels (node.string (borrowed x)) (tree.string x) u e (refl, unfaulted (borrowed x) o)
  value_made (raw.document b) t u e d f o =
      let m = map_ok tree.document (pairs_at levels b) u e in this levels (inner_node levels kinds.EmbeddedDocument b) (tree.document m.0) u m.2 (documents b t m.0 m.1 d f)
  value_made (raw.array b) t u e d f o =
      let m = map_ok tree.array (trees_at levels b) u e in this levels (inner_node levels kinds.Array b) (tree.array m.0) u m.2 (arrays b t m.0 m.1 d f)
  value_made (raw.binary s b) t u e d f o = binary_made levels s b u e
  value_made raw.undefined t u e d f o = leaf levels (opens node.undefined) tree.undefined u e (tt, (refl, λ c. never c, tt), refl)
  value_made (raw.object_id id) t u e d f o = leaf levels (opens (node.object_id (borrowed id))) (tree.object_id id) u e (refl, (refl, λ c. never c, tt), refl)
  value_made (raw.boolean b) t u e d f o = leaf levels (node.boolean b) (tree.boolean b) u e refl
  value_made (raw.date_time n) t u e d f o = leaf levels (opens (node.date_time n)) (tree.date_time n) u e (refl, (refl, λ c. never c, tt), refl)
  value_made raw.null t u e d f o = leaf levels node.null tree.null u e tt
  value_made (raw.regular_expression p q) t u e d f o =
      let w = neither_fault (text_fault (borrowed p)) (text_fault (borrowed q)) o in
      let text = unfaulted (borrowed q) w.1 in
      leaf levels (opens (node.regular_expression (borrowed p) (borrowed q))) (tree.regular_expression p (sorted q)) u e
      (((refl, unfaulted (borrowed p) w.0), sym (sorted_twice q text), text), (refl, λ c. never c, tt), refl)
  value_made (raw.db_pointer x id) t u e d f o =
      leaf levels (opens (node.db_pointer (borrowed x) id)) (tree.db_pointer x id) u e (((refl, unfaulted (borrowed x) o), refl), (refl, λ c. never c, tt), refl)
  value_made (raw.javascript_code x) t u e d f o = leaf levels (opens (node.javascript_code (borrowed x))) (tree.javascript_code x) u e ((refl, unfaulted (borrowed x) o), (refl, λ c. never c, tt), refl)
  value_made (raw.symbol x) t u e d f o = leaf levels (opens (node.symbol (borrowed x))) (tree.symbol x) u e ((refl, unfaulted (borrowed x) o), (refl, λ c. never c, tt), refl)
  value_made (raw.javascript_code_with_scope code b) t u e d f o =
      let n = inner_node levels kinds.EmbeddedDocument b in
      let m = map_ok (tree.javascript_code_with_scope code) (pairs_at levels b) u e in
      let s = some_then (with_document code) (unmarked n) t d in
      let w = unfaulted (borrowed code) (neither_fault (text_fault (borrowed code)) (fault n) o).0 in
      scope_made levels code n s.0 t u m.0 s.2 f w m.2 (λ free. documents b s.0 m.0 m.1 s.1 free)
  value_made (raw.int32 n) t u e d f o = leaf levels (node.int32 n) (tree.int32 n) u e refl
  value_made (raw.timestamp x y) t u e d f o = leaf levels (opens (node.timestamp x y)) (tree.timestamp x y) u e ((refl, refl), (refl, λ c. never c, tt), refl)
  value_made (raw.int64 n) t u e d f o = leaf levels (node.int64 n) (tree.int64 n) u e refl
  value_made (raw.decimal128 b) t u e d f o = leaf levels (opens (node.decimal128 (borrowed b))) (tree.decimal128 b) u e (refl, (refl, λ c. never c, tt), refl)
  value_made raw.max_key t u e d f o = leaf levels (opens node.max_key) tree.max_key u e (tt, (refl, λ c. never c, tt), refl)
  value_made raw.min_key t u e d f o = leaf levels (opens node.min_key) tree.min_key u e (tt, (refl, λ c. never c, tt), refl)

  -- what an element's value is, is its node
  element_made : (k : ElementType) (b : Bytes) → ElementLike levels k b
  element_made k b t u e d f =
      let m = bind_ok (value_in k b) (tree_at levels) u e in
      let seen : Sees (value_node (inner_node levels)) (Ok m.0) (node_in levels k b) = subst (λ r. Sees (value_node (inner_node levels)) r (node_in levels k b)) m.1 (element_seen levels k b) in
      subst (λ n. Like n (tree_node from_memory u levels)) (sym seen.0)
      (value_made m.0 t u m.2 (ap unmarked (sym seen.0) ∙ d) f (ap fault (sym seen.0) ∙ seen.1))

-- ---- documents and arrays

-- some trees, and others behind them
abbrev glued : (done new : Trees) → Trees
glued no_trees us = us
glued (tree.tree t ts) us = tree.tree t (glued ts us)

glued_none : (ts : Trees) → glued ts no_trees ≡ ts
glued_none no_trees = refl
glued_none (tree.tree t ts) = ap (tree.tree t) (glued_none ts)

glued_last : (ts us : Trees) (t : Tree) → glued (and_last ts t) us ≡ glued ts (tree.tree t us)
glued_last no_trees us t = refl
glued_last (tree.tree x ts) us t = ap (tree.tree x) (glued_last ts us t)

-- what the elements of a document come to behind those before them
record PairsMade (levels : ℕ) (w : Walk) (done ps : Pairs) : Type 0 where
  pub pairs : Pairs
  pub are : ps ≡ after done pairs
  pub common : AreCommon (nodes_with (node_in levels) w)
  pub like : NodesLike (nodes_with (node_in levels) w) (pair_nodes from_memory pairs levels)

-- what the elements of an array come to, the first of which has this index
record TreesMade (levels i : ℕ) (w : Walk) (done ts : Trees) : Type 0 where
  pub trees : Trees
  pub are : ts ≡ glued done trees
  pub like : ItemsLike (nodes_with (node_in levels) w) (tree_nodes from_memory i trees levels)

module _ (levels : ℕ) (each : (k : ElementType) (b : Bytes) → ElementLike levels k b) where
  pairs_made : (w : Walk) (done ps qs : Pairs) → pairs_with (tree_at levels) done w ≡ Ok ps → unmarked_pairs (nodes_with (node_in levels) w) ≡ Some qs → PairsHaveFreeKeys qs → AreApart done qs → PairsMade levels w done ps
  pairs_made ended done ps qs e d f a = record { pairs = no_pairs; are = sym (ok_is done ps e) ∙ sym (after_none done); common = tt; like = tt }
  pairs_made (faulty x) done ps qs e d f a = absurd cc
  pairs_made (then_walk x w) done ps qs e d f a =
      let n = node_in levels x.kind x.value in
      let m = bind_ok (value_in x.kind x.value >>= tree_at levels) (λ t. pairs_with (tree_at levels) (put x.key t done) w) ps e in
      let t = some_then (λ t. option_map (pair x.key t) (unmarked_pairs (nodes_with (node_in levels) w))) (unmarked n) qs d in
      let r = some_map (pair x.key t.0) (unmarked_pairs (nodes_with (node_in levels) w)) qs t.2 in
      let g : PairsHaveFreeKeys (pair x.key t.0 r.0) = subst PairsHaveFreeKeys (sym r.2) f in
      let b : AreApart done (pair x.key t.0 r.0) = subst (AreApart done) (sym r.2) a in
      let last = put_new x.key m.0 done b.0 in
      let next = pairs_made w (put x.key m.0 done) ps r.0 m.2 r.1 g.3 (subst (λ p. AreApart p r.0) (sym last) (apart_after x.key m.0 done r.0 b.1 g.1)) in
      record {
        pairs = pair x.key m.0 next.pairs;
        are = next.are ∙ ap (λ p. after p next.pairs) last ∙ after_one x.key m.0 done next.pairs;
        common = (g.0, next.common);
        like = (refl, λ _. each x.kind x.value t.0 m.0 m.1 t.1 g.2, next.like);
      }

  trees_made : (i : ℕ) (w : Walk) (done ts us : Trees) → trees_with (tree_at levels) done w ≡ Ok ts → unmarked_trees (nodes_with (node_in levels) w) ≡ Some us → TreesHaveFreeKeys us → TreesMade levels i w done ts
  trees_made i ended done ts us e d f = record { trees = no_trees; are = sym (ok_is done ts e) ∙ sym (glued_none done); like = tt }
  trees_made i (faulty x) done ts us e d f = absurd cc
  trees_made i (then_walk x w) done ts us e d f =
      let n = node_in levels x.kind x.value in
      let m = bind_ok (value_in x.kind x.value >>= tree_at levels) (λ t. trees_with (tree_at levels) (and_last done t) w) ts e in
      let t = some_then (λ t. option_map (tree.tree t) (unmarked_trees (nodes_with (node_in levels) w))) (unmarked n) us d in
      let r = some_map (tree.tree t.0) (unmarked_trees (nodes_with (node_in levels) w)) us t.2 in
      let g : TreesHaveFreeKeys (tree.tree t.0 r.0) = subst TreesHaveFreeKeys (sym r.2) f in
      let next = trees_made (suc i) w (and_last done m.0) ts r.0 m.2 r.1 g.1 in
      record { trees = tree.tree m.0 next.trees; are = next.are ∙ glued_last done next.trees m.0; like = (each x.kind x.value t.0 m.0 m.1 t.1 g.0, next.like) }

  document_made : (b : Bytes) → DocumentMade (suc levels) b
  document_made b t ps e d f =
      let ns = nodes_with (node_in levels) (walk b) in
      let m = some_map tree.document (unmarked_pairs ns) t d in
      let r = pairs_made (walk b) no_pairs ps m.0 e m.1 (subst HasFreeKeys (sym m.2) f) (apart_none m.0) in
      subst (λ qs. Like (node.document (of_bytes b) ns) (tree_node from_memory (tree.document qs) (suc levels))) (sym r.are) (r.common, r.like)

  array_made : (b : Bytes) → ArrayMade (suc levels) b
  array_made b t ts e d f =
      let ns = nodes_with (node_in levels) (walk b) in
      let m = some_map tree.array (unmarked_trees ns) t d in
      let r = trees_made 0 (walk b) no_trees ts m.0 e m.1 (subst HasFreeKeys (sym m.2) f) in
      subst (λ us. Like (node.array (of_bytes b) ns) (tree_node from_memory (tree.array us) (suc levels))) (sym r.are) r.like

elements_like : (levels : ℕ) (k : ElementType) (b : Bytes) → ElementLike levels k b
elements_like zero = element_made zero (λ b t ps e d f. absurd cc) (λ b t ts e d f. absurd cc)
elements_like (suc n) = element_made (suc n) (document_made n (elements_like n)) (array_made n (elements_like n))

-- ---- whole documents

-- the document of some bytes, of which no document repeats a key and no key begins with `$`, is read as the bytes are
pub bytes_like : (levels : ℕ) (b : Bytes) (t : Tree) (ps : Pairs) → pairs_at levels b ≡ Ok ps → unmarked (node_in levels kinds.EmbeddedDocument b) ≡ Some t → HasFreeKeys t
    → Like (node_in levels kinds.EmbeddedDocument b) (tree_node from_memory (tree.document ps) levels)
bytes_like zero b t ps e d f = absurd cc
bytes_like (suc n) b t ps e d f = by_case (is_closed b) d where
  by_case : (c : Bool) → unmarked (cond c (inner_node (suc n) kinds.EmbeddedDocument b) (node.broken kinds.EmbeddedDocument ValueUnclosed)) ≡ Some t
      → Like (cond c (inner_node (suc n) kinds.EmbeddedDocument b) (node.broken kinds.EmbeddedDocument ValueUnclosed)) (tree_node from_memory (tree.document ps) (suc n))
  by_case true h = document_made n (elements_like n) b t ps e h f
  by_case false h = absurd (no_some h)
