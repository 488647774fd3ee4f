-- No value in bytes or in a finished tree of few levels is deep: a level may be a scope, which is opened to a document around it, and what is opened last has
-- three more.
use Rattle.std.proofs.Common.{ℕ, zero, suc, ◌≤◌, ◌+◌, Bool, true, false, cond, Result, Ok, Err, arith}
use Rattle.std.specs.Prelude.{drop, get_or}
use Rattle.bson_base.specs.Sound.{max_levels}
use Rattle.bson_kinds.specs.Text.{Bytes}
use Rattle.bson_base.specs.Tree as tree
use Rattle.bson_base.specs.Tree.{Tree, Pairs, no_pairs, pair, Trees, no_trees}
use Rattle.bson_kinds.specs.declared.element_type.ElementType.{ElementType}
use Rattle.bson_kinds.specs.declared.element_type.ElementType.TheVariants as kinds
use Rattle.bson_rawdoc.specs.Envelope.{is_closed}
use Rattle.bson_rawdoc.specs.Extent.{two_texts_in}
use Rattle.bson_rawdoc.specs.Node.{Node, string, boolean, broken, too_deep, Nodes, opens, regular_expression, db_pointer, javascript_code, symbol, javascript_code_with_scope, binary_node, mended_if, or_broken, text_bytes, two_bytes, db_pointer_bytes, scoped_bytes, node_with, nodes_with, holding, closed_node, node_in, Whole, of_bytes, Sight, whole_at, one_level, tree_node, pair_nodes, tree_nodes}
use Rattle.bson_rawdoc.specs.Numbers.{int32_in}
use Rattle.bson_kinds.specs.Piece.{Piece, borrowed}
use Rattle.bson_rawdoc.specs.RawValue.{boolean_of, binary_in}
use Rattle.bson_rawdoc.specs.Walk.{Walk, walk}
use Rattle.bson_rawdoc.specs.Walk as walks
use Rattle.bson_faults.specs.declared.raw.Error.{Error}
use Rattle.bson_faults.specs.declared.raw.Error.TheVariants.{ValueUnclosed}
use Rattle.bson_laws.specs.Depths.{height, heights}
use Rattle.bson_laws.specs.Unrolled.{max_steps}
use Rattle.bson_laws.proofs.CutReads.{height_mended}

broken_bound : {A : Type 0} (k : ElementType) (f : A → Node) (r : Result A Error) (d : ℕ) → ((x : A) → height (f x) ≤ d) → height (or_broken k f r) ≤ d
broken_bound k f (Ok x) d h = h x
broken_bound k f (Err e) d h = omega arith

binary_bound : (u : Bool) (subtype : ℕ) (p : Piece) → height (binary_node u subtype p) ≤ 3
binary_bound u zero p = omega arith
binary_bound u (suc n) p = omega arith

with_bound : (container : ElementType → Bytes → Node) (d : ℕ) → ((k : ElementType) (b : Bytes) → height (container k b) ≤ d) → (k : ElementType) (b : Bytes) → 2 ≤ d → height (node_with container k b) ≤ suc d
with_bound f d h kinds.String b l = broken_bound kinds.String string (text_bytes b) (suc d) (λ x. omega arith)
with_bound f d h kinds.EmbeddedDocument b l = let g = h kinds.EmbeddedDocument b in omega arith
with_bound f d h kinds.Array b l = let g = h kinds.Array b in omega arith
with_bound f d h kinds.Binary b l = broken_bound kinds.Binary (λ p. binary_node false p.0 (borrowed p.1)) (binary_in b) (suc d) (λ p. let g = binary_bound false p.0 (borrowed p.1) in omega arith)
with_bound f d h kinds.Boolean b l = broken_bound kinds.Boolean boolean (boolean_of (get_or b 0 0)) (suc d) (λ x. omega arith)
with_bound f d h kinds.RegularExpression b l = broken_bound kinds.RegularExpression (λ p. opens (regular_expression p.0 p.1)) (two_bytes (two_texts_in b)) (suc d) (λ p. omega arith)
with_bound f d h kinds.DbPointer b l = broken_bound kinds.DbPointer (λ p. opens (db_pointer p.0 p.1)) (db_pointer_bytes b) (suc d) (λ p. omega arith)
with_bound f d h kinds.JavaScriptCode b l = broken_bound kinds.JavaScriptCode (λ t. opens (javascript_code t)) (text_bytes b) (suc d) (λ t. omega arith)
with_bound f d h kinds.Symbol b l = broken_bound kinds.Symbol (λ t. opens (symbol t)) (text_bytes b) (suc d) (λ t. omega arith)
with_bound f d h kinds.JavaScriptCodeWithScope b l =
    broken_bound kinds.JavaScriptCodeWithScope (λ p. opens (javascript_code_with_scope p.0 (f kinds.EmbeddedDocument p.1))) (scoped_bytes (int32_in (drop 4 b)) (drop 4 b)) (suc d)
    (λ p. let g = h kinds.EmbeddedDocument p.1 in omega arith)
with_bound f d h k b l = omega arith

closed_bound : (k : ElementType) (b : Bytes) (n : Node) (d : ℕ) → height n ≤ d → height (closed_node k b n) ≤ d
closed_bound k b n d h = by_case (is_closed b) where
  by_case : (c : Bool) → height (cond c n (broken k ValueUnclosed)) ≤ d
  by_case true = h
  by_case false = omega arith

holding_bound : (k : ElementType) (whole : Whole) (ns : Nodes) (d : ℕ) → heights ns ≤ d → height (holding k whole ns) ≤ suc d
holding_bound kinds.EmbeddedDocument whole ns d h = omega arith
holding_bound k whole ns d h = omega arith

nodes_bound : (f : ElementType → Bytes → Node) (d : ℕ) → ((k : ElementType) (b : Bytes) → height (f k b) ≤ d) → (w : Walk) → heights (nodes_with f w) ≤ d
nodes_bound f d h walks.ended = omega arith
nodes_bound f d h (walks.faulty e) = omega arith
nodes_bound f d h (walks.then_walk e w) = let g = h e.kind e.value in let r = nodes_bound f d h w in omega arith

-- the value in bytes
pub in_bound : (levels : ℕ) (k : ElementType) (b : Bytes) → height (node_in levels k b) ≤ levels + levels + 3
in_bound zero k b = with_bound (λ c b. closed_node c b (too_deep c)) 2 (λ c b. closed_bound c b (too_deep c) 2 (omega arith)) k b (omega arith)
in_bound (suc n) k b =
    let d = n + n + 4 in
    let inner = λ (c : ElementType) (x : Bytes). holding_bound c (of_bytes x) (nodes_with (node_in n) (walk x)) (n + n + 3) (nodes_bound (node_in n) (n + n + 3) (λ j y. in_bound n j y) (walk x)) in
    let g : height (node_in (suc n) k b) ≤ suc d = with_bound (λ c x. closed_node c x (holding c (of_bytes x) (nodes_with (node_in n) (walk x)))) d
    (λ c x. closed_bound c x (holding c (of_bytes x) (nodes_with (node_in n) (walk x))) d (let q = inner c x in omega arith)) k b (omega arith) in
    omega arith

mended_bound : (u : Bool) (n : Node) (d : ℕ) → height n ≤ d → height (mended_if u n) ≤ d
mended_bound true n d h = let g = height_mended n in omega arith
mended_bound false n d h = h

-- a level of a finished tree
level_bound : (k : ElementType) (whole : Whole) (ns : ℕ → Nodes) (levels : ℕ) → ((n : ℕ) → heights (ns n) ≤ n + n + 3) → height (one_level k whole ns levels) ≤ levels + levels + 2
level_bound k whole ns zero h = omega arith
level_bound k whole ns (suc n) h = let g = holding_bound k whole (ns n) (n + n + 3) (h n) in omega arith

-- the value that a tree is
mutual
  pub tree_bound : (at : Sight) (t : Tree) (levels : ℕ) → height (tree_node at t levels) ≤ levels + levels + 3
  tree_bound at (tree.document ps) levels =
      let g = level_bound kinds.EmbeddedDocument (whole_at at (tree.document ps)) (pair_nodes at ps) levels (λ n. pairs_bound at ps n) in omega arith
  tree_bound at (tree.array ts) levels =
      let g = level_bound kinds.Array (whole_at at (tree.array ts)) (tree_nodes at 0 ts) levels (λ n. trees_bound at 0 ts n) in omega arith
  tree_bound at (tree.binary zero b) levels = omega arith
  tree_bound at (tree.binary (suc k) b) levels = omega arith
  tree_bound at (tree.javascript_code_with_scope code scope) levels =
      let g = level_bound kinds.EmbeddedDocument (whole_at at (tree.document scope)) (pair_nodes at scope) levels (λ n. pairs_bound at scope n) in omega arith
  tree_bound at (tree.raw k b) levels = mended_bound at.under_mark (node_in levels k b) (levels + levels + 3) (in_bound levels k b)
  tree_bound at t levels = omega arith

  pairs_bound : (at : Sight) (ps : Pairs) (levels : ℕ) → heights (pair_nodes at ps levels) ≤ levels + levels + 3
  pairs_bound at no_pairs levels = omega arith
  pairs_bound at (pair key t ps) levels = let g = tree_bound at t levels in let r = pairs_bound at ps levels in omega arith

  trees_bound : (at : Sight) (i : ℕ) (ts : Trees) (levels : ℕ) → heights (tree_nodes at i ts levels) ≤ levels + levels + 3
  trees_bound at i no_trees levels = omega arith
  trees_bound at i (tree.tree t ts) levels = let g = tree_bound at t levels in let r = trees_bound at (suc i) ts levels in omega arith

-- ---- what is met is less deep than shapes are unrolled

pub bytes_within : (levels : ℕ) (k : ElementType) (b : Bytes) → levels ≤ max_levels → suc (height (node_in levels k b)) ≤ max_steps
unfolding max_steps
bytes_within levels k b l = let g = in_bound levels k b in omega arith

pub tree_within : (at : Sight) (t : Tree) (levels : ℕ) → levels ≤ max_levels → suc (height (tree_node at t levels)) ≤ max_steps
unfolding max_steps
tree_within at t levels l = let g = tree_bound at t levels in omega arith
