-- A tree as a reader meets it is, without its marks, the tree; and the two tables of opened documents agree.
use Rattle.std.proofs.Common.{◌≡◌, ℕ, zero, suc, [], ◌∷◌, ◌≤◌, cond, Some, refl, ap, sym, subst, ◌∙◌, arith}
use Rattle.std.specs.Prelude.{codes, option_map, option_and_then}
use Rattle.std.proofs.Math.Dec.{eqb-suc-zero}
use Rattle.bson_base.specs.Made.{digits, base64_text}
use Rattle.bson_base.specs.Opened as for_trees
use Rattle.bson_base.specs.Opened.{IsExtended}
use Rattle.bson_kinds.specs.Text.{Bytes}
use Rattle.bson_base.specs.Tree as tree
use Rattle.bson_base.specs.Tree.{Tree, Pairs, no_pairs, pair, Trees, no_trees, depth, pairs_depth, trees_depth}
use Rattle.bson_kinds.proofs.Outcomes.{some_is, some_then}
use Rattle.bson_rawdoc.specs.Node as for_nodes
use Rattle.bson_rawdoc.specs.Node.{Node, Extended, binary, undefined, object_id, date_time, regular_expression, db_pointer, javascript_code, symbol, javascript_code_with_scope, timestamp, decimal128, max_key, min_key, Sight, tree_node, pair_nodes, tree_nodes}
use Rattle.bson_kinds.specs.Piece.{Piece, made}
use Rattle.bson_laws.specs.RawFree.{IsRawFree, ArePairsRawFree, AreTreesRawFree}
use Rattle.bson_laws.specs.Unmarked.{with_document, unmarked, unmarked_pairs, unmarked_trees, AreOpenedAlike}
use Rattle.bson_kinds.proofs.Apart.{no_some}

-- ---- trees

mutual
  pub tree_unmarked : (at : Sight) (t : Tree) (levels : ℕ) → IsRawFree t → depth t ≤ levels → unmarked (tree_node at t levels) ≡ Some t
  tree_unmarked at (tree.document ps) zero f d = absurd (omega arith)
  tree_unmarked at (tree.document ps) (suc n) f d = ap (option_map tree.document) (pairs_unmarked at ps n f (omega arith))
  tree_unmarked at (tree.array ts) zero f d = absurd (omega arith)
  tree_unmarked at (tree.array ts) (suc n) f d = ap (option_map tree.array) (trees_unmarked at ts 0 n f (omega arith))
  tree_unmarked at (tree.binary zero b) levels f d = refl
  tree_unmarked at (tree.binary (suc k) b) levels f d = refl
  tree_unmarked at (tree.javascript_code_with_scope code scope) zero f d = absurd (omega arith)
  tree_unmarked at (tree.javascript_code_with_scope code scope) (suc n) f d =
      ap (λ o. option_and_then (with_document code) (option_map tree.document o)) (pairs_unmarked at scope n f (omega arith))
  tree_unmarked at (tree.raw k b) levels f d = absurd f
  tree_unmarked at t levels f d = refl

  pairs_unmarked : (at : Sight) (ps : Pairs) (n : ℕ) → ArePairsRawFree ps → pairs_depth ps ≤ n → unmarked_pairs (pair_nodes at ps n) ≡ Some ps
  pairs_unmarked at no_pairs n f d = refl
  pairs_unmarked at (pair key t ps) n f d =
      λ i. option_and_then (λ u. option_map (pair key u) (pairs_unmarked at ps n f.1 (omega arith) i)) (tree_unmarked at t n f.0 (omega arith) i)

  trees_unmarked : (at : Sight) (ts : Trees) (j n : ℕ) → AreTreesRawFree ts → trees_depth ts ≤ n → unmarked_trees (tree_nodes at j ts n) ≡ Some ts
  trees_unmarked at no_trees j n f d = refl
  trees_unmarked at (tree.tree t ts) j n f d =
      λ i. option_and_then (λ u. option_map (tree.tree u) (trees_unmarked at ts (suc j) n f.1 (omega arith) i)) (tree_unmarked at t n f.0 (omega arith) i)

-- ---- opened documents

-- of the value that the tree is
same_tree : (x : Extended) (u t : Tree) → unmarked_pairs (for_nodes.opened x) ≡ Some (for_trees.opened u) → Some u ≡ Some t → unmarked_pairs (for_nodes.opened x) ≡ Some (for_trees.opened t)
same_tree x u t h e = h ∙ ap (λ v. Some (for_trees.opened v)) (some_is u t e)

-- a binary of another subtype than 0
binary_alike : (n : ℕ) (b : Bytes) → unmarked_pairs (for_nodes.opened (binary (suc n) (made b))) ≡ Some (for_trees.opened (tree.binary (suc n) b))
binary_alike n b =
    ap
    (λ of_zero. Some (cond of_zero no_pairs (for_trees.one (codes "$binary") (tree.document (for_trees.two (codes "subType") (tree.string (digits (suc n ∷ []))) (codes "base64") (tree.string (base64_text b)))))))
    (sym (eqb-suc-zero n))

-- a scope that is a document
scope_alike : (code : Piece) (scope : Node) (s t : Tree) → unmarked scope ≡ Some s → with_document code.bytes s ≡ Some t
    → unmarked_pairs (for_nodes.opened (javascript_code_with_scope code scope)) ≡ Some (for_trees.opened t)
scope_alike code scope (tree.document ps) t is e =
    same_tree (javascript_code_with_scope code scope) (tree.javascript_code_with_scope code.bytes ps) t
    (ap (λ o. option_map (pair (codes "$code") (tree.string code.bytes)) (option_and_then (λ u. option_map (pair (codes "$scope") u) (Some no_pairs)) o)) is) e
scope_alike code scope s t is e = absurd (no_some e)

pub opened_alike : AreOpenedAlike
opened_alike (binary zero b) t e extended = absurd (subst IsExtended (sym (some_is (tree.binary 0 b.bytes) t e)) extended refl)
opened_alike (binary (suc n) b) t e extended = same_tree (binary (suc n) b) (tree.binary (suc n) b.bytes) t (binary_alike n b.bytes) e
opened_alike undefined t e extended = same_tree undefined tree.undefined t refl e
opened_alike (object_id id) t e extended = same_tree (object_id id) (tree.object_id id.bytes) t refl e
opened_alike (date_time n) t e extended = same_tree (date_time n) (tree.date_time n) t refl e
opened_alike (regular_expression p q) t e extended = same_tree (regular_expression p q) (tree.regular_expression p.bytes q.bytes) t refl e
opened_alike (db_pointer namespace id) t e extended = same_tree (db_pointer namespace id) (tree.db_pointer namespace.bytes id) t refl e
opened_alike (javascript_code c) t e extended = same_tree (javascript_code c) (tree.javascript_code c.bytes) t refl e
opened_alike (symbol s) t e extended = same_tree (symbol s) (tree.symbol s.bytes) t refl e
opened_alike (javascript_code_with_scope code scope) t e extended = let s = some_then (with_document code.bytes) (unmarked scope) t e in scope_alike code scope s.0 t s.1 s.2
opened_alike (timestamp time increment) t e extended = same_tree (timestamp time increment) (tree.timestamp time increment) t refl e
opened_alike (decimal128 b) t e extended = same_tree (decimal128 b) (tree.decimal128 b.bytes) t refl e
opened_alike max_key t e extended = same_tree max_key tree.max_key t refl e
opened_alike min_key t e extended = same_tree min_key tree.min_key t refl e
