-- A value that no field takes is walked to its end and dropped.
use Rattle.std.proofs.Common.{◌≡◌, ℕ, zero, suc, ◌≤◌, Ok, refl, ap, ◌∙◌, arith}
use Rattle.bson_kinds.specs.Outcome.{◌>>=◌}
use Rattle.bson_base.specs.Sound.{IsClean, ArePairsClean, AreTreesClean}
use Rattle.bson_base.specs.Tree.{Tree, document, array, binary, javascript_code_with_scope, raw, Pairs, no_pairs, pair, Trees, no_trees, tree, depth, pairs_depth, trees_depth}
use Rattle.bson_rawdoc.specs.Node.{Sight, tree_node, pair_nodes, tree_nodes}
use Rattle.bson_values.specs.Refusal.{under, under_index}
use Rattle.bson_laws.specs.Judged.{at_its_key, at_its_index, scope_key, passes, pass_nodes, ignores}
use Rattle.bson_laws.proofs.Judged.{judged_again}

-- a value is dropped as what is inside it is dropped
dropped : (at : Sight) (t : Tree) (levels : ℕ) → IsClean t → depth t ≤ levels → passes (tree_node at t levels) ≡ Ok tt → ignores (tree_node at t levels) ≡ Ok tt
dropped at t levels c d e = ap (λ r. r >>= λ _. passes (tree_node at t levels)) (judged_again at t levels c d) ∙ e

mutual
  inner_again : (at : Sight) (t : Tree) (levels : ℕ) → IsClean t → depth t ≤ levels → passes (tree_node at t levels) ≡ Ok tt
  inner_again at (document ps) zero c d = absurd (omega arith)
  inner_again at (document ps) (suc n) c d = pairs_again at ps n 0 c (omega arith)
  inner_again at (array ts) zero c d = absurd (omega arith)
  inner_again at (array ts) (suc n) c d = trees_again at ts n 0 c (omega arith)
  inner_again at (binary zero b) levels c d = refl
  inner_again at (binary (suc s) b) levels c d = refl
  inner_again at (javascript_code_with_scope code scope) zero c d = absurd (omega arith)
  inner_again at (javascript_code_with_scope code scope) (suc n) c d = ap (under scope_key) (pairs_again at scope n 0 c.1 (omega arith))
  inner_again at (raw k b) levels c d = absurd c
  inner_again at t levels c d = refl

  pairs_again : (at : Sight) (ps : Pairs) (n i : ℕ) → ArePairsClean ps → pairs_depth ps ≤ n → pass_nodes at_its_key i (pair_nodes at ps n) ≡ Ok tt
  pairs_again at no_pairs n i c d = refl
  pairs_again at (pair k t ps) n i c d =
      ap (λ r. under k r >>= λ _. pass_nodes at_its_key (suc i) (pair_nodes at ps n)) (dropped at t n c.2 (omega arith) (inner_again at t n c.2 (omega arith)))
      ∙ pairs_again at ps n (suc i) c.3 (omega arith)

  trees_again : (at : Sight) (ts : Trees) (n i : ℕ) → AreTreesClean ts → trees_depth ts ≤ n → pass_nodes at_its_index i (tree_nodes at i ts n) ≡ Ok tt
  trees_again at no_trees n i c d = refl
  trees_again at (tree t ts) n i c d =
      ap (λ r. under_index i r >>= λ _. pass_nodes at_its_index (suc i) (tree_nodes at (suc i) ts n)) (dropped at t n c.0 (omega arith) (inner_again at t n c.0 (omega arith)))
      ∙ trees_again at ts n (suc i) c.1 (omega arith)

pub ignores_again : (at : Sight) (t : Tree) (levels : ℕ) → IsClean t → depth t ≤ levels → ignores (tree_node at t levels) ≡ Ok tt
ignores_again at t levels c d = dropped at t levels c d (inner_again at t levels c d)
