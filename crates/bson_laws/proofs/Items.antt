-- The values of an array, one after another, are read back.
use Rattle.std.proofs.Common.{◌≡◌, ℕ, suc, ◌≤◌, Option, Some, refl, ap, ◌∙◌, arith}
use Rattle.std.specs.Prelude.{option_map}
use Rattle.bson_kinds.specs.Outcome.{◌>>=◌, result_map}
use Rattle.bson_base.specs.Sound.{IsClean, AreTreesClean}
use Rattle.bson_base.specs.Tree.{Tree, Trees, no_trees, tree, depth, trees_depth}
use Rattle.bson_kinds.proofs.Outcomes.{some_is, some_map, some_then}
use Rattle.bson_rawdoc.specs.Node.{Sight, Node, tree_node, tree_nodes}
use Rattle.bson_values.specs.Value.{Value, Items, no_items, item}
use Rattle.bson_values.specs.Marked.{Marked, contents, item_contents}
use Rattle.bson_values.specs.Refusal.{under_index}
use Rattle.bson_laws.specs.Judged.{Reading}
use Rattle.bson_laws.specs.Containers.{reads_items}
use Rattle.bson_laws.specs.Views.{views_items}
use Rattle.bson_laws.proofs.Judged.{ReadAs}

-- what a clean tree is in a view is read from it, where so many levels are left for it
abbrev pub ReadsBack : (at : Sight) → (Tree → Option Value) → (Node → Reading Marked) → ℕ → Type 0
ReadsBack at view read levels = (t : Tree) (v : Value) → IsClean t → depth t ≤ levels → view t ≡ Some v → ReadAs contents (read (tree_node at t levels)) v

-- what the values of an array are in a view is read from it, where what each is in the view is
module _ (at : Sight) (view : Tree → Option Value) (read : Node → Reading Marked) (levels : ℕ) (each : ReadsBack at view read levels) where
  pub items_again : (i : ℕ) (ts : Trees) (vs : Items) → AreTreesClean ts → trees_depth ts ≤ levels → views_items view ts ≡ Some vs → ReadAs item_contents (reads_items read i (tree_nodes at i ts levels)) vs
  items_again i no_trees vs c d e = (no_items, refl, some_is no_items vs e)
  items_again i (tree t ts) vs c d e =
      let a = some_then (λ v. option_map (item v) (views_items view ts)) (view t) vs e in
      let b = some_map (item a.0) (views_items view ts) vs a.2 in
      let first = each t a.0 c.0 (omega arith) a.1 in
      let rest = items_again (suc i) ts b.0 c.1 (omega arith) b.1 in (
        item first.0 rest.0,
        ap (λ r. under_index i r >>= λ v. result_map (item v) (reads_items read (suc i) (tree_nodes at (suc i) ts levels))) first.1 ∙ ap (result_map (item first.0)) rest.1,
        (λ j. item (first.2 j) (rest.2 j)) ∙ b.2,
      )
