-- Recasting the elements of an array one by one.
use Rattle.std.proofs.Common.{◌≡◌, ℕ, suc, ◌++◌, Option, Some, None, Ok, Err, refl, ap, sym, ◌∙◌}
use Rattle.std.specs.Fmt.{decimal}
use Rattle.std.specs.Option.{option_map}
use Rattle.std.proofs.lemmas.List.{append_assoc, append-nil}
use Rattle.bson_kinds.specs.Outcome.{◌>>=◌, result_map}
use Rattle.bson_kinds.specs.Text.{Bytes, Utf8}
use Rattle.bson_base.specs.Tree.{Tree, Trees, no_trees, tree, enc, kind, element, array_elements}
use Rattle.bson_rawdoc.specs.Node.{Node, Nodes, then_node, node_in, nodes_with}
use Rattle.bson_kinds.specs.Piece.{Piece, borrowed}
use Rattle.bson_rawdoc.specs.Walk.{Element, Walk, then_walk}
use Rattle.bson_shape.specs.Form.{Form}
use Rattle.bson_values.specs.Marked.{Marked, MarkedItems, contents, item_contents}
use Rattle.bson_values.specs.Refusal.{under_index}
use Rattle.bson_values.specs.Value.{item}
use Rattle.bson_laws.specs.Containers.{reads_items}
use Rattle.bson_laws.specs.Judged.{Reading}
use Rattle.bson_laws.specs.Spell.{Writing, spell, spell_items}
use Rattle.bson_pass_parts.specs.ReadsUnrolled.{reads}
use Rattle.bson_pass_parts.specs.Put.{of_writing, recast_by, recast_node, recast_items, IsElementPut, AreItemsPut}

spelled_by : (i : ℕ) (w : Writing Tree) (ws : Writing Trees) (t : Tree) → of_writing w ≡ Some t → of_writing (under_index i w >>= λ u. ws >>= λ us. Ok (tree u us)) ≡ option_map (tree t) (of_writing ws)
spelled_by i (Err e) ws t h = absurd cc
spelled_by i (Ok u) (Err e) t h = refl
spelled_by i (Ok u) (Ok us) t h = let same : u ≡ t = cc in ap (λ x. Some (tree x us)) same

pub items_by : (levels i : ℕ) (r : Reading Marked) (rest : Reading MarkedItems) (t : Tree) → recast_by (λ v. spell (contents v) levels) r ≡ Some t
    → recast_by (λ vs. spell_items i (item_contents vs) levels) (under_index i r >>= λ v. result_map (item v) rest) ≡ option_map (tree t) (recast_by (λ vs. spell_items (suc i) (item_contents vs) levels) rest)
items_by levels i (Err e) rest t h = absurd cc
items_by levels i (Ok v) (Err e) t h = refl
items_by levels i (Ok v) (Ok vs) t h = spelled_by i (spell (contents v) levels) (spell_items (suc i) (item_contents vs) levels) t h

-- an element and then the others
pub items_step : (s : Form) (levels i : ℕ) (key : Piece) (n : Node) (ns : Nodes) (t : Tree) → recast_node s levels n ≡ Some t
    → recast_items s levels i (then_node key n ns) ≡ option_map (tree t) (recast_items s levels (suc i) ns)
items_step s levels i key n ns t h = items_by levels i (reads s n) (reads_items (reads s) (suc i) ns) t h

-- What is left of an array, from an index on: with it behind what was made, the whole is made.
abbrev pub AreLeft : (whole left : Option Trees) → (index : ℕ) → (old made : Bytes) → Type 0
AreLeft whole left i old made = (ts : Trees) → left ≡ Some ts → (all : Trees) × (whole ≡ Some all) × (old ++ array_elements 0 all ≡ made ++ array_elements i ts)

pub left_next : (whole left more : Option Trees) (i : ℕ) (old made new : Bytes) (t : Tree) → AreLeft whole left i old made → left ≡ option_map (tree t) more → new ≡ made ++ element (kind t) (decimal i) (enc t)
    → AreLeft whole more (suc i) old new
left_next whole left more i old made new t before step put ts e =
    let all = before (tree t ts) (step ∙ ap (option_map (tree t)) e) in
    (all.0, all.1, all.2 ∙ sym (append_assoc made (element (kind t) (decimal i) (enc t)) (array_elements (suc i) ts)) ∙ ap (λ b. b ++ array_elements (suc i) ts) (sym put))

pub left_none : (whole : Option Trees) (i : ℕ) (old made : Bytes) → AreLeft whole (Some no_trees) i old made → AreItemsPut whole 0 old made
left_none whole i old made h = by_all whole (h no_trees refl) where
  by_all : (o : Option Trees) → (all : Trees) × (o ≡ Some all) × (old ++ array_elements 0 all ≡ made ++ array_elements i no_trees) → AreItemsPut o 0 old made
  by_all None a = absurd cc
  by_all (Some ts) a = let same : ts ≡ a.0 = cc in sym (append-nil made) ∙ sym a.2 ∙ ap (λ x. old ++ array_elements 0 x) (sym same)

-- an element was put
pub item_step : (s : Form) (levels i : ℕ) (old_walk new_walk : Walk) (e : Element) (whole : Option Trees) (key : Utf8) (old made new : Bytes) → old_walk ≡ then_walk e new_walk → key ≡ decimal i
    → AreLeft whole (recast_items s levels i (nodes_with (node_in levels) old_walk)) i old made → IsElementPut (recast_node s levels (node_in levels e.kind e.value)) key made new
    → AreLeft whole (recast_items s levels (suc i) (nodes_with (node_in levels) new_walk)) (suc i) old new
item_step s levels i old_walk new_walk e whole key old made new step index before h = by_tree (recast_node s levels (node_in levels e.kind e.value)) refl h where
  by_tree : (o : Option Tree) → recast_node s levels (node_in levels e.kind e.value) ≡ o → IsElementPut o key made new → AreLeft whole (recast_items s levels (suc i) (nodes_with (node_in levels) new_walk)) (suc i) old new
  by_tree None is put = absurd put
  by_tree (Some t) is put =
      left_next whole (recast_items s levels i (nodes_with (node_in levels) old_walk)) (recast_items s levels (suc i) (nodes_with (node_in levels) new_walk)) i old made new t before
      (ap (λ w. recast_items s levels i (nodes_with (node_in levels) w)) step ∙ items_step s levels i (borrowed e.key) (node_in levels e.kind e.value) (nodes_with (node_in levels) new_walk) t is)
      (put ∙ ap (λ k. made ++ element (kind t) k (enc t)) index)
