-- Recasting the parts of a tuple one by one.
use Rattle.std.proofs.Common.{◌≡◌, ℕ, suc, ◌+◌, ◌<◌, ◌≤◌, List, [], ◌++◌, length, get_or, drop, true, Option, Some, None, refl, ap, sym, subst, ◌∙◌, add-one}
use Rattle.std.specs.Fmt.{decimal}
use Rattle.std.specs.Option.{option_map}
use Rattle.std.proofs.Math.Seq.{drop-cons}
use Rattle.std.proofs.lemmas.List.{drop_all}
use Rattle.bson_kinds.specs.Outcome.{result_map}
use Rattle.bson_kinds.specs.Text.{Bytes, Utf8}
use Rattle.bson_base.specs.Tree as tree
use Rattle.bson_base.specs.Tree.{Tree, Trees, enc, kind, element, enclosed}
use Rattle.bson_kinds.specs.declared.element_type.ElementType.TheVariants as kinds
use Rattle.bson_rawdoc.specs.Envelope.{inside, is_closed}
use Rattle.bson_rawdoc.specs.Node.{Node, Nodes, then_node, inner_node, node_in, nodes_with}
use Rattle.bson_kinds.specs.Piece.{Piece, borrowed, made}
use Rattle.bson_rawdoc.specs.Walk.{Element, Walk, then_walk, walk}
use Rattle.bson_shape.specs.Form.{Form, Parts, part, tuple, tuple_structure}
use Rattle.bson_shape.specs.ShapeView.{parts_of}
use Rattle.bson_values.specs.Marked.{Marked, MarkedItems, contents, item_contents}
use Rattle.bson_values.specs.Value as value
use Rattle.bson_laws.specs.Scopes.{laid, laid_parts}
use Rattle.bson_laws.specs.declared.origin.Reader.{Reader}
use Rattle.bson_laws.specs.Spell.{spell, spell_items}
use Rattle.bson_pass_parts.specs.ReadsUnrolled.{reads, reads_parts}
use Rattle.bson_pass_parts.specs.Put.{recast_by, recast_node, recast_for, recast_parts, IsPut, IsElementPut, AreItemsPut}
use Rattle.bson_pass_parts.proofs.Containers.{recast_mapped, elements_put, array_node, frame_wraps}
use Rattle.bson_pass_parts.proofs.Items.{items_by, AreLeft, left_next, left_none}

-- a part and then the others
parts_step : (s : Form) (ps : Parts) (levels i : ℕ) (key : Piece) (n : Node) (ns : Nodes) (t : Tree) → recast_node s levels n ≡ Some t
    → recast_parts (part s ps) levels i (then_node key n ns) ≡ option_map (tree.tree t) (recast_parts ps levels (suc i) ns)
parts_step s ps levels i key n ns t h = items_by levels i (reads s n) (reads_parts ps (suc i) ns) t h

-- a part was put
part_put : (s : Form) (ps : Parts) (levels i : ℕ) (old_walk new_walk : Walk) (e : Element) (whole : Option Trees) (key : Utf8) (old made new : Bytes) → old_walk ≡ then_walk e new_walk → key ≡ decimal i
    → AreLeft whole (recast_parts (part s ps) levels i (nodes_with (node_in levels) old_walk)) i old made → IsElementPut (recast_node s levels (node_in levels e.kind e.value)) key made new
    → AreLeft whole (recast_parts ps levels (suc i) (nodes_with (node_in levels) new_walk)) (suc i) old new
part_put s ps levels i old_walk new_walk e whole key old made new step index before h = by_tree (recast_node s levels (node_in levels e.kind e.value)) refl h where
  by_tree : (o : Option Tree) → recast_node s levels (node_in levels e.kind e.value) ≡ o → IsElementPut o key made new → AreLeft whole (recast_parts ps levels (suc i) (nodes_with (node_in levels) new_walk)) (suc i) old new
  by_tree None is put = absurd put
  by_tree (Some t) is put =
      left_next whole (recast_parts (part s ps) levels i (nodes_with (node_in levels) old_walk)) (recast_parts ps levels (suc i) (nodes_with (node_in levels) new_walk)) i old made new t before
      (ap (λ w. recast_parts (part s ps) levels i (nodes_with (node_in levels) w)) step ∙ parts_step s ps levels i (borrowed e.key) (node_in levels e.kind e.value) (nodes_with (node_in levels) new_walk) t is)
      (put ∙ ap (λ k. made ++ element (kind t) k (enc t)) index)

-- the part at an index was put
pub part_at_put : (reader : Reader) (ss : List Form) (s : Form) (levels i : ℕ) (old_walk new_walk : Walk) (e : Element) (whole : Option Trees) (key : Utf8) (old made new : Bytes) → i < length ss → s ≡ get_or ss i s
    → old_walk ≡ then_walk e new_walk → key ≡ decimal i → AreLeft whole (recast_parts (laid_parts reader (parts_of (drop i ss))) levels i (nodes_with (node_in levels) old_walk)) i old made
    → IsElementPut (recast_for reader s levels (node_in levels e.kind e.value)) key made new → AreLeft whole (recast_parts (laid_parts reader (parts_of (drop (i + 1) ss))) levels (i + 1) (nodes_with (node_in levels) new_walk)) (i + 1) old new
part_at_put reader ss s levels i old_walk new_walk e whole key old made new lt is step index before h =
    let more = laid_parts reader (parts_of (drop (suc i) ss)) in
    let split : laid_parts reader (parts_of (drop i ss)) ≡ part (laid reader s) more = ap (λ xs. laid_parts reader (parts_of xs)) (drop-cons ss i s lt) ∙ ap (λ x. part (laid reader x) more) (sym is) in
    subst (λ m. AreLeft whole (recast_parts (laid_parts reader (parts_of (drop m ss))) levels m (nodes_with (node_in levels) new_walk)) m old new) (sym (add-one i))
    (part_put (laid reader s) more levels i old_walk new_walk e whole key old made new step index
    (subst (λ ps. AreLeft whole (recast_parts ps levels i (nodes_with (node_in levels) old_walk)) i old made) split before) h)

-- no part is left
pub parts_put : (reader : Reader) (ss : List Form) (levels i : ℕ) (w : Walk) (whole : Option Trees) (old made : Bytes) → length ss ≤ i → AreLeft whole (recast_parts (laid_parts reader (parts_of (drop i ss))) levels i (nodes_with (node_in levels) w)) i old made → AreItemsPut whole 0 old made
parts_put reader ss levels i w whole old made all h =
    left_none whole i old made (subst (λ ps. AreLeft whole (recast_parts ps levels i (nodes_with (node_in levels) w)) i old made) (ap (λ xs. laid_parts reader (parts_of xs)) (drop_all i ss all)) h)

-- ---- the whole array

-- an array of parts, as what the value around them is written as
parts_by : (wrap_value : MarkedItems → Marked) (ps : Parts) (m : ℕ) (b : Bytes) → ((vs : MarkedItems) → spell (contents (wrap_value vs)) (suc m) ≡ result_map tree.array (spell_items 0 (item_contents vs) m))
    → recast_by (λ v. spell (contents v) (suc m)) (result_map wrap_value (reads_parts ps 0 (nodes_with (node_in m) (walk b)))) ≡ option_map tree.array (recast_parts ps m 0 (nodes_with (node_in m) (walk b)))
parts_by wrap_value ps m b is = recast_mapped (λ v. spell (contents v) (suc m)) wrap_value (λ vs. spell_items 0 (item_contents vs) m) tree.array (reads_parts ps 0 (nodes_with (node_in m) (walk b))) is

pub tuple_put : (ps : Parts) (levels m : ℕ) (b old begun filled ended : Bytes) → levels ≡ suc m → ((b : Bytes) → filled ≡ begun ++ b → ended ≡ old ++ enclosed b) → AreItemsPut (recast_parts ps m 0 (nodes_with (node_in m) (walk b))) 0 begun filled
    → IsPut (recast_node (tuple ps) levels (inner_node levels kinds.Array b)) old ended kinds.Array
tuple_put ps levels m b old begun filled ended e wraps h =
    elements_put (tuple ps) (recast_parts ps m 0 (nodes_with (node_in m) (walk b))) levels m b old begun filled ended (parts_by value.tuple ps m b (λ vs. refl)) e wraps h

pub tuple_structure_put : (name : Utf8) (ps : Parts) (levels m : ℕ) (b old begun filled ended : Bytes) → levels ≡ suc m → ((b : Bytes) → filled ≡ begun ++ b → ended ≡ old ++ enclosed b)
    → AreItemsPut (recast_parts ps m 0 (nodes_with (node_in m) (walk b))) 0 begun filled → IsPut (recast_node (tuple_structure name ps) levels (inner_node levels kinds.Array b)) old ended kinds.Array
tuple_structure_put name ps levels m b old begun filled ended e wraps h =
    elements_put (tuple_structure name ps) (recast_parts ps m 0 (nodes_with (node_in m) (walk b))) levels m b old begun filled ended (parts_by (value.tuple_structure (made name)) ps m b (λ vs. refl)) e wraps h

-- an array whose parts are kept
pub tuple_kept : (ps : Parts) (levels m : ℕ) (b : Bytes) → levels ≡ suc m → is_closed b ≡ true → enclosed (inside b) ≡ b → AreItemsPut (recast_parts ps m 0 (nodes_with (node_in m) (walk b))) 0 [] (inside b)
    → IsPut (recast_node (tuple ps) levels (node_in levels kinds.Array b)) [] b kinds.Array
tuple_kept ps levels m b e closed frame h =
    subst (λ n. IsPut (recast_node (tuple ps) levels n) [] b kinds.Array) (sym (array_node levels m b e closed)) (tuple_put ps levels m b [] [] (inside b) b e (frame_wraps b frame) h)
