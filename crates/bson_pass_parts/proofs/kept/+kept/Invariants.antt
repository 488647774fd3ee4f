use Rattle.std.proofs.Common.{◌≡◌, ◌+◌, ◌*◌, ◌-◌, ◌≤◌, [], length, drop}
use Rattle.bson_rawdoc.specs.Node.{node_in, nodes_with}
use Rattle.bson_rawdoc.specs.Walk.{walk_elements}
use Rattle.bson_shape.specs.Form.{UnknownFields}
use Rattle.bson_shape.specs.ShapeView.{fields_of, parts_of, variants_of, content_of, nodes, fields_nodes, parts_nodes, variants_nodes, content_nodes}
use Rattle.bson_laws.specs.Scopes.{meanings_of, laid, laid_content, laid_fields, laid_parts, laid_variants}
use Rattle.bson_pass_parts.specs.Put.{recast_items, recast_parts, recast_fields}
use Rattle.bson_pass_parts.specs.ReadsUnrolled.{slots_of}
use Rattle.bson_pass_parts.specs.Run.{run}
use Rattle.bson_pass_parts.proofs.Places.{AreUnderWay}
use Rattle.bson_pass_parts.proofs.Items.{AreLeft}
use Rattle.bson_pass_parts.proofs.kept.+kept.Given as goal

abbrev pub decreases-is_kept : goal.decreases-is_kept
decreases-is_kept l = 8 * nodes (laid l.reader.now l.shape.now) + 1

abbrev pub decreases-is_form_kept : goal.decreases-is_form_kept
decreases-is_form_kept l = 8 * nodes (laid l.reader.now l.shape.now)

abbrev pub decreases-is_reference_kept : goal.decreases-is_reference_kept
decreases-is_reference_kept l = 8 * nodes (meanings_of l.reader.now l.name.now) + 2

abbrev pub decreases-is_newtype_kept : goal.decreases-is_newtype_kept
decreases-is_newtype_kept l = 8 * nodes (laid l.reader.now l.inner.now) + 2

abbrev pub decreases-is_marked_kept : goal.decreases-is_marked_kept
decreases-is_marked_kept l = 8 * nodes (laid l.reader.now l.inner.now) + 2

abbrev pub decreases-is_array_kept : goal.decreases-is_array_kept
decreases-is_array_kept l = 8 * nodes (laid l.reader.now l.item.now) + 3

abbrev pub decreases-are_items_kept : goal.decreases-are_items_kept
decreases-are_items_kept l = 8 * nodes (laid l.reader.now l.item.now) + 2

abbrev pub decreases-is_struct_kept : goal.decreases-is_struct_kept
decreases-is_struct_kept l = 8 * fields_nodes (laid_fields l.reader.now (fields_of l.fields.now)) + 5

abbrev pub decreases-are_fields_kept : goal.decreases-are_fields_kept
decreases-are_fields_kept l = 8 * fields_nodes (laid_fields l.reader.now (fields_of l.fields.now)) + 4

abbrev pub decreases-is_tuple_kept : goal.decreases-is_tuple_kept
decreases-is_tuple_kept l = 8 * parts_nodes (laid_parts l.reader.now (parts_of l.parts.now)) + 1

abbrev pub decreases-are_parts_kept : goal.decreases-are_parts_kept
decreases-are_parts_kept l = 8 * parts_nodes (laid_parts l.reader.now (parts_of l.parts.now))

abbrev pub decreases-is_enum_kept : goal.decreases-is_enum_kept
decreases-is_enum_kept l = 8 * variants_nodes (laid_variants l.reader.now (variants_of l.variants.now)) + 1

abbrev pub decreases-is_pair_kept : goal.decreases-is_pair_kept
decreases-is_pair_kept l = 8 * variants_nodes (laid_variants l.reader.now (variants_of l.variants.now))

abbrev pub decreases-is_content_kept : goal.decreases-is_content_kept
decreases-is_content_kept l = 8 * content_nodes (laid_content l.reader.now (content_of l.content.now)) + 6

abbrev pub invariant-are_items_kept-loop-at : goal.invariant-are_items_kept-loop-at
invariant-are_items_kept-loop-at l =
    (l.at ≤ length l.elements)
    × AreLeft (recast_items (laid l.reader l.item) l.levels 0 (nodes_with (node_in l.levels) (walk_elements l.elements))) (recast_items (laid l.reader l.item) l.levels l.index (nodes_with (node_in l.levels) (walk_elements (drop l.at l.elements)))) l.index [] (run l.elements 0 l.at)

abbrev pub decreases-are_items_kept-loop-at : goal.decreases-are_items_kept-loop-at
decreases-are_items_kept-loop-at l = length l.elements - l.at

abbrev pub invariant-are_fields_kept-loop-at : goal.invariant-are_fields_kept-loop-at
invariant-are_fields_kept-loop-at l =
    (l.at ≤ length l.elements) × (l.place ≤ length l.fields)
    × ((unknown : UnknownFields)
    → AreUnderWay l.reader unknown l.fields l.levels (recast_fields unknown (slots_of (laid_fields l.reader (fields_of l.fields))) l.levels (nodes_with (node_in l.levels) (walk_elements l.elements))) (nodes_with (node_in l.levels) (walk_elements (drop l.at l.elements))) l.place [] (run l.elements 0 l.at))

abbrev pub decreases-are_fields_kept-loop-at : goal.decreases-are_fields_kept-loop-at
decreases-are_fields_kept-loop-at l = length l.elements - l.at

abbrev pub invariant-are_parts_kept-loop-part : goal.invariant-are_parts_kept-loop-part
invariant-are_parts_kept-loop-part l =
    (l.index ≡ l.part-index) × (l.at ≤ length l.elements)
    × AreLeft (recast_parts (laid_parts l.reader (parts_of l.parts)) l.levels 0 (nodes_with (node_in l.levels) (walk_elements l.elements))) (recast_parts (laid_parts l.reader (parts_of (drop l.part-index l.parts))) l.levels l.part-index (nodes_with (node_in l.levels) (walk_elements (drop l.at l.elements)))) l.part-index [] (run l.elements 0 l.at)
