use Rattle.std.proofs.Common.{◌≡◌, ◌+◌, ◌*◌, ◌-◌, ◌≤◌, ◌++◌, length, drop, List}
use Rattle.std.specs.List.{IsDistinct}
use Rattle.std.specs.Str.{bytes_eq}
use Rattle.bson_kinds.specs.Text.{Utf8}
use Rattle.bson_keys.specs.Met.{HasKeys}
use Rattle.bson_rawdoc.specs.Node.{ended, node_in, nodes_with}
use Rattle.bson_rawdoc.specs.Walk.{walk_elements}
use Rattle.bson_shape.specs.ShapeView.{fields_of, parts_of, variants_of, content_of, nodes, fields_nodes, parts_nodes, variants_nodes, content_nodes}
use Rattle.bson_values.specs.Value.{no_entries}
use Rattle.bson_laws.specs.Scopes.{meanings_of, laid, laid_content, laid_fields, laid_parts, laid_variants}
use Rattle.bson_laws.specs.Unrolled.{in_table, max_steps}
use Rattle.bson_slots.specs.FieldsRead.{unknown_of}
use Rattle.bson_pass_parts.specs.Put.{recast_items, recast_parts, recast_entries, recast_fields}
use Rattle.bson_pass_parts.specs.ReadsUnrolled.{slots_of}
use Rattle.bson_pass_parts.specs.Run.{run}
use Rattle.bson_pass_parts.proofs.Places.{AreUnderWay}
use Rattle.bson_pass_parts.proofs.AnyOrder.{FoundLeft}
use Rattle.bson_pass_parts.proofs.Items.{AreLeft}
use Rattle.bson_pass_parts.proofs.Entries.{AreEntriesPut}
use Rattle.bson_one_pass.proofs.+recast.Given as goal

abbrev pub decreases-value::recast_value : goal.decreases-value::recast_value
decreases-value::recast_value l = 16 * nodes (laid l.reader.now l.shape.now)

abbrev pub decreases-value::recast_reference : goal.decreases-value::recast_reference
decreases-value::recast_reference l = 16 * nodes (meanings_of l.reader.now l.name.now) + 1

abbrev pub decreases-value::recast_definitions : goal.decreases-value::recast_definitions
decreases-value::recast_definitions l = 16 * nodes (in_table max_steps (fields_of l.table.now) l.inner.now) + 1

abbrev pub decreases-value::recast_option : goal.decreases-value::recast_option
decreases-value::recast_option l = 16 * nodes (laid l.reader.now l.inner.now) + 1

abbrev pub decreases-value::recast_marked : goal.decreases-value::recast_marked
decreases-value::recast_marked l = 16 * nodes (laid l.reader.now l.inner.now) + 1

abbrev pub decreases-value::recast_structure : goal.decreases-value::recast_structure
decreases-value::recast_structure l = 16 * fields_nodes (laid_fields l.reader.now (fields_of l.fields.now)) + 10

abbrev pub decreases-value::recast_keyed : goal.decreases-value::recast_keyed
decreases-value::recast_keyed l = 16 * nodes (laid l.reader.now l.inner.now) + 10

abbrev pub decreases-value::recast_newtype : goal.decreases-value::recast_newtype
decreases-value::recast_newtype l = 16 * nodes (laid l.reader.now l.inner.now) + 1

abbrev pub decreases-array::recast_item : goal.decreases-array::recast_item
decreases-array::recast_item l = 16 * nodes (laid l.reader.now l.shape.now) + 3

abbrev pub decreases-array::recast_other : goal.decreases-array::recast_other
decreases-array::recast_other l = 16 * nodes (laid l.reader.now l.shape.now) + 1

abbrev pub decreases-array::recast_element : goal.decreases-array::recast_element
decreases-array::recast_element l = 16 * nodes (laid l.reader.now l.shape.now) + 2

abbrev pub decreases-array::recast_changed : goal.decreases-array::recast_changed
decreases-array::recast_changed l = 16 * nodes (laid l.reader.now l.shape.now) + 4

abbrev pub decreases-array::recast_next : goal.decreases-array::recast_next
decreases-array::recast_next l = 16 * nodes (laid l.reader.now l.shape.now) + 6

abbrev pub decreases-array::recast_first : goal.decreases-array::recast_first
decreases-array::recast_first l = 16 * nodes (laid l.reader.now l.shape.now) + 2

abbrev pub decreases-array::recast_bytes : goal.decreases-array::recast_bytes
decreases-array::recast_bytes l = 16 * nodes (laid l.reader.now l.shape.now) + 3

abbrev pub decreases-array::recast_referred : goal.decreases-array::recast_referred
decreases-array::recast_referred l = 16 * nodes (meanings_of l.reader.now l.name.now) + 4

abbrev pub decreases-array::recast_known : goal.decreases-array::recast_known
decreases-array::recast_known l = 16 * nodes (laid l.reader.now l.shape.now) + 5

abbrev pub decreases-array::recast_misnamed : goal.decreases-array::recast_misnamed
decreases-array::recast_misnamed l = 16 * nodes (laid l.reader.now l.shape.now) + 4

abbrev pub decreases-array::recast_items : goal.decreases-array::recast_items
decreases-array::recast_items l = 16 * nodes (laid l.reader.now l.item.now) + 8

abbrev pub decreases-array::recast_array : goal.decreases-array::recast_array
decreases-array::recast_array l = 16 * nodes (laid l.reader.now l.item.now) + 9

abbrev pub decreases-array::recast_array_of : goal.decreases-array::recast_array_of
decreases-array::recast_array_of l = 16 * nodes (meanings_of l.reader.now l.name.now) + 10

abbrev pub decreases-map::recast_entries : goal.decreases-map::recast_entries
decreases-map::recast_entries l = 16 * nodes (laid l.reader.now l.shape.now) + 8

abbrev pub decreases-map::recast_map : goal.decreases-map::recast_map
decreases-map::recast_map l = 16 * nodes (laid l.reader.now l.shape.now) + 9

abbrev pub decreases-tuple::recast_parts : goal.decreases-tuple::recast_parts
decreases-tuple::recast_parts l = 16 * parts_nodes (laid_parts l.reader.now (parts_of l.parts.now)) + 4

abbrev pub decreases-tuple::recast_tuple : goal.decreases-tuple::recast_tuple
decreases-tuple::recast_tuple l = 16 * parts_nodes (laid_parts l.reader.now (parts_of l.parts.now)) + 5

abbrev pub decreases-structure::recast_field : goal.decreases-structure::recast_field
decreases-structure::recast_field l = 16 * nodes (laid l.reader.now l.field.now.shape) + 4

abbrev pub decreases-structure::recast_fields : goal.decreases-structure::recast_fields
decreases-structure::recast_fields l = 16 * fields_nodes (laid_fields l.reader.now (fields_of l.fields.now)) + 8

abbrev pub decreases-structure::put_next : goal.decreases-structure::put_next
decreases-structure::put_next l = 16 * nodes (laid l.reader.now l.field.now.shape) + 6

abbrev pub decreases-structure::recast_others : goal.decreases-structure::recast_others
decreases-structure::recast_others l = 16 * fields_nodes (laid_fields l.reader.now (fields_of l.fields.now)) + 5

abbrev pub decreases-structure::put_found : goal.decreases-structure::put_found
decreases-structure::put_found l = 16 * fields_nodes (laid_fields l.reader.now (fields_of l.fields.now)) + 4

abbrev pub decreases-structure::put_field : goal.decreases-structure::put_field
decreases-structure::put_field l = 16 * nodes (laid l.reader.now l.field.now.shape) + 5

abbrev pub decreases-structure::recast_struct : goal.decreases-structure::recast_struct
decreases-structure::recast_struct l = 16 * fields_nodes (laid_fields l.reader.now (fields_of l.fields.now)) + 9

abbrev pub decreases-enumeration::recast_enum : goal.decreases-enumeration::recast_enum
decreases-enumeration::recast_enum l = 16 * variants_nodes (laid_variants l.reader.now (variants_of l.variants.now)) + 2

abbrev pub decreases-enumeration::recast_pair : goal.decreases-enumeration::recast_pair
decreases-enumeration::recast_pair l = 16 * variants_nodes (laid_variants l.reader.now (variants_of l.variants.now)) + 1

abbrev pub decreases-enumeration::recast_content : goal.decreases-enumeration::recast_content
decreases-enumeration::recast_content l = 16 * content_nodes (laid_content l.reader.now (content_of l.content.now)) + 11

abbrev pub decreases-enumeration::recast_inside : goal.decreases-enumeration::recast_inside
decreases-enumeration::recast_inside l = 16 * content_nodes (laid_content l.reader.now (content_of l.content.now)) + 10

abbrev pub invariant-array::recast_items-loop-at : goal.invariant-array::recast_items-loop-at
invariant-array::recast_items-loop-at l =
    (l.at ≤ length l.elements) × (l.from ≤ l.at)
    × AreLeft (recast_items (laid l.reader l.item) l.levels 0 (nodes_with (node_in l.levels) (walk_elements l.elements))) (recast_items (laid l.reader l.item) l.levels l.index (nodes_with (node_in l.levels) (walk_elements (drop l.at l.elements)))) l.index l.initial.made.items
    (l.made.items ++ run l.elements l.from l.at)

abbrev pub decreases-array::recast_items-loop-at : goal.decreases-array::recast_items-loop-at
decreases-array::recast_items-loop-at l = length l.elements - l.at

abbrev pub invariant-structure::recast_fields-loop-at : goal.invariant-structure::recast_fields-loop-at
invariant-structure::recast_fields-loop-at l =
    (l.at ≤ length l.elements) × (l.from ≤ l.at) × (l.place ≤ length l.fields)
    × AreUnderWay l.reader (unknown_of l.closed) l.fields l.levels (recast_fields (unknown_of l.closed) (slots_of (laid_fields l.reader (fields_of l.fields))) l.levels (nodes_with (node_in l.levels) (walk_elements l.elements))) (nodes_with (node_in l.levels) (walk_elements (drop l.at l.elements))) l.place l.initial.made.items
    (l.made.items ++ run l.elements l.from l.at)

abbrev pub decreases-structure::recast_fields-loop-at : goal.decreases-structure::recast_fields-loop-at
decreases-structure::recast_fields-loop-at l = length l.elements - l.at

abbrev pub invariant-structure::put_found-loop-field : goal.invariant-structure::put_found-loop-field
invariant-structure::put_found-loop-field l = (l.place ≤ length l.fields) × FoundLeft l.reader l.levels l.fields l.found l.place l.fn.made.items l.made.items

abbrev pub decreases-structure::put_found-loop-field : goal.decreases-structure::put_found-loop-field
decreases-structure::put_found-loop-field l = length l.fields - l.place

abbrev pub invariant-structure::recast_fields-loop-field : goal.invariant-structure::recast_fields-loop-field
invariant-structure::recast_fields-loop-field l =
    (l.place ≤ length l.fields) × AreUnderWay l.reader (unknown_of l.closed) l.fields l.levels (recast_fields (unknown_of l.closed) (slots_of (laid_fields l.reader (fields_of l.fields))) l.levels (nodes_with (node_in l.levels) (walk_elements l.elements))) ended l.place l.fn.made.items l.made.items

abbrev pub decreases-structure::recast_fields-loop-field : goal.decreases-structure::recast_fields-loop-field
decreases-structure::recast_fields-loop-field l = length l.fields - l.place

abbrev pub invariant-tuple::recast_parts-loop-part : goal.invariant-tuple::recast_parts-loop-part
invariant-tuple::recast_parts-loop-part l =
    (l.index ≡ l.part-index) × (l.at ≤ length l.elements) × (l.from ≤ l.at)
    × AreLeft (recast_parts (laid_parts l.reader (parts_of l.parts)) l.levels 0 (nodes_with (node_in l.levels) (walk_elements l.elements))) (recast_parts (laid_parts l.reader (parts_of (drop l.part-index l.parts))) l.levels l.part-index (nodes_with (node_in l.levels) (walk_elements (drop l.at l.elements)))) l.part-index l.initial.made.items
    (l.made.items ++ run l.elements l.from l.at)

abbrev pub invariant-map::recast_entries-loop-step : goal.invariant-map::recast_entries-loop-step
invariant-map::recast_entries-loop-step l =
    (l.at ≤ length l.elements) × (l.from ≤ l.at)
    × ((names : List Utf8) × HasKeys l.keys names
    × (IsDistinct bytes_eq names → AreEntriesPut l.fn.key (laid l.reader l.shape) l.levels (recast_entries l.fn.key (laid l.reader l.shape) no_entries l.levels (nodes_with (node_in l.levels) (walk_elements l.elements))) (nodes_with (node_in l.levels) (walk_elements (drop l.at l.elements)))
    names l.initial.made.items (l.made.items ++ run l.elements l.from l.at)))

abbrev pub decreases-map::recast_entries-loop-step : goal.decreases-map::recast_entries-loop-step
decreases-map::recast_entries-loop-step l = length l.elements - l.at
