use Rattle.std.proofs.Common.{◌≡◌, ◌+◌, ◌*◌, ◌<◌, ◌^◌, drop}
use Rattle.bson_kinds.specs.Outcome.{result_map}
use Rattle.bson_shape.specs.ShapeView.{form_view, content_of, fields_of, parts_of, variants_of, nodes, fields_nodes, parts_nodes, variants_nodes, content_nodes}
use Rattle.bson_values.specs.Value.{no_entries}
use Rattle.bson_laws.specs.Containers.{reads_items, reads_entries, reads_key}
use Rattle.bson_laws.specs.ReadsFrom.{reads_for, parts_for, slots_for}
use Rattle.bson_laws.specs.Scopes.{meanings_of, laid, laid_fields, laid_parts, laid_variants, laid_content}
use Rattle.bson_laws.specs.Slots.{fill, reads_places}
use Rattle.bson_laws.specs.Unrolled.{in_table, max_steps}
use Rattle.bson_met.specs.Sizes.{count}
use Rattle.bson_slots.specs.FieldsRead.{unknown_of}
use Rattle.bson_slots.specs.SlotsView.{slots_view}
use Rattle.bson_leaves.specs.EntriesView.{IsIndexed, key_form, entries_of}
use Rattle.bson_texts.specs.ListsMarked.{items_marked, entries_marked}
use Rattle.bson_texts.proofs.Each.{each}
use Rattle.bson_texts.proofs.SlotsFilled.{slots_by}
use Rattle.bson_de_parts.proofs.FieldPlaces.{values_before}
use Rattle.bson_texts.proofs.Loops.{items_by, entries_by}
use Rattle.bson_de_parts.proofs.Parts.{items_before}
use Rattle.bson_de.proofs.+read.Given as goal

abbrev pub decreases-value::read_for : goal.decreases-value::read_for
decreases-value::read_for l = 8 * nodes (laid l.reader.now l.shape.now)

abbrev pub decreases-value::read_option : goal.decreases-value::read_option
decreases-value::read_option l = 8 * nodes (laid l.reader.now l.inner.now) + 1

abbrev pub decreases-value::read_mended : goal.decreases-value::read_mended
decreases-value::read_mended l = 8 * nodes (laid l.reader.now l.inner.now) + 1

abbrev pub decreases-value::read_human_readable : goal.decreases-value::read_human_readable
decreases-value::read_human_readable l = 8 * nodes (laid l.reader.now l.inner.now) + 2

abbrev pub decreases-value::read_definitions : goal.decreases-value::read_definitions
decreases-value::read_definitions l = 8 * nodes (in_table max_steps (fields_of l.table.now) l.inner.now) + 1

abbrev pub decreases-value::read_reference : goal.decreases-value::read_reference
decreases-value::read_reference l = 8 * nodes (meanings_of l.reader.now l.name.now) + 1

abbrev pub decreases-value::read_newtype : goal.decreases-value::read_newtype
decreases-value::read_newtype l = 8 * nodes (laid l.reader.now l.inner.now) + 1

abbrev pub decreases-value::read_item : goal.decreases-value::read_item
decreases-value::read_item l = 8 * nodes (laid l.reader.now l.shape.now) + 1

abbrev pub decreases-value::read_items : goal.decreases-value::read_items
decreases-value::read_items l = 8 * nodes (laid l.reader.now l.item.now) + 2

abbrev pub decreases-value::read_sequence : goal.decreases-value::read_sequence
decreases-value::read_sequence l = 8 * nodes (laid l.reader.now l.item.now) + 3

-- the items so far, and what is left of the array, are all that is in it
abbrev pub invariant-value::read_items-step : goal.invariant-value::read_items-step
invariant-value::read_items-step l =
    let read = reads_for l.reader l.item in
    (l.index + count l.elements < 2 ^ 64) × (each (items_by read) l.index l.elements (items_marked l.items.items) ≡ reads_items read 0 l.fn.elements)

abbrev pub decreases-value::read_items-step : goal.decreases-value::read_items-step
decreases-value::read_items-step l = count l.elements

abbrev pub decreases-tuple::read_next : goal.decreases-tuple::read_next
decreases-tuple::read_next l = 8 * nodes (laid l.reader.now l.shape.now) + 2

abbrev pub decreases-tuple::read_parts : goal.decreases-tuple::read_parts
decreases-tuple::read_parts l = 8 * parts_nodes (laid_parts l.reader.now (parts_of l.parts.now)) + 3

abbrev pub decreases-tuple::read_tuple : goal.decreases-tuple::read_tuple
decreases-tuple::read_tuple l = 8 * parts_nodes (laid_parts l.reader.now (parts_of l.parts.now)) + 4

abbrev pub decreases-tuple::read_tuple_struct : goal.decreases-tuple::read_tuple_struct
decreases-tuple::read_tuple_struct l = 8 * parts_nodes (laid_parts l.reader.now (parts_of l.parts.now)) + 4

-- the values so far, and those of the parts that are left, are all
abbrev pub invariant-tuple::read_parts-loop-place : goal.invariant-tuple::read_parts-loop-place
invariant-tuple::read_parts-loop-place l =
    result_map (items_before l.values.items) (parts_for l.reader (parts_of (drop l.place l.parts)) l.place l.elements) ≡ parts_for l.reader (parts_of l.parts) 0 l.fn.elements

abbrev pub decreases-map::read_at_key : goal.decreases-map::read_at_key
decreases-map::read_at_key l = 8 * nodes (laid l.reader.now l.shape.now) + 1

abbrev pub decreases-map::read_entries : goal.decreases-map::read_entries
decreases-map::read_entries l = 8 * nodes (laid l.reader.now l.item.now) + 2

abbrev pub decreases-map::read_map : goal.decreases-map::read_map
decreases-map::read_map l = 8 * nodes (laid l.reader.now l.item.now) + 3

-- what is left of the document, put to the entries so far, is all that is in it
abbrev pub invariant-map::read_entries-step : goal.invariant-map::read_entries-step
invariant-map::read_entries-step l =
    IsIndexed l.entries × (form_view (key_form l.entries) ≡ l.fn.key)
    × (each (entries_by (reads_key l.fn.key) (reads_for l.reader l.item)) 0 l.elements (entries_marked (entries_of l.entries)) ≡ reads_entries (reads_key l.fn.key) (reads_for l.reader l.item) l.fn.elements no_entries)

abbrev pub decreases-map::read_entries-step : goal.decreases-map::read_entries-step
decreases-map::read_entries-step l = count l.elements

abbrev pub decreases-enumeration::read_newtype_variant : goal.decreases-enumeration::read_newtype_variant
decreases-enumeration::read_newtype_variant l = 8 * nodes (laid l.reader.now l.shape.now) + 1

abbrev pub decreases-enumeration::read_tuple_variant : goal.decreases-enumeration::read_tuple_variant
decreases-enumeration::read_tuple_variant l = 8 * parts_nodes (laid_parts l.reader.now (parts_of l.parts.now)) + 4

abbrev pub decreases-enumeration::read_struct_variant : goal.decreases-enumeration::read_struct_variant
decreases-enumeration::read_struct_variant l = 8 * fields_nodes (laid_fields l.reader.now (fields_of l.fields.now)) + 6

abbrev pub decreases-enumeration::read_content_fields : goal.decreases-enumeration::read_content_fields
decreases-enumeration::read_content_fields l = 8 * fields_nodes (laid_fields l.reader.now (fields_of l.fields.now)) + 5

abbrev pub decreases-enumeration::read_tree_fields : goal.decreases-enumeration::read_tree_fields
decreases-enumeration::read_tree_fields l = 8 * fields_nodes (laid_fields l.reader.now (fields_of l.fields.now)) + 4

abbrev pub decreases-enumeration::read_content : goal.decreases-enumeration::read_content
decreases-enumeration::read_content l = 8 * content_nodes (laid_content l.reader.now (content_of l.variant.now.content)) + 7

abbrev pub decreases-enumeration::read_variant : goal.decreases-enumeration::read_variant
decreases-enumeration::read_variant l = 8 * variants_nodes (laid_variants l.reader.now (variants_of l.variants.now)) + 1

abbrev pub decreases-enumeration::read_enum : goal.decreases-enumeration::read_enum
decreases-enumeration::read_enum l = 8 * variants_nodes (laid_variants l.reader.now (variants_of l.variants.now)) + 2

abbrev pub decreases-structure::fill_one : goal.decreases-structure::fill_one
decreases-structure::fill_one l = 8 * fields_nodes (laid_fields l.slots.now.reader.now (fields_of l.index.now.items.now)) + 1

abbrev pub decreases-structure::read_by_key : goal.decreases-structure::read_by_key
decreases-structure::read_by_key l = 8 * fields_nodes (laid_fields l.reader.now (fields_of l.fields.now)) + 3

abbrev pub decreases-structure::read_by_place : goal.decreases-structure::read_by_place
decreases-structure::read_by_place l = 8 * fields_nodes (laid_fields l.reader.now (fields_of l.fields.now)) + 3

abbrev pub decreases-structure::read_fields : goal.decreases-structure::read_fields
decreases-structure::read_fields l = 8 * fields_nodes (laid_fields l.reader.now (fields_of l.fields.now)) + 4

abbrev pub decreases-structure::read_struct : goal.decreases-structure::read_struct
decreases-structure::read_struct l = 8 * fields_nodes (laid_fields l.reader.now (fields_of l.fields.now)) + 5

abbrev pub decreases-structure::read_closed_struct : goal.decreases-structure::read_closed_struct
decreases-structure::read_closed_struct l = 8 * fields_nodes (laid_fields l.reader.now (fields_of l.fields.now)) + 5

-- what is left of the document fills the slots so far as the whole document fills empty ones
abbrev pub invariant-structure::read_by_key-step : goal.invariant-structure::read_by_key-step
invariant-structure::read_by_key-step l =
    (l.index.items.now ≡ l.fields) × (l.slots.fields.now ≡ l.fields) × (l.slots.reader.now ≡ l.reader) × (each (slots_by (unknown_of l.closed)) 0 l.elements (slots_view l.slots) ≡ fill (unknown_of l.closed) l.fn.elements (slots_for l.reader (fields_of l.fields)))

abbrev pub decreases-structure::read_by_key-step : goal.decreases-structure::read_by_key-step
decreases-structure::read_by_key-step l = count l.elements

-- the values so far, and those of the fields that are left, are all
abbrev pub invariant-structure::read_by_place-loop-place : goal.invariant-structure::read_by_place-loop-place
invariant-structure::read_by_place-loop-place l =
    result_map (values_before l.values.items) (reads_places l.place (slots_for l.reader (fields_of (drop l.place l.fields))) l.elements) ≡ reads_places 0 (slots_for l.reader (fields_of l.fields)) l.fn.elements
