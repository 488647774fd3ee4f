use Rattle.std.proofs.Common.{◌≡◌, ◌+◌, ◌*◌, ◌-◌, ◌<◌, ◌≤◌, ◌^◌}
use Rattle.bson_kinds.specs.declared.element_type.ElementType.TheVariants.{EmbeddedDocument, Array}
use Rattle.bson_rawdoc.specs.DocumentView.{array_bytes, document_bytes}
use Rattle.bson_rawdoc.specs.Next as walks
use Rattle.bson_rawdoc.specs.Node.{node_in, inner_node, nodes_with}
use Rattle.bson_shape.specs.Form.{leaf}
use Rattle.bson_shape.specs.ShapeView.{form_view}
use Rattle.bson_shape.specs.declared.leaf.Leaf.TheVariants.{Str}
use Rattle.bson_values.specs.Value.{no_entries}
use Rattle.bson_laws.specs.ReadsLeaf.{any_items, any_entries}
use Rattle.bson_met.specs.Sizes.{size, sizes, count}
use Rattle.bson_leaves.specs.Any.{any_at, any_items_at, any_entries_at}
use Rattle.bson_leaves.specs.EntriesView.{IsIndexed}
use Rattle.bson_texts.specs.ListsMarked.{items_marked, entries_marked}
use Rattle.bson_texts.proofs.Each.{each}
use Rattle.bson_leaves.proofs.AnyRead.{as_str}
use Rattle.bson_texts.proofs.Loops.{items_by, entries_by}
use Rattle.bson_leaves.proofs.any.+any.Given as goal

abbrev pub decreases-read_any : goal.decreases-read_any
decreases-read_any l = 5 * size l.value.now + 4

abbrev pub decreases-any_elsewhere : goal.decreases-any_elsewhere
decreases-any_elsewhere l = 5 * size l.value.now + 3

abbrev pub decreases-any_items : goal.decreases-any_items
decreases-any_items l = 5 * sizes l.elements

abbrev pub decreases-any_entries : goal.decreases-any_entries
decreases-any_entries l = 5 * sizes l.elements

abbrev pub decreases-any_element : goal.decreases-any_element
decreases-any_element l = 5 * size (node_in l.levels l.element.now.kind l.element.now.value) + 3

abbrev pub decreases-any_value : goal.decreases-any_value
decreases-any_value l = 5 * size (node_in l.levels l.element.now.kind l.element.now.value) + 2

abbrev pub decreases-any_other : goal.decreases-any_other
decreases-any_other l = 5 * size (node_in l.levels l.element.now.kind l.element.now.value) + 1

abbrev pub decreases-any_opened : goal.decreases-any_opened
decreases-any_opened l = 5 * size (node_in l.levels l.element.kind l.element.value)

abbrev pub decreases-any_array : goal.decreases-any_array
decreases-any_array l = 5 * size (inner_node l.levels Array (array_bytes l.array))

abbrev pub decreases-any_document : goal.decreases-any_document
decreases-any_document l = 5 * size (inner_node l.levels EmbeddedDocument (document_bytes l.document))

-- the items so far, and what is left of the array, are all that is in it
abbrev pub invariant-any_items-step : goal.invariant-any_items-step
invariant-any_items-step l =
    (l.index + count l.elements < 2 ^ 64) × (sizes l.elements ≤ sizes l.fn.elements) × (each (items_by any_at) l.index l.elements (items_marked l.items.items) ≡ any_items 0 l.fn.elements)

abbrev pub decreases-any_items-step : goal.decreases-any_items-step
decreases-any_items-step l = count l.elements

-- what is left of the document, put to the entries so far, is all that is in it
abbrev pub invariant-any_entries-step : goal.invariant-any_entries-step
invariant-any_entries-step l =
    (sizes l.elements ≤ sizes l.fn.elements) × IsIndexed l.entries × (form_view l.entries.key ≡ leaf Str)
    × (each (entries_by as_str any_at) 0 l.elements (entries_marked l.entries.entries.items) ≡ any_entries l.fn.elements no_entries)

abbrev pub decreases-any_entries-step : goal.decreases-any_entries-step
decreases-any_entries-step l = count l.elements

-- the same, of an array of the input
abbrev pub invariant-any_array-step : goal.invariant-any_array-step
invariant-any_array-step l =
    let all = inner_node l.levels Array (array_bytes l.array) in
    let left = nodes_with (node_in (l.levels - 1)) l.elements in
    (0 < l.levels) × (l.index + walks.count l.elements < 2 ^ 31) × (sizes left < size all) × (each (items_by any_at) l.index left (items_marked l.items.items) ≡ any_items_at all)

abbrev pub decreases-any_array-step : goal.decreases-any_array-step
decreases-any_array-step l = walks.count l.elements

-- the same, of a document of the input
abbrev pub invariant-any_document-step : goal.invariant-any_document-step
invariant-any_document-step l =
    let all = inner_node l.levels EmbeddedDocument (document_bytes l.document) in
    let left = nodes_with (node_in (l.levels - 1)) l.elements in
    (0 < l.levels) × (sizes left < size all) × IsIndexed l.entries × (form_view l.entries.key ≡ leaf Str) × (each (entries_by as_str any_at) 0 left (entries_marked l.entries.entries.items) ≡ any_entries_at all)

abbrev pub decreases-any_document-step : goal.decreases-any_document-step
decreases-any_document-step l = walks.count l.elements
