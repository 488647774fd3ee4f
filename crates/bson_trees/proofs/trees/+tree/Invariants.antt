use Rattle.std.proofs.Common.{◌≡◌, ◌+◌, ◌*◌, ◌<◌, ◌≤◌, ◌^◌}
use Rattle.bson_base.specs.Tree.{Pairs, no_pairs}
use Rattle.bson_kinds.specs.Piece.{made}
use Rattle.bson_shape.specs.Form.{leaf}
use Rattle.bson_shape.specs.ShapeView.{form_view}
use Rattle.bson_shape.specs.declared.leaf.Leaf.TheVariants.{String}
use Rattle.bson_laws.specs.Datum.{pair_data}
use Rattle.bson_met.specs.OpenedView.{extended_view}
use Rattle.bson_met.specs.Sizes.{count, size, sizes, scope_size}
use Rattle.bson_leaves.specs.EntriesView.{IsIndexed, key_form, entries_of}
use Rattle.bson_texts.specs.ListsMarked.{items_marked, entries_marked}
use Rattle.bson_texts.proofs.Each.{each}
use Rattle.bson_texts.proofs.Loops.{items_by}
use Rattle.bson_trees.specs.Trees.{tree_at, items_from, elements_from}
use Rattle.bson_trees.proofs.trees.+tree.Given as goal

abbrev pub decreases-read_tree : goal.decreases-read_tree
decreases-read_tree l = 8 * size l.value.now + 1

abbrev pub decreases-read_items : goal.decreases-read_items
decreases-read_items l = 8 * sizes l.elements

abbrev pub decreases-read_elements : goal.decreases-read_elements
decreases-read_elements l = 8 * sizes l.elements

abbrev pub decreases-read_under : goal.decreases-read_under
decreases-read_under l = 8 * size l.step.now.value + 2

abbrev pub decreases-read_wrapped : goal.decreases-read_wrapped
decreases-read_wrapped l = 8 * (size l.step.now.value + sizes l.rest) + 6

abbrev pub decreases-after_code : goal.decreases-after_code
decreases-after_code l = 8 * sizes l.rest + 1

abbrev pub decreases-read_scope : goal.decreases-read_scope
decreases-read_scope l = 8 * size l.value.now + 4

abbrev pub decreases-read_entries : goal.decreases-read_entries
decreases-read_entries l = 8 * size l.value.now + 3

abbrev pub decreases-read_extended_value : goal.decreases-read_extended_value
decreases-read_extended_value l = 8 * scope_size (extended_view l.value) + 5

-- the items so far, and what is left of the array, are all that is in it
abbrev pub invariant-read_items-step : goal.invariant-read_items-step
invariant-read_items-step l =
    (l.index + count l.elements < 2 ^ 64) × (sizes l.elements ≤ sizes l.fn.elements) × (each (items_by tree_at) l.index l.elements (items_marked l.items.items) ≡ items_from l.fn.elements)

abbrev pub decreases-read_items-step : goal.decreases-read_items-step
decreases-read_items-step l = count l.elements

-- the entries so far are pairs, after which what is left of the document is read as all that is in it
abbrev pub invariant-read_elements-step : goal.invariant-read_elements-step
invariant-read_elements-step l =
    (sizes l.elements ≤ sizes l.fn.elements) × IsIndexed l.entries × (form_view (key_form l.entries) ≡ leaf String)
    × ((ps : Pairs) × (entries_marked (entries_of l.entries) ≡ pair_data made ps) × (elements_from l.elements ps ≡ elements_from l.fn.elements no_pairs))

abbrev pub decreases-read_elements-step : goal.decreases-read_elements-step
decreases-read_elements-step l = count l.elements
