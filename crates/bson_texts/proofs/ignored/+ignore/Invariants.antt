use Rattle.std.proofs.Common.{◌≡◌, ◌+◌, ◌*◌, ◌<◌, ◌≤◌, ◌^◌}
use Rattle.bson_laws.specs.Judged.{at_its_key, at_its_index, pass_nodes}
use Rattle.bson_met.specs.OpenedView.{extended_view}
use Rattle.bson_met.specs.Sizes.{size, sizes, scope_size, count}
use Rattle.bson_texts.proofs.Each.{each}
use Rattle.bson_texts.proofs.Loops.{pass_by}
use Rattle.bson_texts.proofs.ignored.+ignore.Given as goal

abbrev pub decreases-ignore : goal.decreases-ignore
decreases-ignore l = 3 * size l.value.now + 1

abbrev pub decreases-ignore_other : goal.decreases-ignore_other
decreases-ignore_other l = 3 * size l.value.now

abbrev pub decreases-ignore_scope : goal.decreases-ignore_scope
decreases-ignore_scope l = 3 * scope_size (extended_view l.value) + 2

abbrev pub decreases-ignore_elements : goal.decreases-ignore_elements
decreases-ignore_elements l = 3 * sizes l.elements

abbrev pub decreases-ignore_items : goal.decreases-ignore_items
decreases-ignore_items l = 3 * sizes l.items

abbrev pub invariant-ignore_elements-step : goal.invariant-ignore_elements-step
invariant-ignore_elements-step l = (sizes l.elements ≤ sizes l.fn.elements) × (each (pass_by at_its_key) 0 l.elements tt ≡ pass_nodes at_its_key 0 l.fn.elements)

abbrev pub decreases-ignore_elements-step : goal.decreases-ignore_elements-step
decreases-ignore_elements-step l = count l.elements

abbrev pub invariant-ignore_items-step : goal.invariant-ignore_items-step
invariant-ignore_items-step l =
    (l.index + count l.items < 2 ^ 64) × (sizes l.items ≤ sizes l.fn.items) × (each (pass_by at_its_index) l.index l.items tt ≡ pass_nodes at_its_index 0 l.fn.items)

abbrev pub decreases-ignore_items-step : goal.decreases-ignore_items-step
decreases-ignore_items-step l = count l.items
