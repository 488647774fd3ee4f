-- The values of a struct's two fields, from the elements of an array by their places.
use Rattle.std.proofs.Common.{◌≡◌, [], ◌∷◌, Option, Some, None, Ok, Err, ap, ◌∙◌}
use Rattle.bson_kinds.specs.Outcome.{◌>>=◌, result_map}
use Rattle.bson_rawdoc.specs.Node.{Nodes}
use Rattle.bson_kinds.specs.Piece.{made}
use Rattle.bson_values.specs.Marked.{Marked, MarkedFields}
use Rattle.bson_values.specs.Refusal.{ReadFault, Refusal}
use Rattle.bson_values.specs.Value.{no_field_values, field_value}
use Rattle.bson_laws.specs.Judged.{Reading}
use Rattle.bson_laws.specs.Slots.{Slot, reads_places}
use Rattle.bson_met.specs.Gives.{RefusesAs}
use Rattle.bson_laws.specs.Containers.{next_value, behind_first}

-- a field's value before the others
abbrev named : Slot → Marked → Reading MarkedFields → Reading MarkedFields
named slot v = result_map (field_value (made slot.name) v)

-- the second value is refused, and so are the two
pub second_stops : (one other : Slot) (ns : Nodes) (v : Marked) (r : Option (Refusal ReadFault)) → next_value 0 one.read ns ≡ Ok v → RefusesAs r (next_value 1 other.read (behind_first ns)) → RefusesAs r (reads_places 0 (one ∷ other ∷ []) ns)
second_stops one other ns v None first second = second
second_stops one other ns v (Some r) first second =
    ap (λ (s : Reading Marked). s >>= λ x. named one x (reads_places 1 (other ∷ []) (behind_first ns))) first
    ∙ ap (named one v) (ap (λ (s : Reading Marked). s >>= λ x. named other x (Ok no_field_values)) second)
