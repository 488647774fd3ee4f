use Rattle.std.proofs.Common.{◌≡◌, ◌+◌, ◌*◌, ◌++◌, map, take, string_bytes}
use Rattle.bson_shape.specs.ShapeView.{fields_of, parts_of, variants_of, content_of, nodes, fields_nodes, parts_nodes, variants_nodes, content_nodes}
use Rattle.bson_shape.specs.Notation.{listed, text}
use Rattle.bson_shape.proofs.Printed.{field_shown, variant_shown}
use Rattle.bson_shape.proofs.printer.+put.Given as goal

-- what a variant has counts once more than the list in it
abbrev pub decreases-put : goal.decreases-put
decreases-put l = 2 * nodes l.shape.now

abbrev pub decreases-put_marked : goal.decreases-put_marked
decreases-put_marked l = 2 * nodes l.shape.now + 1

abbrev pub decreases-put_struct : goal.decreases-put_struct
decreases-put_struct l = 2 * fields_nodes (fields_of l.fields.now) + 1

abbrev pub decreases-put_map : goal.decreases-put_map
decreases-put_map l = 2 * (nodes l.key.now + nodes l.value.now) + 1

abbrev pub decreases-put_forms : goal.decreases-put_forms
decreases-put_forms l = 2 * (nodes l.readable.now + nodes l.compact.now) + 1

abbrev pub decreases-put_fields : goal.decreases-put_fields
decreases-put_fields l = 2 * fields_nodes (fields_of l.fields.now)

abbrev pub decreases-put_parts : goal.decreases-put_parts
decreases-put_parts l = 2 * parts_nodes (parts_of l.parts.now)

abbrev pub decreases-put_variants : goal.decreases-put_variants
decreases-put_variants l = 2 * variants_nodes (variants_of l.variants.now)

abbrev pub decreases-put_content : goal.decreases-put_content
decreases-put_content l = 2 * content_nodes (content_of l.content.now) + 1

-- those so far are written
abbrev pub invariant-put_fields-loop-i : goal.invariant-put_fields-loop-i
invariant-put_fields-loop-i l = string_bytes l.out ≡ string_bytes l.initial.out ++ listed (map (field_shown l.divider) (take l.i l.fields))

abbrev pub invariant-put_parts-loop-i : goal.invariant-put_parts-loop-i
invariant-put_parts-loop-i l = string_bytes l.out ≡ string_bytes l.initial.out ++ listed (map text (take l.i l.parts))

abbrev pub invariant-put_variants-loop-i : goal.invariant-put_variants-loop-i
invariant-put_variants-loop-i l = string_bytes l.out ≡ string_bytes l.initial.out ++ listed (map variant_shown (take l.i l.variants))
