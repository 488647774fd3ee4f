use Rattle.std.proofs.Common.{◌+◌, ◌*◌}
use Rattle.bson_shape.specs.ShapeView.{fields_of, nodes}
use Rattle.bson_laws.specs.Scopes.{meanings_of, laid}
use Rattle.bson_laws.specs.Unrolled.{in_table, max_steps}
use Rattle.bson_pass_parts.proofs.taken.+taken.Given as goal

abbrev pub decreases-is_taken : goal.decreases-is_taken
decreases-is_taken l = 2 * nodes (laid l.reader.now l.shape.now)

abbrev pub decreases-is_reference_taken : goal.decreases-is_reference_taken
decreases-is_reference_taken l = 2 * nodes (meanings_of l.reader.now l.name.now) + 1

abbrev pub decreases-is_taken_inside : goal.decreases-is_taken_inside
decreases-is_taken_inside l = 2 * nodes (in_table max_steps (fields_of l.table.now) l.inner.now) + 1
