use Rattle.std.proofs.Common.{◌≡◌, ◌*◌, drop}
use Rattle.bson_shape.specs.ShapeView.{fields_of, nodes, fields_nodes}
use Rattle.bson_moved.specs.Simple.{are_simple}
use Rattle.bson_moved.proofs.shapes.+simple.Given as goal

-- a list counts twice
abbrev pub decreases-is_simple : goal.decreases-is_simple
decreases-is_simple l = 2 * nodes l.shape.now

abbrev pub decreases-are_simple : goal.decreases-are_simple
decreases-are_simple l = 2 * fields_nodes (fields_of l.fields.now)

abbrev pub invariant-are_simple-loop-field : goal.invariant-are_simple-loop-field
invariant-are_simple-loop-field l = are_simple (fields_of (drop l.field-index l.fields)) ≡ are_simple (fields_of (drop 0 l.fields))
