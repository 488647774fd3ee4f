use Rattle.std.proofs.Common.{◌+◌, ◌*◌}
use Rattle.bson_shape.specs.ShapeView.{fields_of, nodes, fields_nodes}
use Rattle.bson_shape.proofs.guarded.+ends.Given as goal

-- names that may follow count more than any definition
abbrev pub decreases-name_ends : goal.decreases-name_ends
decreases-name_ends l = l.most * (fields_nodes (fields_of l.table.now) + 1)

abbrev pub decreases-all_lead_to_ends : goal.decreases-all_lead_to_ends
decreases-all_lead_to_ends l = l.most * (fields_nodes (fields_of l.table.now) + 1) + nodes l.shape.now
