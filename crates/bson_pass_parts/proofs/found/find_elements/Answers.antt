use Rattle.std.proofs.Common.{rules}
use Rattle.bson_rawdoc.specs.Node.{node_in, nodes_with}
use Rattle.bson_rawdoc.specs.Walk.{walk_elements}
use Rattle.bson_slots.specs.FieldsRead.{unknown_of}
use Rattle.bson_pass_parts.proofs.AnyOrder.{found_none}
use Rattle.bson_pass_parts.proofs.found.find_elements.Goals as goal

pub loop-step-init : goal.loop-step-init
loop-step-init c = λ r.
    let levels = c.args.levels in
    found_none r (unknown_of c.args.closed) levels c.args.front.now c.args.fields.now (nodes_with (node_in levels) (walk_elements c.args.elements.now)) c.in_ok-found.found.items (search rules)
