use Rattle.bson_pass_parts.proofs.Values.{node_of}
use Rattle.bson_pass_parts.proofs.element.value_of.Goals as goal

pub returns-in-Ok : goal.returns-in-Ok
returns-in-Ok c = node_of c.args.levels c.args.element.now.kind c.args.element.now.value c.in-Ok.value c.in-Ok.ensures.value
