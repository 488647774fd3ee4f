use Rattle.std.proofs.Common.{ap, ◌∙◌}
use Rattle.bson_base.specs.BsonView.{trees_of}
use Rattle.bson_rawdoc.proofs.TreeSteps.{last_of}
use Rattle.bson_rawdoc.proofs.tree.push.Goals as goal

pub returns : goal.returns
returns c = ap trees_of c.in_ok-push.ensures.items ∙ last_of c.args.values.now.items c.args.value
