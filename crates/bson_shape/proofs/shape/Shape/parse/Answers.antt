use Rattle.bson_shape.proofs.Parsed.{found, only, met, placed, refused, no_memory}
use Rattle.bson_shape.proofs.shape.Shape.parse.Goals as goal

pub returns-clause-found : goal.returns-clause-found
returns-clause-found c = found c.args.text.now c.read.result c.read.ensures

pub returns-clause-only : goal.returns-clause-only
returns-clause-only c = only c.args.text.now c.read.result c.read.ensures

pub returns-clause-refused : goal.returns-clause-refused
returns-clause-refused c = refused c.args.text.now c.read.result c.utf8.text c.read.ensures

pub returns-clause-memory : goal.returns-clause-memory
returns-clause-memory c = no_memory c.args.text.now c.read.result c.utf8.text c.read.ensures

pub returns-clause-met : goal.returns-clause-met
returns-clause-met c = met c.args.text.now c.read.result c.read.ensures

pub returns-clause-not_notation : goal.returns-clause-not_notation
returns-clause-not_notation c = placed c.args.text.now c.read.result c.utf8.text c.read.ensures
