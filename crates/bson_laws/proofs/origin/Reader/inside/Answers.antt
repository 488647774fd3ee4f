use Rattle.bson_shape.specs.ShapeView.{fields_of}
use Rattle.bson_laws.proofs.Scoped.{meaning_top}
use Rattle.bson_laws.proofs.origin.Reader.inside.Goals as goal

pub returns-clause-meanings : goal.returns-clause-meanings
returns-clause-meanings c = meaning_top (fields_of c.args.table.now)
