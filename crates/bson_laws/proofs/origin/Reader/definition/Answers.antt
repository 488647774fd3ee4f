use Rattle.std.proofs.Common.{sym}
use Rattle.bson_shape.specs.ShapeView.{fields_of}
use Rattle.bson_laws.proofs.Scoped.{meaning_lacks}
use Rattle.bson_laws.proofs.origin.Reader.definition.Goals as goal

pub returns-in-None : goal.returns-in-None
returns-in-None c =
    let r = c.args.self.now in
    record { means = meaning_lacks r.rounds r.steps (fields_of r.table.now) c.args.name.now (sym c.in-None.ensures) }

pub returns-in-Some : goal.returns-in-Some
returns-in-Some c = record { means = c.followed.ensures c.args.name.now (sym c.in-Some.ensures) }
