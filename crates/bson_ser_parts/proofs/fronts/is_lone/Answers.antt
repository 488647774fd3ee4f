use Rattle.bson_ser_parts.proofs.Lone.{not_lone}
use Rattle.bson_ser_parts.proofs.fronts.is_lone.Goals as goal

pub returns-else-is_empty : goal.returns-else-is_empty
returns-else-is_empty c =
    rw (c.in-Some.ensures.cases.0, c.if-is_empty.false)
    (not_lone c.args.name.now c.in-Some.field.now c.in-Some.rest.now c.if-is_empty.ensures)
