use Rattle.bson_buffers.proofs.Pieces.{ends, starts_whole, starts_broken, starts_piece}
use Rattle.bson_buffers.proofs.finding.document_at.Goals as goal

pub returns-then-place-file : goal.returns-then-place-file
returns-then-place-file c = record { found = ends c.args.file.now c.args.place c.if-place-file.true }

pub returns-in-Some-Ok : goal.returns-in-Some-Ok
returns-in-Some-Ok c = record {
  found = starts_piece c.args.file.now c.args.place c.new.result c.new.ensures.cut c.in-Some-Ok.document.now c.next.new.self c.if-place-file.false (rw c.in-Some-Ok.field-0-is at c.in-Some-Ok.ensures.steps);
}

pub returns-in-Some-Err : goal.returns-in-Some-Err
returns-in-Some-Err c =
    let step = rw c.in-Some-Err.field-0-is at c.in-Some-Err.ensures.steps in
    record { found = starts_broken c.args.file.now c.args.place c.new.result c.new.ensures.cut c.in-Some-Err.field-0-0 step.0 }

pub returns-in-None : goal.returns-in-None
returns-in-None c = record { found = starts_whole c.args.file.now c.args.place c.new.result c.new.ensures.cut c.in-None.ensures.steps.0 }
