use Rattle.std.proofs.Common.{refl, inr}
use Rattle.bson_program.proofs.Prepares.{whole_expected}
use Rattle.bson_program.specs.Ends.{ReadAs, source_change}
use Rattle.bson_program.specs.Input.{IsUnread}
use Rattle.bson_program.specs.Prepared.{Says}
use Rattle.bson_recast_run.specs.Rows.{AnswersJob, recast_input}
use Rattle.bson_recast_run.proofs.running.answer_to_job.Goals as goal

pub returns-in-Ok-clause-expected : goal.returns-in-Ok-clause-expected
returns-in-Ok-clause-expected g c =
    let input = source_change g.I.Source.left g.I.Source.faults c.args.input.now c.read_input.new.input in
    let read : ReadAs input c.in-Ok.bytes.items = rw c.in-Ok.is at c.in_ok-bytes.ensures.taken in
    whole_expected recast_input (AnswersJob c.args.job.now) input c.in-Ok.bytes.items c.in-Ok.bytes.items c.answer_to_input.result read refl c.answer_to_input.ensures

pub returns-in-Err-clause-expected : goal.returns-in-Err-clause-expected
returns-in-Err-clause-expected g c =
    let input = source_change g.I.Source.left g.I.Source.faults c.args.input.now c.read_input.new.input in
    let unread : Says (IsUnread recast_input input) c.in-Err.answer = rw c.in-Err.is at c.in_ok-bytes.ensures.taken in
    inr unread
