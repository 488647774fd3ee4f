use Rattle.std.proofs.Common.{map, string_bytes, subst}
use Rattle.bson_program.proofs.Prepares.{job_expected}
use Rattle.bson_program.specs.Command.{IsAskedFor}
use Rattle.bson_program.specs.Ends.{source_change}
use Rattle.bson_recast_run.specs.declared.options.Request.TheVariants as requests
use Rattle.bson_recast_run.specs.Rows.{recast_program}
use Rattle.bson_recast_run.proofs.RowsExpected.{keeps_same, rows_expected}
use Rattle.bson_recast_run.proofs.running.prepare.Goals as goal

pub returns-in-Ok-Recast-clause-expected : goal.returns-in-Ok-Recast-clause-expected
returns-in-Ok-Recast-clause-expected g c =
    let input = source_change g.I.Source.left g.I.Source.faults c.args.input.now c.answer_to_job.new.input in
    let asked : IsAskedFor recast_program.command (map string_bytes c.args.words.now) (requests.Recast c.in-Ok-Recast.job) =
    subst (IsAskedFor recast_program.command (map string_bytes c.args.words.now)) c.in-Ok-Recast.field-0-is (rw c.in-Ok-Recast.is at c.in_ok-job.ensures) in
    job_expected recast_program _ input (requests.Recast c.in-Ok-Recast.job) c.answer_to_job.result asked c.answer_to_job.ensures.expected

pub returns-in-Ok-Make-clause-expected : goal.returns-in-Ok-Make-clause-expected
returns-in-Ok-Make-clause-expected g c =
    let input = source_change g.I.Source.left g.I.Source.faults c.args.input.now c.args.input.now in
    let asked : IsAskedFor recast_program.command (map string_bytes c.args.words.now) (requests.Make c.in-Ok-Make.rows) =
    subst (IsAskedFor recast_program.command (map string_bytes c.args.words.now)) c.in-Ok-Make.field-0-is (rw c.in-Ok-Make.is at c.in_ok-job.ensures) in
    rows_expected (map string_bytes c.args.words.now) input c.in-Ok-Make.rows c.answer_to_rows.result asked (keeps_same input.before) c.answer_to_rows.ensures
