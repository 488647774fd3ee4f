use Rattle.std.proofs.Common.{Ok, Err, map, string_bytes, sym, ◌∙◌}
use Rattle.bson_recast_run.proofs.RowsAsked.{asked_rows, asked_no_rows}
use Rattle.bson_recast_run.proofs.running.asked.Goals as goal

pub returns-in-Some : goal.returns-in-Some
returns-in-Some c = asked_rows (map string_bytes c.args.words.now) c.in-Some.rows (sym c.rows_asked.ensures ∙ c.in-Some.is)

pub returns-in-Ok : goal.returns-in-Ok
returns-in-Ok c = asked_no_rows (map string_bytes c.args.words.now) (Ok c.in-Ok.job) (sym c.rows_asked.ensures ∙ c.in_default.is) (rw c.in-Ok.is at c.in_ok-job.ensures)

pub returns-in-Err : goal.returns-in-Err
returns-in-Err c = asked_no_rows (map string_bytes c.args.words.now) (Err c.in-Err.line) (sym c.rows_asked.ensures ∙ c.in_default.is) (rw c.in-Err.is at c.in_ok-job.ensures)
