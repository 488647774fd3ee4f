use Rattle.std.proofs.Common.{Ok, Err, map, string_bytes}
use Rattle.bson_recast_run.proofs.AskedFor.{asked_behind}
use Rattle.bson_recast_run.proofs.running.asked_job.Goals as goal

pub returns-in-Ok : goal.returns-in-Ok
returns-in-Ok c =
    asked_behind (map string_bytes c.args.words.now) (map string_bytes c.leading_options.result.1.now) c.leading_options.result.0 (Ok c.in-Ok.shape) c.leading_options.ensures.options c.leading_options.ensures.rest
    (rw c.in-Ok.is at c.in_ok-shape.ensures)

pub returns-in-Err : goal.returns-in-Err
returns-in-Err c =
    asked_behind (map string_bytes c.args.words.now) (map string_bytes c.leading_options.result.1.now) c.leading_options.result.0 (Err c.in-Err.line) c.leading_options.ensures.options c.leading_options.ensures.rest
    (rw c.in-Err.is at c.in_ok-shape.ensures)
