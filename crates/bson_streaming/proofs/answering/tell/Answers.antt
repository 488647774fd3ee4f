use Rattle.std.proofs.Common.{◌∙◌}
use Rattle.bson_streaming.proofs.Dues.{line_broken, as_told}
use Rattle.bson_streaming.proofs.answering.tell.Goals as goal

pub returns-in_err-write_due-clause-told : goal.returns-in_err-write_due-clause-told
returns-in_err-write_due-clause-told g c =
    as_told _ _ _ _ _ c.from_residual-in_err-write_due.result c.from_residual-in_err-write_due.ensures.1
    (line_broken _ _ _ _ c.as_bytes.result.now _ c.in_ok-flush.ensures.flushed c.in_ok-flush.ensures.all (c.as_bytes.ensures.value ∙ c.in_ok-line.ensures) c.in_err-write_due.ensures.part c.in_err-write_due.ensures.cause.failed)
