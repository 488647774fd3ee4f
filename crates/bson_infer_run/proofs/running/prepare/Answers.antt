use Rattle.std.proofs.Common.{inl, inr, map, string_bytes}
use Rattle.bson_program.specs.Ends.{source_change}
use Rattle.bson_program.specs.Input.{IsUnread}
use Rattle.bson_program.specs.Prepared.{Says}
use Rattle.bson_infer_run.specs.Rows.{infer_input}
use Rattle.bson_infer_run.proofs.Answered.{asked_none, no_words_left}
use Rattle.bson_infer_run.proofs.running.prepare.Goals as goal

pub returns-in-Err-clause-expected : goal.returns-in-Err-clause-expected
returns-in-Err-clause-expected g c =
    let input = source_change g.I.Source.left g.I.Source.faults c.args.input.now c.read_input.new.input in
    let unread : Says (IsUnread infer_input input) c.in-Err.answer = rw c.in-Err.is at c.in_ok-bytes.ensures.taken in
    inl (record { job = tt; asked = asked_none (map string_bytes c.args.words.now) (no_words_left c.args.words.now c.is_empty.result c.is_empty.ensures c.if-not-is_empty.false); answer = inr unread })
