use Rattle.std.proofs.Common.{inl, inr, map, string_bytes}
use Rattle.bson_program.proofs.Prepares.{job_expected, whole_expected}
use Rattle.bson_program.specs.Command.{IsAskedFor}
use Rattle.bson_program.specs.Ends.{ReadAs, source_change}
use Rattle.bson_program.specs.Input.{IsUnread}
use Rattle.bson_program.specs.Prepared.{Says}
use Rattle.bson_migrate_run.specs.Migrating.{migration_of}
use Rattle.bson_migrate_run.specs.Rows.{AnswersMigration, migrate_input, migrate_program}
use Rattle.bson_migrate_run.proofs.running.prepare.Goals as goal

pub returns-in-Ok-2-clause-expected : goal.returns-in-Ok-2-clause-expected
returns-in-Ok-2-clause-expected g c =
    let input = source_change g.I.Source.left g.I.Source.faults c.args.input.now c.read_input.new.input in
    let asked : IsAskedFor migrate_program.command (map string_bytes c.args.words.now) c.in-Ok.shape = rw c.in-Ok.is at c.in_ok-shape.ensures in
    let read : ReadAs input c.in-Ok-2.bytes.items = rw c.in-Ok-2.is at c.in_ok-bytes.ensures.taken in
    job_expected migrate_program _ input c.in-Ok.shape c.answer_to.result asked
    (whole_expected migrate_input (λ bytes. AnswersMigration (migration_of c.in-Ok.shape bytes)) input c.in-Ok-2.bytes.items c.deref.result.now c.answer_to.result read c.deref.ensures.value c.answer_to.ensures)

pub returns-clause-expected : goal.returns-clause-expected
returns-clause-expected g c =
    let input = source_change g.I.Source.left g.I.Source.faults c.args.input.now c.read_input.new.input in
    let asked : IsAskedFor migrate_program.command (map string_bytes c.args.words.now) c.in-Ok.shape = rw c.in-Ok.is at c.in_ok-shape.ensures in
    let unread : Says (IsUnread migrate_input input) c.in-Err-2.answer = rw c.in-Err-2.is at c.in_ok-bytes.ensures.taken in
    inl (record { job = c.in-Ok.shape; asked = asked; answer = inr unread })
