use Rattle.std.proofs.Common.{ap, sym, subst, ◌∙◌, string_bytes}
use Rattle.bson_migrate_run.specs.Lines.{refused_lines}
use Rattle.bson_migrate_run.specs.Migrating.{migration_of}
use Rattle.bson_migrate_run.specs.Rows.{listed_status, AnswersMigration}
use Rattle.bson_migrate_run.proofs.LinesExpected.{answers_of}
use Rattle.bson_migrate_run.proofs.running.answer_to.Goals as goal

pub returns : goal.returns
returns c =
    let m = c.in-Ok.migration in
    let status = sym (c.status_of.ensures ∙ ap listed_status c.deref-2.ensures.value) in
    let lines = sym (c.in_ok-lines.ensures.lines ∙ ap refused_lines c.deref.ensures.value) in
    subst (λ s. AnswersMigration (migration_of c.args.shape.now c.args.bytes.now) s m.output.items (string_bytes c.in_ok-lines.lines)) status
    (subst (λ l. AnswersMigration (migration_of c.args.shape.now c.args.bytes.now) (listed_status m.refused.items) m.output.items l) lines
    (answers_of c.args.shape.now c.args.bytes.now m c.in-Ok.ensures.exact))
