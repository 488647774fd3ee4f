use Rattle.bson_ser_parts.proofs.DocumentCalls.{items_ended, entries_ended, items_unended, entries_unended, same_items_end, same_entries_end, not_open}
use Rattle.bson_ser_parts.proofs.document.DocumentWriter.end.Goals as goal
use Rattle.bson_ser_parts.proofs.document.DocumentWriter.end.Goals.{in-Ok, in-Err}

pub returns-then-failed-clause-items : goal.returns-then-failed-clause-items
returns-then-failed-clause-items g c = λ begun readable vs has. absurd (not_open begun readable c.args.self c.if-failed.true has.still)

pub returns-then-failed-clause-entries : goal.returns-then-failed-clause-entries
returns-then-failed-clause-entries g c = λ begun readable es has. absurd (not_open begun readable c.args.self c.if-failed.true has.still)

pub returns-then-failed-clause-failed : goal.returns-then-failed-clause-failed
returns-then-failed-clause-failed g c = λ begun h. (h.1, c.failed_before.ensures)

pub returns-clause-items : goal.returns-clause-items
returns-clause-items g c = elim c.match-end_begun.branch [
  | in-Ok w ↦
      same_items_end c.args.self c.match-end_begun.out _ c.match-end_begun.result _ w.out-is w.result-is
      (items_ended c.args.self c.end_begun.new.out c.args.steps.now c.end_begun.new.steps w.in-Ok.ensures.ok)
  | in-Err w ↦
      same_items_end c.args.self c.match-end_begun.out _ c.match-end_begun.result _ w.out-is w.result-is
      (items_unended c.args.self w.take_back.new.out.bytes w.take_back.result w.in-Err.halt c.end_begun.new.out c.args.steps.now c.end_begun.new.steps w.in-Err.ensures.grows w.take_back.ensures.cut w.in-Err.ensures.err w.take_back.ensures.placed)
]

pub returns-clause-entries : goal.returns-clause-entries
returns-clause-entries g c = elim c.match-end_begun.branch [
  | in-Ok w ↦
      same_entries_end c.args.self c.match-end_begun.out _ c.match-end_begun.result _ w.out-is w.result-is
      (entries_ended c.args.self c.end_begun.new.out c.args.steps.now c.end_begun.new.steps w.in-Ok.ensures.ok)
  | in-Err w ↦
      same_entries_end c.args.self c.match-end_begun.out _ c.match-end_begun.result _ w.out-is w.result-is
      (entries_unended c.args.self w.take_back.new.out.bytes w.take_back.result w.in-Err.halt c.end_begun.new.out c.args.steps.now c.end_begun.new.steps w.in-Err.ensures.grows w.take_back.ensures.cut w.in-Err.ensures.err w.take_back.ensures.placed)
]
