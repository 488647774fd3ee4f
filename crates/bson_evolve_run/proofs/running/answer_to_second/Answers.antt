use Rattle.std.proofs.Common.{Ok, Err, string_bytes}
use Rattle.bson_evolve_run.specs.Lines.{new_word}
use Rattle.bson_evolve_run.specs.TwoShapes.{IsShapeOf}
use Rattle.bson_evolve_run.proofs.Answering.{expected_is, new_expected, ok_map}
use Rattle.bson_evolve_run.proofs.running.answer_to_second.Goals as goal

pub returns-in-Ok : goal.returns-in-Ok
returns-in-Ok c =
    let second : IsShapeOf new_word c.args.word.now (Ok c.in-Ok.new) = rw c.in-Ok.is at c.in_ok-new.ensures.exact in
    ok_map c.answer_to.result _ _ (λ a expected first read. expected_is first c.args.word.now c.args.old.now read.0 read.1 c.in-Ok.new second.0 second.1 a.status a.bytes.items (string_bytes a.lines) expected) c.answer_to.ensures

pub returns-in-Err : goal.returns-in-Err
returns-in-Err c = λ first read.
    let second : IsShapeOf new_word c.args.word.now (Err c.in-Err.line) = rw c.in-Err.is at c.in_ok-new.ensures.exact in
    new_expected first c.args.word.now c.args.old.now read.0 read.1 (string_bytes c.in-Err.line) second.0 second.1 c.line.result c.line.ensures.status c.line.ensures.bytes c.line.ensures.lines
