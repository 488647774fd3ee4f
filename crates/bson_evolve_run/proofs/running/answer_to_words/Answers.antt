use Rattle.std.proofs.Common.{Ok, Err, string_bytes}
use Rattle.bson_evolve_run.specs.Lines.{old_word}
use Rattle.bson_evolve_run.specs.TwoShapes.{IsShapeOf}
use Rattle.bson_evolve_run.proofs.Answering.{ok_map, old_expected}
use Rattle.bson_evolve_run.proofs.running.answer_to_words.Goals as goal

pub returns-in-Ok : goal.returns-in-Ok
returns-in-Ok c =
    let first : IsShapeOf old_word c.args.old.now (Ok c.in-Ok.shape) = rw c.in-Ok.is at c.in_ok-shape.ensures.exact in
    ok_map c.answer_to_second.result _ _ (λ a expected. expected c.args.old.now first) c.answer_to_second.ensures

pub returns-in-Err : goal.returns-in-Err
returns-in-Err c =
    let first : IsShapeOf old_word c.args.old.now (Err c.in-Err.line) = rw c.in-Err.is at c.in_ok-shape.ensures.exact in
    old_expected c.args.old.now c.args.new.now (string_bytes c.in-Err.line) first.0 first.1 c.line.result c.line.ensures.status c.line.ensures.bytes c.line.ensures.lines
