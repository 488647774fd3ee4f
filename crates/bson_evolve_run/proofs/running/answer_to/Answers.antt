use Rattle.std.proofs.Common.{inl}
use Rattle.bson_evolve_run.specs.TwoShapes.{shapes_of, AreGood}
use Rattle.bson_evolve_run.proofs.Answering.{ok_map}
use Rattle.bson_evolve_run.proofs.running.answer_to.Goals as goal

pub returns-in-Ok : goal.returns-in-Ok
returns-in-Ok c =
    let old = c.args.old.now in
    let new = c.args.new.now in
    let is = c.in-Ok.ensures.exact in
    let good : AreGood (shapes_of old new) = record { old_made = c.known.ensures.shape; new_made = c.known-2.ensures.shape; old_plain = is.0.old_plain; new_plain = is.0.new_plain } in
    ok_map c.answer_to_verdict.result _ _ (λ a expected. inl (expected old new is.1 good)) c.answer_to_verdict.ensures

pub returns-in-Err : goal.returns-in-Err
returns-in-Err c = ok_map c.answer_to_error.result _ _ (λ a expected. expected c.args.old.now c.args.new.now c.in-Err.ensures.exact) c.answer_to_error.ensures
