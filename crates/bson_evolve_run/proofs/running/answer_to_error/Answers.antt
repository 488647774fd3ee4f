use Rattle.std.proofs.Common.{inl, inr}
use Rattle.bson_laws.specs.Plain.{IsPlain}
use Rattle.bson_evolve_run.proofs.Answering.{ok_map}
use Rattle.bson_evolve_run.proofs.running.answer_to_error.Goals as goal

pub returns-in-OldNotPlain : goal.returns-in-OldNotPlain
returns-in-OldNotPlain c =
    ok_map c.refusal.result _ _ (λ a refusal old new found. let other : IsPlain old → ⊥ = rw c.in-OldNotPlain.is at found in inr (inl (other, refusal))) c.refusal.ensures

pub returns-in-NewNotPlain : goal.returns-in-NewNotPlain
returns-in-NewNotPlain c =
    ok_map c.refusal-in-NewNotPlain.result _ _
    (λ a refusal old new found. let others : IsPlain old × (IsPlain new → ⊥) = rw c.in-NewNotPlain.is at found in inr (inr (others.0, others.1, refusal))) c.refusal-in-NewNotPlain.ensures
