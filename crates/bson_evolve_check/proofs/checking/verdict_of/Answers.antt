use Rattle.bson_evolve_check.proofs.checking.verdict_of.Goals as goal

pub returns-in-None : goal.returns-in-None
returns-in-None c = λ old new finds. rw c.in-None.is at finds

pub returns-in-Some : goal.returns-in-Some
returns-in-Some c = λ old new finds. rw c.in-Some.is at finds
