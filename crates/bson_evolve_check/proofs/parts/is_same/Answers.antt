use Rattle.std.proofs.lemmas.Bool.{OnTrue_from}
use Rattle.bson_evolve_check.proofs.parts.is_same.Goals as goal

pub returns-then-a-b-clause-form : goal.returns-then-a-b-clause-form
returns-then-a-b-clause-form c = OnTrue_from c.eq.result _ c.eq.ensures.equal.0
