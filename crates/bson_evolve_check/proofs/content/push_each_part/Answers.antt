use Rattle.std.proofs.Common.{sym}
use Rattle.std.proofs.lemmas.List.{append-nil}
use Rattle.bson_evolve_check.specs.Steps.{steps_view}
use Rattle.bson_evolve_check.proofs.Pushes.{pushed}
use Rattle.bson_evolve_check.proofs.content.push_each_part.Goals as goal

pub returns-in-Unit : goal.returns-in-Unit
returns-in-Unit c = rw c.in-Unit.is (sym (append-nil (steps_view c.args.steps.now.items)))

pub returns-in_ok-push-in-Newtype : goal.returns-in_ok-push-in-Newtype
returns-in_ok-push-in-Newtype c = rw c.in-Newtype.is (pushed c.args.steps.now.items c.push.new.self.items c.in_variant.result _ c.in_ok-push-in-Newtype.ensures.items c.in_variant.ensures)
