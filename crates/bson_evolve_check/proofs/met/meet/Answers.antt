use Rattle.bson_evolve_check.proofs.Meets.{meeting}
use Rattle.bson_evolve_check.proofs.met.meet.Goals as goal

pub returns-clause-met : goal.returns-clause-met
returns-clause-met c = λ parts pairs p different holds old new.
    meeting parts different c.args.met.now c.insert.new.self pairs holds (c.args.old, c.args.new) p (record { old = old; new = new }) c.in_ok-insert.ensures.updates.0 c.in_ok-insert.field-0 c.in_ok-insert.ensures.added
