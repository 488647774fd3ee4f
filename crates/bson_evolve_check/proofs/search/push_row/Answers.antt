use Rattle.std.proofs.Common.{sym}
use Rattle.bson_evolve_check.proofs.search.push_row.Goals as goal

pub row_of-requires : goal.row_of-requires
row_of-requires c = c.requires

pub returns-in_ok-push_steps-in-Some : goal.returns-in_ok-push_steps-in-Some
returns-in_ok-push_steps-in-Some c = (c.in-Some.steps.items, sym (rw c.in-Some.is at c.in_ok-steps.ensures), c.in_ok-push_steps-in-Some.ensures)

pub returns-in-None : goal.returns-in-None
returns-in-None c = sym (rw c.in-None.is at c.in_ok-steps.ensures)
