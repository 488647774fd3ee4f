use Rattle.std.proofs.Common.{sym}
use Rattle.bson_evolve_check.proofs.Found.{has_lacking, has_placed}
use Rattle.bson_evolve_check.proofs.content.is_field.Goals as goal

pub returns-in-Some-clause-is : goal.returns-in-Some-clause-is
returns-in-Some-clause-is c = sym (has_placed c.args.index.now.items.now c.args.name.now _ (sym c.in-Some.ensures.place))

pub returns-in-None-clause-is : goal.returns-in-None-clause-is
returns-in-None-clause-is c = sym (has_lacking c.args.index.now.items.now c.args.name.now (sym c.in-None.ensures.place))
