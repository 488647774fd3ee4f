use Rattle.std.proofs.Common.{arith}
use Rattle.bson_recasting.proofs.Again.{given_back}
use Rattle.bson_tree_recast.proofs.Written.{same_at}
use Rattle.bson_recasting.proofs.Migrates.{migrates, for_size, for_no_number}
use Rattle.bson_recasting.proofs.recasting.recast.Goals as goal

pub returns-clause-migrates : goal.returns-clause-migrates
returns-clause-migrates c = λ t u d plain sound view mean clean is. migrates c.args.shape.now c.args.bytes.now t u d c.known.ensures.shape plain sound view mean clean is c.through.result c.through.ensures

pub returns-clause-again : goal.returns-clause-again
returns-clause-again c = λ expected. given_back c.args.shape.now c.args.bytes.now c.known.ensures.shape expected (λ k d lt. omega (arith, c.type_inv.bytes k, same_at c.args.bytes.now k d lt)) c.through.result c.through.ensures

pub returns-clause-too_large : goal.returns-clause-too_large
returns-clause-too_large c = λ writable. for_size c.args.shape.now c.args.bytes.now (λ k d lt. omega (arith, c.type_inv.bytes k, same_at c.args.bytes.now k d lt)) c.known.ensures.shape writable c.through.result c.through.ensures

pub returns-clause-numbers : goal.returns-clause-numbers
returns-clause-numbers c = for_no_number c.args.shape.now c.args.bytes.now (λ k d lt. omega (arith, c.type_inv.bytes k, same_at c.args.bytes.now k d lt)) c.through.result c.through.ensures
