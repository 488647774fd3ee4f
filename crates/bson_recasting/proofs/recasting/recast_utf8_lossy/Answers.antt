use Rattle.std.proofs.Common.{arith}
use Rattle.bson_recasting.proofs.Again.{given_lossy_back}
use Rattle.bson_tree_recast.proofs.Written.{same_at}
use Rattle.bson_recasting.proofs.Migrates.{lossy_migrates, lossy_for_size, lossy_no_number}
use Rattle.bson_recasting.proofs.recasting.recast_utf8_lossy.Goals as goal

pub returns-clause-migrates : goal.returns-clause-migrates
returns-clause-migrates c = λ t u d owned plain sound view mean clean is. lossy_migrates c.args.shape.now c.args.bytes.now t u d c.known.ensures.shape plain sound view mean clean is owned c.through_lossy.result c.through_lossy.ensures

pub returns-clause-again : goal.returns-clause-again
returns-clause-again c = λ expected. given_lossy_back c.args.shape.now c.args.bytes.now c.known.ensures.shape expected (λ k d lt. omega (arith, c.type_inv.bytes k, same_at c.args.bytes.now k d lt)) c.through_lossy.result c.through_lossy.ensures

pub returns-clause-too_large : goal.returns-clause-too_large
returns-clause-too_large c = λ writable. lossy_for_size c.args.shape.now c.args.bytes.now (λ k d lt. omega (arith, c.type_inv.bytes k, same_at c.args.bytes.now k d lt)) c.known.ensures.shape writable c.through_lossy.result c.through_lossy.ensures

pub returns-clause-numbers : goal.returns-clause-numbers
returns-clause-numbers c = lossy_no_number c.args.shape.now c.args.bytes.now (λ k d lt. omega (arith, c.type_inv.bytes k, same_at c.args.bytes.now k d lt)) c.through_lossy.result c.through_lossy.ensures
