use Rattle.std.proofs.Common.{arith}
use Rattle.bson_tree_recast.proofs.Numbers.{for_no_number}
use Rattle.bson_tree_recast.proofs.Written.{same_at}
use Rattle.bson_tree_recast.proofs.Ways.{gives_same, takes_same}
use Rattle.bson_tree_recast.proofs.by_tree.recast_by_tree.Goals as goal

pub returns-clause-agrees : goal.returns-clause-agrees
returns-clause-agrees c =
    λ suits free common. gives_same c.args.shape.now c.args.bytes.now c.known.ensures.shape (λ k d lt. omega (arith, c.type_inv.bytes k, same_at c.args.bytes.now k d lt)) suits free common c.through.result c.through.ensures

pub returns-clause-takes : goal.returns-clause-takes
returns-clause-takes c =
    λ simple free document. takes_same c.args.shape.now c.args.bytes.now c.known.ensures.shape (λ k d lt. omega (arith, c.type_inv.bytes k, same_at c.args.bytes.now k d lt)) simple free document c.through.result c.through.ensures

pub returns-clause-numbers : goal.returns-clause-numbers
returns-clause-numbers c = for_no_number c.args.shape.now c.args.bytes.now (λ k d lt. omega (arith, c.type_inv.bytes k, same_at c.args.bytes.now k d lt)) c.through.result c.through.ensures
