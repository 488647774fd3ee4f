use Rattle.std.proofs.Common.{rules}
use Rattle.bson_example_types.specs.Pedigree.{dam_fails, both_read}
use Rattle.bson_example_types.proofs.pedigree.+pedigree.Goals as goal

pub parents_in-returns-in_err-dam : goal.parents_in-returns-in_err-dam
parents_in-returns-in_err-dam t c =
    let told = dam_fails c.args.parents.now c.sire-item.result c.dam-item.result c.in-len2.len_at_least c.in-len2.len_below c.sire-item.is c.dam-item.is _ _ c.in_ok-sire.ensures c.in_err-dam.ensures in
    search rules

pub parents_in-returns : goal.parents_in-returns
parents_in-returns t c =
    both_read c.args.parents.now c.sire-item.result c.dam-item.result c.in-len2.len_at_least c.in-len2.len_below c.sire-item.is c.dam-item.is _ _ _ c.in_ok-sire.ensures c.in_ok-dam.ensures c.in_ok-of.ensures
