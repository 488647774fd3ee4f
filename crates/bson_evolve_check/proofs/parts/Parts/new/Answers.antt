use Rattle.bson_evolve_check.specs.declared.parts.Parts.{Parts}
use Rattle.bson_evolve_check.proofs.Numbers.{nothing_good}
use Rattle.bson_evolve_check.proofs.parts.Parts.new.Goals as goal

pub returns : goal.returns
returns c =
    let parts : Parts = record { tables = c.new.result; known = c.new-2.result; numbers = c.new-3.result; found = c.new-4.result } in
    nothing_good parts c.new.ensures c.new-2.ensures.items c.new-3.ensures.empty c.new-4.ensures.empty
