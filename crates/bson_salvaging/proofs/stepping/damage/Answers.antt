use Rattle.std.proofs.Common.{refl, arith}
use Rattle.bson_salvaging.proofs.Steps.{damaged}
use Rattle.bson_salvaging.proofs.stepping.damage.Goals as goal

pub returns-clause-leaves : goal.returns-clause-leaves
returns-clause-leaves g c =
    damaged c.args.looks c.args.window.now c.pass.new.self c.search.new.window _ _ c.in_ok-found.found _ c.requires c.pass.ensures.bytes c.pass.ensures.ended (rw c.gained.ensures at c.in_ok-found.ensures.found)
    refl (omega (arith, c.in-Some.ensures)) refl
