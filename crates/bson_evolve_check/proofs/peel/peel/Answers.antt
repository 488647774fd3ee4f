use Rattle.std.proofs.Common.{◌≡◌, sym, ◌∙◌}
use Rattle.bson_evolve_check.specs.Peels.{sees, IsBehind}
use Rattle.bson_evolve_check.specs.Placing.{place_view, tables_in}
use Rattle.bson_evolve_check.proofs.Peeling.{sees_all}
use Rattle.bson_evolve_check.proofs.Placings.{at_more, more_both, more_none}
use Rattle.bson_evolve_check.proofs.peel.peel.Goals as goal

pub loop-next-init : goal.loop-next-init
loop-next-init c = record {
  more = more_none (tables_in c.args.tables.now) c.requires.different;
  number = c.requires.number;
  same = sees_all c.args.place.table.definitions.now c.args.place.shape.now;
}

pub further-requires : goal.further-requires
further-requires c = record { different = c.loop-next.invariant.more.different; number = c.loop-next.invariant.number }

pub loop-next-preserved : goal.loop-next-preserved
loop-next-preserved c =
    let behind : IsBehind (tables_in c.further.new.tables) c.loop-next.at c.in-Some.next = rw c.in-Some.is at c.in_ok-next.ensures.further in
    record {
      more = more_both (tables_in c.args.tables.now) (tables_in c.loop-next.tables) (tables_in c.further.new.tables) c.loop-next.invariant.more c.in_ok-next.ensures.more;
      number = behind.number;
      same = behind.same ∙ c.loop-next.invariant.same;
    }

pub loop-next-smaller : goal.loop-next-smaller
loop-next-smaller c = let behind : IsBehind (tables_in c.further.new.tables) c.loop-next.at c.in-Some.next = rw c.in-Some.is at c.in_ok-next.ensures.further in behind.fewer

pub returns : goal.returns
returns c =
    let at = c.loop-next.at in
    let here : sees at.left (place_view at.place) ≡ place_view at.place = rw c.in_default.is at c.in_ok-next.ensures.further in
    record {
      more = more_both (tables_in c.args.tables.now) (tables_in c.loop-next.tables) (tables_in c.further.new.tables) c.loop-next.invariant.more c.in_ok-next.ensures.more;
      number = at_more (tables_in c.loop-next.tables) (tables_in c.further.new.tables) c.loop-next.at.place.table.number _ c.in_ok-next.ensures.more c.loop-next.invariant.number;
      peeled = sym here ∙ c.loop-next.invariant.same;
    }
