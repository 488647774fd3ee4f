use Rattle.std.proofs.Common.{◌≡◌}
use Rattle.bson_evolve_laws.specs.Placed.{peel}
use Rattle.bson_evolve_check.specs.Peels.{sees, steps_left}
use Rattle.bson_evolve_check.specs.Placing.{place_view, tables_in, IsMore, IsTable}
use Rattle.bson_evolve_check.proofs.peel.peel.Given as goal

-- what is left to be seen through gives what all gives
abbrev pub invariant-loop-next : goal.invariant-loop-next
invariant-loop-next l = record {
  more : IsMore (tables_in l.initial.tables) (tables_in l.tables);
  number : IsTable (tables_in l.tables) l.at.place.table;
  same : sees l.at.left (place_view l.at.place) ≡ peel (place_view l.place);
}

abbrev pub decreases-loop-next : goal.decreases-loop-next
decreases-loop-next l = steps_left l.at.left (place_view l.at.place)
