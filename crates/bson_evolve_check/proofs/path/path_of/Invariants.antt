use Rattle.std.proofs.Common.{◌≡◌, ◌++◌, drop, map}
use Rattle.bson_values.specs.PathView.{segment_view}
use Rattle.bson_evolve_check.specs.Searching.{route_path}
use Rattle.bson_evolve_check.proofs.path.path_of.Given as goal

-- the ways from here on give what is left
abbrev pub invariant-loop-way : goal.invariant-loop-way
invariant-loop-way l = map segment_view l.segments.items ++ route_path (drop l.way-index l.route) ≡ route_path (drop 0 l.route)
