use Rattle.std.proofs.Common.{◌≡◌, ◌++◌, map}
use Rattle.bson_evolve_check.specs.Searching.{route_path}
use Rattle.bson_evolve_differences.specs.Differences.{difference}
use Rattle.bson_evolve_differences.specs.Views.{differences_view, reasons_view}
use Rattle.bson_evolve_differences.proofs.search.push_differences.Given as goal

-- the reasons so far were told
abbrev pub invariant-loop-reason : goal.invariant-loop-reason
invariant-loop-reason l = record {
  rest : l.initial.reason-iterator.rest.items ≡ l.yielded ++ l.reason-iterator.rest.items;
  found : differences_view l.found.items ≡ differences_view l.initial.found.items ++ map (difference (route_path l.route) l.old l.new) (reasons_view l.yielded);
}
