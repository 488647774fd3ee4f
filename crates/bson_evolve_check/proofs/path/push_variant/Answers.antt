use Rattle.std.proofs.Common.{map, sym}
use Rattle.std.proofs.lemmas.List.{append-nil}
use Rattle.bson_values.specs.PathView.{segment_view}
use Rattle.bson_evolve_check.proofs.path.push_variant.Goals as goal

pub returns-in-None : goal.returns-in-None
returns-in-None c = rw c.in-None.is (sym (append-nil (map segment_view c.args.segments.now.items)))
