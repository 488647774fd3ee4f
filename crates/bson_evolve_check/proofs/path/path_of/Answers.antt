use Rattle.std.proofs.Common.{◌++◌, map, ap, sym, ◌∙◌, arith}
use Rattle.std.proofs.lemmas.List.{append-nil, drop_all}
use Rattle.bson_values.specs.PathView.{segment_view}
use Rattle.bson_evolve_check.specs.Searching.{route_path}
use Rattle.bson_evolve_check.proofs.Going.{ways_more}
use Rattle.bson_evolve_check.proofs.path.path_of.Goals as goal

pub loop-way-preserved : goal.loop-way-preserved
loop-way-preserved c =
    ways_more c.args.route.now c.loop-way.way-index _ (map segment_view c.loop-way.segments.items) (map segment_view c.push_way.new.segments.items) _ (omega arith) c.in_ok-push_way.ensures c.loop-way.invariant

pub returns : goal.returns
returns c =
    let before = map segment_view c.loop-way.segments.items in
    c.new.ensures.segments ∙ sym (append-nil before) ∙ ap (λ zs. before ++ route_path zs) (sym (drop_all c.loop-way.way-index c.args.route.now (omega arith))) ∙ c.loop-way.invariant
