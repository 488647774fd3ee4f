use Rattle.std.proofs.Common.{sym, subst, ◌∙◌}
use Rattle.bson_base.specs.Tree.{kind}
use Rattle.bson_values.specs.Cause.{invalid_type}
use Rattle.bson_values.specs.ErrorView.{read_fault}
use Rattle.bson_values.specs.Marked.{MarkedEntries}
use Rattle.bson_datum.specs.MarkedView.{marked}
use Rattle.bson_values.specs.Stop.{stop_view}
use Rattle.bson_laws.specs.Judged.{Reading}
use Rattle.bson_met.specs.Gives.{IsRefusedOrNoMemory}
use Rattle.bson_met.proofs.Refusals.{StopsAs, refused_stops}
use Rattle.bson_trees.proofs.TreeData.{other_tree, kind_is}
use Rattle.bson_trees.proofs.maps.entries_of.Goals as goal

pub returns : goal.returns
returns c =
    let d = c.args.value in
    let stop = c.refused.result in
    record {
      exact = λ t plain e. subst (λ (r : Reading MarkedEntries). StopsAs stop r) (sym (other_tree t (marked d) (sym c.is_map.ensures ∙ c.if-is_map.false) e))
          (refused_stops MarkedEntries (invalid_type (kind t)) stop
          (subst (λ k. IsRefusedOrNoMemory (invalid_type k) (stop_view read_fault stop)) (c.element_type-found.ensures.kind ∙ kind_is d t plain e) c.refused.ensures.here));
    }
