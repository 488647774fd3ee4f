use Rattle.std.proofs.Common.{◌≡◌, rules, sym, subst, ◌∙◌}
use Rattle.bson_base.specs.Tree.{kind}
use Rattle.bson_values.specs.Cause.{wrong_kind}
use Rattle.bson_values.specs.ErrorView.{read_fault}
use Rattle.bson_values.specs.Marked.{Marked}
use Rattle.bson_datum.specs.MarkedView.{marked}
use Rattle.bson_values.specs.Stop.{stop_view}
use Rattle.bson_laws.specs.Judged.{Reading}
use Rattle.bson_met.specs.Gives.{IsRefusedOrNoMemory}
use Rattle.bson_met.proofs.Refusals.{StopsAs, refused_stops}
use Rattle.bson_trees.proofs.ExtendedLeaves.{same_tree, unlike_tree}
use Rattle.bson_trees.proofs.TreeData.{kind_is}
use Rattle.bson_trees.proofs.extended.with_kind.Goals as goal

pub returns-then-eq : goal.returns-then-eq
returns-then-eq c =
    let d = c.args.value in
    let is : c.element_type-found.result ≡ c.args.kind = search rules in
    record { exact = λ t plain e. same_tree c.args.kind t (marked d) (sym (kind_is d t plain e) ∙ sym c.element_type-found.ensures.kind ∙ is) e }

pub returns : goal.returns
returns c =
    let d = c.args.value in
    let stop = c.refused.result in
    let unlike : c.element_type-found.result ≡ c.args.kind → ⊥ = search rules in
    record {
      exact = λ t plain e. subst (λ (r : Reading Marked). StopsAs stop r)
          (sym (unlike_tree c.args.kind t (λ same. unlike (c.element_type-found.ensures.kind ∙ kind_is d t plain e ∙ same))))
          (refused_stops Marked (wrong_kind (kind t)) stop (subst (λ k. IsRefusedOrNoMemory (wrong_kind k) (stop_view read_fault stop)) (c.element_type-found.ensures.kind ∙ kind_is d t plain e) c.refused.ensures.here));
    }
