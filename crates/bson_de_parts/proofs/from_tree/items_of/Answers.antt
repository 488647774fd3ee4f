use Rattle.std.proofs.Common.{Ok, ap, sym, subst, rules, ◌∙◌}
use Rattle.bson_kinds.specs.declared.element_type.ElementType.TheVariants.{Null}
use Rattle.bson_rawdoc.specs.Node.{Nodes}
use Rattle.bson_values.specs.Cause.{invalid_type}
use Rattle.bson_laws.specs.Judged.{Reading}
use Rattle.bson_met.proofs.Refusals.{StopsAs, refused_stops}
use Rattle.bson_de_parts.specs.TreeContents.{not_ended}
use Rattle.bson_de_parts.proofs.TreeElements.{not_ended_is, ended_refused, faulty_stops}
use Rattle.bson_de_parts.proofs.from_tree.items_of.Goals as goal

pub returns-then-branch : goal.returns-then-branch
returns-then-branch c = record {
  exact = ap not_ended (sym c.of_array-rest.ensures.elements) ∙ not_ended_is _ _ c.in_ok-advance.field-0 c.advance.new.value c.in_ok-advance.ensures.advanced c.if-branch.true
      ∙ ap Ok (c.of_array-rest.ensures.elements ∙ sym c.of_array.ensures.elements);
}

pub returns : goal.returns
returns c =
    let whole = ap not_ended (sym c.of_array-rest.ensures.elements) ∙ ended_refused _ _ c.in_ok-advance.field-0 c.advance.new.value c.in_ok-advance.ensures.advanced c.if-branch.false in
    record { exact = subst (λ (r : Reading Nodes). StopsAs c.refused.result r) (sym whole) (refused_stops Nodes (invalid_type Null) c.refused.result c.refused.ensures.here) }

pub returns-in_err-advance : goal.returns-in_err-advance
returns-in_err-advance c =
    let stop = c.in_err-advance.field-0.0 in
    let here = subst (λ (r : Reading Nodes). StopsAs stop r) (ap not_ended c.of_array-rest.ensures.elements) (faulty_stops _ _ c.advance.new.value stop c.in_err-advance.ensures.advanced) in
    record { exact = search (rules, here) }
