use Rattle.std.proofs.Common.{refl, ap, sym, subst, ◌∙◌, rules}
use Rattle.bson_kinds.specs.Outcome.{◌>>=◌}
use Rattle.bson_kinds.specs.Text.{Bytes}
use Rattle.bson_base.specs.Tree.{Tree, no_pairs}
use Rattle.bson_kinds.proofs.Outcomes.{map_ok}
use Rattle.bson_kinds.specs.declared.element_type.ElementType.TheVariants.{EmbeddedDocument}
use Rattle.bson_values.specs.Cause.{wrong_kind}
use Rattle.bson_laws.specs.Judged.{Reading}
use Rattle.bson_laws.specs.ReadsExtended.{uuid_in}
use Rattle.bson_met.specs.Gives.{Reaches}
use Rattle.bson_met.specs.PieceView.{str_piece}
use Rattle.bson_met.proofs.Refusals.{StopsAs, stops_bind, refused_stops}
use Rattle.bson_texts.proofs.Each.{step_is}
use Rattle.bson_trees.specs.Trees.{tree_under}
use Rattle.bson_trees.specs.Leaves.{uuid_elements}
use Rattle.bson_trees.proofs.TreeData.{stops_back, pair_read, pair_stops_tree, wrapped_whole, list_ends}
use Rattle.bson_trees.proofs.unique_id.id_in.Goals as goal

pub step-init : goal.step-init
step-init c = (no_pairs, refl)

pub step-preserved : goal.step-preserved
step-preserved c =
    let s = c.advance.new.step in
    let new = c.advance.new.self in
    let ps = c.step.invariant.0 in
    let first = step_is _ _ c.in_ok-advance.field-0 s c.in_ok-advance.ensures.advanced c.if-branch.true in
    let key = str_piece s.key in
    let m = map_ok (λ _. tt) (tree_under key.bytes s.value) tt c.in_ok-pass_tree.ensures.exact in
    let next = pair_read key s.value new ps c.in_default.ensures.wrapper m.0 m.1 in
    (next.0, ap (λ (r : Reading Tree). r >>= uuid_in) (sym next.1) ∙ ap (λ ns. uuid_elements ns ps) (sym first) ∙ c.step.invariant.1)

pub returns-in-Some : goal.returns-in-Some
returns-in-Some c =
    let s = c.advance.new.step in
    let new = c.advance.new.self in
    let ps = c.step.invariant.0 in
    let first = step_is _ _ c.in_ok-advance.field-0 s c.in_ok-advance.ensures.advanced c.if-branch.true in
    let whole = ap (λ (r : Reading Tree). r >>= uuid_in) (wrapped_whole (str_piece s.key) s.value new ps c.in-Some.wrapper c.in-Some.ensures.wrapper) in
    record {
      exact = subst (λ (r : Reading Bytes). Reaches (λ id. id.0) c.wrapped_id.result r) (whole ∙ ap (λ ns. uuid_elements ns ps) (sym first) ∙ c.step.invariant.1) c.wrapped_id.ensures.exact;
    }

pub returns-in_err-pass_tree : goal.returns-in_err-pass_tree
returns-in_err-pass_tree c =
    let s = c.advance.new.step in
    let key = str_piece s.key in
    let new = c.advance.new.self in
    let ps = c.step.invariant.0 in
    let stop = c.in_err-pass_tree.field-0.0 in
    let first = step_is _ _ c.in_ok-advance.field-0 s c.in_ok-advance.ensures.advanced c.if-branch.true in
    let at = pair_stops_tree key s.value new ps c.in_default.ensures.wrapper stop (stops_back stop (λ _. tt {0}) (tree_under key.bytes s.value) c.in_err-pass_tree.ensures.exact) in
    let here = subst (λ (r : Reading Bytes). StopsAs stop r) (ap (λ ns. uuid_elements ns ps) (sym first) ∙ c.step.invariant.1) (stops_bind stop _ uuid_in at) in
    record { exact = search (rules, here) }

pub returns : goal.returns
returns c =
    let ps = c.step.invariant.0 in
    let over = list_ends _ _ c.in_ok-advance.field-0 c.advance.new.step c.in_ok-advance.ensures.advanced c.if-branch.false in
    record {
      exact = subst (λ (r : Reading Bytes). StopsAs c.refused.result r) (sym (ap (λ ns. uuid_elements ns ps) over) ∙ c.step.invariant.1)
          (refused_stops Bytes (wrong_kind EmbeddedDocument) c.refused.result c.refused.ensures.here);
    }
