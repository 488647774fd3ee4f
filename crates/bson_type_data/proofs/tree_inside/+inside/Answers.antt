use Rattle.std.proofs.Common.{sym, subst, ◌∙◌, arith}
use Rattle.bson_base.specs.BsonView.{tree_of}
use Rattle.bson_values.specs.Returned.{Reads}
use Rattle.bson_type_data.specs.Trees.{scoped_contents}
use Rattle.bson_type_data.proofs.TreeSteps.{take_more, take_all, two_give, not_two, scoped_struct}
use Rattle.bson_type_data.proofs.tree_inside.+inside.Goals as goal

pub values_in-loop-item-preserved : goal.values_in-loop-item-preserved
values_in-loop-item-preserved t c =
    take_more c.loop-item.values.items _ c.in_ok-tree_in.field-0 c.args.items.now c.loop-item.item-index c.item-item.result _ c.loop-item-test.true c.item-item.is c.in_ok-tree_in.ensures c.in_ok-push.ensures.items c.loop-item.invariant

pub values_in-returns : goal.values_in-returns
values_in-returns t c = take_all c.loop-item.values.items c.args.items.now c.loop-item.item-index _ c.loop-item-test.false c.loop-item.invariant

pub tree_in-returns-then-is_scoped : goal.tree_in-returns-then-is_scoped
tree_in-returns-then-is_scoped t c =
    subst (Reads tree_of c.scoped_bson.result) (scoped_struct c.args.datum.now c.in-Struct.name c.in-Struct.fields c.deref-then-is_scoped.result.now c.in-Struct.is c.deref-then-is_scoped.ensures.value (sym c.is_scoped.ensures ∙ c.if-is_scoped.true)) c.scoped_bson.ensures

pub fields_in-returns-then-fields-ne2 : goal.fields_in-returns-then-fields-ne2
fields_in-returns-then-fields-ne2 t c = not_two c.args.fields.now _ c.not_fitting.ensures.failure (λ e. omega arith)

pub fields_in-returns : goal.fields_in-returns
fields_in-returns t c =
    subst (Reads scoped_contents c.with_scope.result) (two_give c.args.fields.now c.index-fields-0.result c.index-fields-1.result _ _ (omega arith) c.index-fields-0.is c.index-fields-1.is c.as_str.ensures.text c.in_ok-code.ensures) c.with_scope.ensures
