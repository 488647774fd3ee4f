use Rattle.std.proofs.Common.{◌≡◌, ◌<◌, true, Option, ◌∙◌, ap, sym, subst, arith}
use Rattle.std.specs.Prelude.{is_some}
use Rattle.bson_base.specs.BsonView.{pairs_of}
use Rattle.bson_base.specs.Pairs.{lookup}
use Rattle.bson_base.specs.Tree.{Tree}
use Rattle.bson_shape.specs.ShapeView.{fields_nodes, fields_of, nodes}
use Rattle.bson_shape.specs.declared.shape.FieldShape.{FieldShape}
use Rattle.bson_shape.proofs.Shapes.{field_smaller}
use Rattle.bson_laws.specs.Views.{views, views_at, absent}
use Rattle.bson_moved.proofs.Walks.{items_rest, fields_rest}
use Rattle.bson_moved.proofs.fitting.+fitting.Goals as goal

pub have_views-loop-value-preserved : goal.have_views-loop-value-preserved
have_views-loop-value-preserved t c =
    λ h. c.loop-value.invariant (items_rest (views c.args.item.now) c.args.values.now c.loop-value.value-index c.value-item.result (omega arith) c.value-item.is (c.has_view.ensures c.if-not-has_view.false) h)

pub fields_have_views-field_has_view-requires : goal.fields_have_views-field_has_view-requires
fields_have_views-field_has_view-requires t c =
    let xs = c.args.fields.now in
    let x = c.field-item.result in
    let smaller : nodes x.shape < fields_nodes (fields_of xs) = subst (λ (y : FieldShape). nodes y.shape < fields_nodes (fields_of xs)) (sym c.field-item.is) (field_smaller xs c.loop-field.field-index x (omega arith)) in
    (omega (arith, smaller, c.decreases), tt)

pub fields_have_views-loop-field-preserved : goal.fields_have_views-loop-field-preserved
fields_have_views-loop-field-preserved t c =
    let x = c.field-item.result in
    let ps = pairs_of c.args.document.now in
    let found = c.get.ensures.value ∙ ap (λ key. lookup key ps) c.as_str.ensures.value in
    let here = subst (λ (o : Option Tree). is_some (views_at (views x.shape) (absent x.shape) o) ≡ true) found (c.field_has_view.ensures c.if-not-field_has_view.false) in
    λ h. c.loop-field.invariant (fields_rest c.args.fields.now c.loop-field.field-index x ps (omega arith) c.field-item.is here h)
