use Rattle.std.proofs.Common.{◌≡◌, ◌+◌, ◌<◌, length, get_or, drop, nat_lt, ◌∙◌, sym, ap, subst, arith}
use Rattle.bson_shape.specs.Form.{joined}
use Rattle.bson_shape.specs.Makers.{AreShapes}
use Rattle.bson_shape.specs.ShapeView.{nodes, fields_nodes, fields_of}
use Rattle.bson_shape.specs.declared.shape.FieldShape.{FieldShape}
use Rattle.bson_infer_run.specs.Counted.{opt_if, settled}
use Rattle.bson_infer_run.specs.SummaryView.{counted_of}
use Rattle.bson_infer_run.proofs.Places.{drop_all}
use Rattle.bson_infer_run.proofs.ShapeFields.{settled_next, fields_next, made_is, struct_made}
use Rattle.bson_infer_run.proofs.Structs.{field_falls}
use Rattle.bson_infer_run.proofs.shape.+shape.Goals as goal

pub shape_of_struct-shape_of_field-requires : goal.shape_of_struct-shape_of_field-requires
shape_of_struct-shape_of_field-requires t c =
    let s = c.args.summary.now in
    let f = c.field-item.result in
    let k = c.name.result.now in
    let key : k ≡ get_or s.names c.loop-i.i k = c.name.ensures in
    let item : f ≡ get_or s.fields.items c.loop-i.i f = rw (sym c.deref-field-items.ensures.value) c.field-item.is in
    let less : c.loop-i.i < length s.fields.items = rw (sym c.deref-field-items.ensures.value) c.loop-i-test.true in
    let smaller : nodes f.summary < fields_nodes (settled s.count (counted_of s)) = field_falls s.count s.names s.fields.items c.loop-i.i f c.requires.even less item in
    let shapes = subst AreShapes (settled_next s.count s.names s.fields.items c.loop-i.i k f c.requires.even less key item) c.loop-i.invariant.shapes in
    (omega (arith, smaller, c.decreases), shapes.1)

pub shape_of_struct-loop-i-preserved : goal.shape_of_struct-loop-i-preserved
shape_of_struct-loop-i-preserved t c =
    let s = c.args.summary.now in
    let f = c.field-item.result in
    let k = c.name.result.now in
    let key : k ≡ get_or s.names c.loop-i.i k = c.name.ensures in
    let item : f ≡ get_or s.fields.items c.loop-i.i f = rw (sym c.deref-field-items.ensures.value) c.field-item.is in
    let less : c.loop-i.i < length s.fields.items = rw (sym c.deref-field-items.ensures.value) c.loop-i-test.true in
    let next = settled_next s.count s.names s.fields.items c.loop-i.i k f c.requires.even less key item in
    let rest = settled s.count (drop (c.loop-i.i + 1) (counted_of s)) in
    let made : FieldShape = record { name = c.in_ok-name.name; shape = c.in_ok-shape.shape } in
    record {
      fields =
          ap (λ xs. joined (fields_of xs) rest) c.in_ok-push.ensures.items
          ∙ fields_next c.loop-i.fields.items made k (opt_if (nat_lt f.count s.count) f.summary) rest (settled s.count (counted_of s)) c.in_ok-name.ensures.ok (made_is _ _ c.in_ok-shape.ensures)
          (ap (joined (fields_of c.loop-i.fields.items)) (sym next) ∙ c.loop-i.invariant.fields);
      shapes = (subst AreShapes next c.loop-i.invariant.shapes).2;
    }

pub shape_of_struct-returns : goal.shape_of_struct-returns
shape_of_struct-returns t c =
    let s = c.args.summary.now in
    let end : length s.fields.items ≡ c.loop-i.i = rw (sym c.deref-field-items.ensures.value) (omega (arith, c.loop-i-test.false, c.loop-i.auto.i-end)) in
    struct_made c.structure.result _ c.loop-i.fields.items (settled s.count (counted_of s)) c.structure.ensures.made c.new.ensures.bytes
    (ap (λ xs. joined (fields_of c.loop-i.fields.items) (settled s.count xs)) (sym (drop_all s.names s.fields.items c.loop-i.i end)) ∙ c.loop-i.invariant.fields) c.requires.shape
