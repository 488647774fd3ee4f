use Rattle.std.proofs.Common.{◌≡◌, ◌∙◌, sym, ap, subst, arith, true}
use Rattle.bson_shape.specs.Form.{Form}
use Rattle.bson_shape.specs.Guarded.{is_guarded}
use Rattle.bson_shape.specs.Levels.{levels, deepest}
use Rattle.bson_shape.specs.Makers.{IsShape, AreShapes}
use Rattle.bson_shape.specs.ShapeView.{fields_of}
use Rattle.bson_shape.proofs.shape.Shape.definitions.Goals as goal

pub invariant_of-result : goal.invariant_of-result
invariant_of-result c =
    let h = fields_of c.args.table.items in
    let body : Form = c.in_ok-new.field-0.value in
    let inner : body ≡ c.args.body = c.in_ok-new.ensures.ok in
    let same = ap fields_of c.deref-2.ensures.value in
    let guarded : is_guarded h ≡ true = sym (c.is_guarded.ensures ∙ ap (λ fs. is_guarded (fields_of fs)) c.deref.ensures.value) ∙ c.if-not-is_guarded.false in
    let table_levels : c.deepest.result ≡ deepest h = c.deepest.ensures.levels ∙ ap deepest same in
    let body_levels : c.levels.result ≡ levels body = c.levels.ensures.levels ∙ ap levels (sym inner) in (
      omega arith,
      (
        record { distinct = sym c.has_repeated_field.ensures ∙ c.if-has_repeated_field.false; guarded = guarded; few = omega arith },
        subst AreShapes same c.deepest.ensures.shapes,
        subst IsShape (sym inner) c.levels.ensures.shape,
      ),
    )
