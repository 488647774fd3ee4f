use Rattle.std.proofs.Common.{arith, ◌≡◌, ℕ, ◌+◌, ◌*◌, ◌<◌, ◌≤◌, List, [], ◌∷◌, ap, sym, ◌∙◌}
use Rattle.bson_shape.proofs.+shape.Goals as goal
use denote.Param.Weighed
use denote.Param.Weighed.{most}
use mathlib.Core.List.{not-mem-nil}
use Rattle.bson_shape.specs.Form.{Form}
use Rattle.bson_shape.specs.ShapeView.{nodes}
use Rattle.bson_shape.specs.declared.shape.Node.{Node}
use Rattle.bson_shape.specs.declared.shape.Shape.{Shape}
use Rattle.bson_shape.specs.declared.shape.FieldShape.{FieldShape}
use Rattle.bson_shape.specs.declared.shape.VariantShape.{VariantShape}
use Rattle.bson_shape.specs.declared.shape.Shape.TheDeep.{size-Shape, size-FieldShape, size-VariantShape, deep-Node, deep-FieldShape, deep-VariantShape}

shapes_fall : (fs : List Form) → most ((denote.Param.Weighed.w_this).weight Shape size-Shape) fs ≤ 5 * most (λ (f : Form). nodes f + 1) fs
shapes_fall [] = omega arith
shapes_fall (f ∷ fs) = omega (arith, shapes_fall fs)

fields_fall : (fs : List FieldShape) → most ((denote.Param.Weighed.w_this).weight FieldShape size-FieldShape) fs ≤ 5 * most deep-FieldShape fs + 1
fields_fall [] = omega arith
fields_fall (f ∷ fs) = omega (arith, fields_fall fs)

variants_fall : (vs : List VariantShape) → most ((denote.Param.Weighed.w_this).weight VariantShape size-VariantShape) vs ≤ 5 * most deep-VariantShape vs + 3
variants_fall [] = omega arith
variants_fall (v ∷ vs) = omega (arith, variants_fall vs)

-- src/shape.rt:66:25
pub shape::Node::drop-drop-items-requires : goal.shape::Node::drop-drop-items-requires
shape::Node::drop-drop-items-requires t c κs =
    (((omega (arith, shapes_fall c.in-Tuple._items.items, ap (λ (n : Node). 5 * deep-Node n + 4) (sym c.in-Tuple.is) ∙ c.decreases), tt), tt), ((λ a m. absurd (not-mem-nil m)), λ a m. absurd (not-mem-nil m)))

-- src/shape.rt:67:38
pub shape::Node::drop-drop-items-requires-in-TupleStruct :
    goal.shape::Node::drop-drop-items-requires-in-TupleStruct
shape::Node::drop-drop-items-requires-in-TupleStruct t c κs =
    (((omega (arith, shapes_fall c.in-TupleStruct._items.items, ap (λ (n : Node). 5 * deep-Node n + 4) (sym c.in-TupleStruct.is) ∙ c.decreases), tt), tt), ((λ a m. absurd (not-mem-nil m)), λ a m. absurd (not-mem-nil m)))

-- src/shape.rt:71:24
pub shape::Node::drop-drop-variants-requires : goal.shape::Node::drop-drop-variants-requires
shape::Node::drop-drop-variants-requires t c κs =
    (((omega (arith, variants_fall c.in-Enum._variants.items, ap (λ (n : Node). 5 * deep-Node n + 4) (sym c.in-Enum.is) ∙ c.decreases), tt), tt), ((λ a m. absurd (not-mem-nil m)), λ a m. absurd (not-mem-nil m)))

-- src/shape.rt:72:31
pub shape::Node::drop-drop-table-requires : goal.shape::Node::drop-drop-table-requires
shape::Node::drop-drop-table-requires t c κs =
    (((omega (arith, fields_fall c.in-Definitions._table.items, ap (λ (n : Node). 5 * deep-Node n + 4) (sym c.in-Definitions.is) ∙ c.decreases), tt), tt), ((λ a m. absurd (not-mem-nil m)), λ a m. absurd (not-mem-nil m)))

-- src/shape.rt:70:33
pub shape::Node::drop-drop-fields-requires : goal.shape::Node::drop-drop-fields-requires
shape::Node::drop-drop-fields-requires t c κs =
    (((omega (arith, fields_fall c.in-Struct._fields.items, ap (λ (n : Node). 5 * deep-Node n + 4) (sym c.in-Struct.is) ∙ c.decreases), tt), tt), ((λ a m. absurd (not-mem-nil m)), λ a m. absurd (not-mem-nil m)))

-- src/shape.rt:71:33
pub shape::Node::drop-drop-fields-requires-in-ClosedStruct : goal.shape::Node::drop-drop-fields-requires-in-ClosedStruct
shape::Node::drop-drop-fields-requires-in-ClosedStruct t c κs =
    (((omega (arith, fields_fall c.in-ClosedStruct._fields.items, ap (λ (n : Node). 5 * deep-Node n + 4) (sym c.in-ClosedStruct.is) ∙ c.decreases), tt), tt), ((λ a m. absurd (not-mem-nil m)), λ a m. absurd (not-mem-nil m)))
