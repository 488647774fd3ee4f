-- Each shape inside a shape has fewer nodes than it.
use Rattle.std.specs.Prelude.{◌+◌, ◌≤◌, max, List, [], ◌∷◌}
use Rattle.std.proofs.Common.{arith}
use denote.Param.Weighed.{most}
use Rattle.bson_shape.specs.ShapeView.{fields_of, parts_of, content_of, variants_of, node_view, nodes, fields_nodes, parts_nodes, content_nodes, variants_nodes}
use Rattle.bson_shape.specs.declared.shape.Node.{Node}
use Rattle.bson_shape.specs.declared.shape.Node.TheVariants as node
use Rattle.bson_shape.specs.declared.shape.FieldShape.{FieldShape}
use Rattle.bson_shape.specs.declared.shape.VariantShape.{VariantShape}
use Rattle.bson_shape.specs.declared.shape.VariantContent.{VariantContent}
use Rattle.bson_shape.specs.declared.shape.VariantContent.TheVariants as contents
use Rattle.bson_shape.specs.Form.{Form}
use Rattle.bson_shape.specs.declared.shape.Shape.TheDeep.{deep-Node, deep-FieldShape, deep-VariantShape, deep-VariantContent}

most_falls : (fs : List FieldShape) → most deep-FieldShape fs ≤ fields_nodes (fields_of fs) + 1
most_falls [] = omega arith
most_falls (f ∷ fs) = omega (arith, most_falls fs)

parts_fall : (fs : List Form) → most (λ (f : Form). nodes f + 1) fs ≤ parts_nodes (parts_of fs) + 1
parts_fall [] = omega arith
parts_fall (f ∷ fs) = omega (arith, parts_fall fs)

content_falls : (c : VariantContent) → deep-VariantContent c ≤ content_nodes (content_of c) + 1
content_falls contents.Unit = omega arith
content_falls (contents.Newtype f) = omega arith
content_falls (contents.Tuple items) = omega (arith, parts_fall items.items)
content_falls (contents.Struct fs) = omega (arith, most_falls fs.items)

variants_fall : (vs : List VariantShape) → most deep-VariantShape vs ≤ variants_nodes (variants_of vs) + 1
variants_fall [] = omega arith
variants_fall (v ∷ vs) = omega (arith, content_falls v.content, variants_fall vs)

pub falls : (n : Node) → max (deep-Node n) 0 ≤ nodes (node_view n)
falls (node.Leaf l) = omega arith
falls (node.Option inner) = omega arith
falls (node.Lossy inner) = omega arith
falls (node.Readable inner) = omega arith
falls (node.Seq item) = omega arith
falls (node.Mode readable compact) = omega arith
falls (node.Map key value) = omega arith
falls (node.Tuple items) = omega (arith, parts_fall items.items)
falls (node.TupleStruct name items) = omega (arith, parts_fall items.items)
falls (node.Newtype name inner) = omega arith
falls (node.UnitStruct name) = omega arith
falls (node.Struct name fs) = omega (arith, most_falls fs.items)
falls (node.ClosedStruct name fs) = omega (arith, most_falls fs.items)
falls (node.Enum vs) = omega (arith, variants_fall vs.items)
falls (node.Reference name) = omega arith
falls (node.Definitions table body) = omega (arith, most_falls table.items)
