-- The form of a shape, one level at a time, and its size. Source: serde's data model.
use Rattle.std.specs.Prelude.{ℕ, ◌+◌, List, [], ◌∷◌, string_bytes}
use Rattle.bson_shape.specs.Form.{dropped, denied, Form, leaf, optional, lossy, human_readable, by_mode, sequence, map, tuple, tuple_structure, newtype, unit_structure, structure, enumeration, reference, definitions, Fields, no_fields, field, Parts, no_parts, part, Variants, no_variants, variant, Content, unit_content, newtype_content, tuple_content, struct_content}
use Rattle.bson_shape.specs.declared.shape.Node.{Node}
use Rattle.bson_shape.specs.declared.shape.Node.TheVariants as node
use Rattle.bson_shape.specs.declared.form.Form.{Form as BorrowedForm}
use Rattle.bson_shape.specs.declared.form.Form.TheVariants as forms
use Rattle.bson_shape.specs.declared.shape.FieldShape.{FieldShape}
use Rattle.bson_shape.specs.declared.shape.VariantShape.{VariantShape}
use Rattle.bson_shape.specs.declared.shape.VariantContent.{VariantContent}
use Rattle.bson_shape.specs.declared.shape.VariantContent.TheVariants as contents

abbrev pub fields_of : List FieldShape → Fields
fields_of [] = no_fields
fields_of (f ∷ fs) = field (string_bytes f.name) f.shape (fields_of fs)

abbrev pub parts_of : List Form → Parts
parts_of [] = no_parts
parts_of (f ∷ fs) = part f (parts_of fs)

abbrev pub content_of : VariantContent → Content
content_of contents.Unit = unit_content
content_of (contents.Newtype f) = newtype_content f
content_of (contents.Tuple items) = tuple_content (parts_of items.items)
content_of (contents.Struct fs) = struct_content (fields_of fs.items)

abbrev pub variants_of : List VariantShape → Variants
variants_of [] = no_variants
variants_of (v ∷ vs) = variant (string_bytes v.name) (content_of v.content) (variants_of vs)

abbrev pub node_view : Node → Form
node_view (node.Leaf l) = leaf l
node_view (node.Option inner) = optional inner.value
node_view (node.Lossy inner) = lossy inner.value
node_view (node.Readable inner) = human_readable inner.value
node_view (node.Seq item) = sequence item.value
node_view (node.Map key value) = map key.value value.value
node_view (node.Mode readable compact) = by_mode readable.value compact.value
node_view (node.Tuple items) = tuple (parts_of items.items)
node_view (node.TupleStruct name items) = tuple_structure (string_bytes name) (parts_of items.items)
node_view (node.Newtype name inner) = newtype (string_bytes name) inner.value
node_view (node.UnitStruct name) = unit_structure (string_bytes name)
node_view (node.Struct name fs) = structure dropped (string_bytes name) (fields_of fs.items)
node_view (node.ClosedStruct name fs) = structure denied (string_bytes name) (fields_of fs.items)
node_view (node.Enum vs) = enumeration (variants_of vs.items)
node_view (node.Reference name) = reference (string_bytes name)
node_view (node.Definitions table body) = definitions (fields_of table.items) body.value

abbrev pub form_view : BorrowedForm → Form
form_view (forms.Leaf l) = leaf l
form_view (forms.Option inner) = optional inner.now
form_view (forms.Lossy inner) = lossy inner.now
form_view (forms.Readable inner) = human_readable inner.now
form_view (forms.Seq item) = sequence item.now
form_view (forms.Map key value) = map key.now value.now
form_view (forms.Mode readable compact) = by_mode readable.now compact.now
form_view (forms.Tuple items) = tuple (parts_of items.now)
form_view (forms.TupleStruct name items) = tuple_structure name.now (parts_of items.now)
form_view (forms.Newtype name inner) = newtype name.now inner.now
form_view (forms.UnitStruct name) = unit_structure name.now
form_view (forms.Struct name fs) = structure dropped name.now (fields_of fs.now)
form_view (forms.ClosedStruct name fs) = structure denied name.now (fields_of fs.now)
form_view (forms.Enum vs) = enumeration (variants_of vs.now)
form_view (forms.Reference name) = reference name.now
form_view (forms.Definitions table body) = definitions (fields_of table.now) body.now

abbrev mutual
  -- how many forms, fields, parts and variants a form is made of
  pub nodes : Form → ℕ
  nodes (leaf l) = 1
  nodes (optional f) = nodes f + 1
  nodes (lossy f) = nodes f + 1
  nodes (human_readable f) = nodes f + 1
  nodes (sequence f) = nodes f + 1
  nodes (map k v) = nodes k + nodes v + 1
  nodes (by_mode r c) = nodes r + nodes c + 1
  nodes (tuple ps) = parts_nodes ps + 1
  nodes (tuple_structure name ps) = parts_nodes ps + 1
  nodes (newtype name f) = nodes f + 1
  nodes (unit_structure name) = 1
  nodes (structure u name fs) = fields_nodes fs + 1
  nodes (enumeration vs) = variants_nodes vs + 1
  nodes (reference name) = 1
  nodes (definitions h f) = fields_nodes h + nodes f + 1

  pub fields_nodes : Fields → ℕ
  fields_nodes no_fields = 0
  fields_nodes (field name f fs) = nodes f + fields_nodes fs + 1

  pub parts_nodes : Parts → ℕ
  parts_nodes no_parts = 0
  parts_nodes (part f ps) = nodes f + parts_nodes ps + 1

  pub variants_nodes : Variants → ℕ
  variants_nodes no_variants = 0
  variants_nodes (variant name c vs) = content_nodes c + variants_nodes vs + 1

  pub content_nodes : Content → ℕ
  content_nodes unit_content = 0
  content_nodes (newtype_content f) = nodes f
  content_nodes (tuple_content ps) = parts_nodes ps
  content_nodes (struct_content fs) = fields_nodes fs
