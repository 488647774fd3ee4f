-- Whether a shape is plain: `IsPlain` as a test, row for row. Source: bsonspec.org, version 1.1, `e_name` and `cstring`, with serde's data model.
use Rattle.std.specs.Prelude.{Bool, true, false, ◌&&◌}
use Rattle.bson_kinds.specs.Text.{is_free_name}
use Rattle.bson_shape.specs.Form.{Form, leaf, optional, lossy, human_readable, by_mode, sequence, newtype, unit_structure, map, tuple, tuple_structure, structure, enumeration, reference, definitions, Fields, no_fields, field, Parts, no_parts, part, Content, unit_content, newtype_content, tuple_content, struct_content, Variants, no_variants, variant}
use Rattle.bson_shape.specs.Makers.{are_units, has_field}
use Rattle.bson_shape.specs.declared.leaf.Leaf.{Leaf}
use Rattle.bson_shape.specs.declared.leaf.Leaf.TheVariants.{Str}
use Rattle.bson_laws.specs.Leaves.{LeafKind, ignored, raw_documents, raw_arrays, raw_values, leaf_kind}
use Rattle.bson_evolve_laws.specs.Rows.{is_texts}

-- a leaf other than `ignored` and the three raw ones
abbrev pub is_kept : LeafKind → Bool
is_kept ignored = false
is_kept raw_documents = false
is_kept raw_arrays = false
is_kept raw_values = false
is_kept k = true

-- a leaf other than `str`
abbrev pub owns_text_leaf : Leaf → Bool
owns_text_leaf Str = false
owns_text_leaf l = true

abbrev mutual
  -- no text is borrowed in the form, nor in the definitions that it refers to
  pub owns_texts : (around : Bool) → Form → Bool
  owns_texts around (leaf l) = owns_text_leaf l
  owns_texts around (optional s) = owns_texts around s
  owns_texts around (lossy s) = owns_texts around s
  owns_texts around (human_readable s) = owns_texts around s
  owns_texts around (by_mode r c) = owns_texts around r && owns_texts around c
  owns_texts around (newtype name s) = owns_texts around s
  owns_texts around (unit_structure name) = true
  owns_texts around (sequence s) = owns_texts around s
  owns_texts around (map key s) = owns_texts around key && owns_texts around s
  owns_texts around (tuple ps) = parts_own_texts around ps
  owns_texts around (tuple_structure name ps) = parts_own_texts around ps
  owns_texts around (enumeration vs) = variants_own_texts around vs
  owns_texts around (structure u name fs) = fields_own_texts around fs
  owns_texts around (reference name) = around
  owns_texts around (definitions h s) = fields_own_texts true h && owns_texts true s

  pub fields_own_texts : (around : Bool) → Fields → Bool
  fields_own_texts around no_fields = true
  fields_own_texts around (field name s fs) = owns_texts around s && fields_own_texts around fs

  pub parts_own_texts : (around : Bool) → Parts → Bool
  parts_own_texts around no_parts = true
  parts_own_texts around (part s ps) = owns_texts around s && parts_own_texts around ps

  pub variants_own_texts : (around : Bool) → Variants → Bool
  variants_own_texts around no_variants = true
  variants_own_texts around (variant name c vs) = content_owns_texts around c && variants_own_texts around vs

  pub content_owns_texts : (around : Bool) → Content → Bool
  content_owns_texts around unit_content = true
  content_owns_texts around (newtype_content s) = owns_texts around s
  content_owns_texts around (tuple_content ps) = parts_own_texts around ps
  content_owns_texts around (struct_content fs) = fields_own_texts around fs

-- the keys of a map are texts, or the names of unit variants
abbrev pub is_plain_key : Form → Bool
is_plain_key (leaf l) = is_texts (leaf_kind l)
is_plain_key (enumeration vs) = are_units vs
is_plain_key s = false

abbrev mutual
  -- the form is plain, with these definitions around it
  pub is_plain_in : (around : Fields) → Form → Bool
  is_plain_in around (leaf l) = is_kept (leaf_kind l)
  is_plain_in around (optional s) = is_plain_in around s
  is_plain_in around (lossy s) = owns_texts (fields_own_texts true around) s && is_plain_in around s
  is_plain_in around (human_readable s) = false
  is_plain_in around (by_mode r c) = false
  is_plain_in around (newtype name s) = is_free_name name && is_plain_in around s
  is_plain_in around (unit_structure name) = true
  is_plain_in around (sequence s) = is_plain_in around s
  is_plain_in around (map key s) = is_plain_key key && is_plain_in around key && is_plain_in around s
  is_plain_in around (tuple ps) = are_parts_plain_in around ps
  is_plain_in around (tuple_structure name ps) = are_parts_plain_in around ps
  is_plain_in around (enumeration vs) = are_variants_plain_in around vs
  is_plain_in around (structure u name fs) = is_free_name name && are_fields_plain_in around fs
  is_plain_in around (reference name) = has_field name around
  is_plain_in around (definitions h s) = are_definitions_plain_in h h && is_plain_in h s

  pub are_fields_plain_in : (around : Fields) → Fields → Bool
  are_fields_plain_in around no_fields = true
  are_fields_plain_in around (field name s fs) = is_free_name name && is_plain_in around s && are_fields_plain_in around fs

  pub are_definitions_plain_in : (around : Fields) → Fields → Bool
  are_definitions_plain_in around no_fields = true
  are_definitions_plain_in around (field name s h) = is_plain_in around s && are_definitions_plain_in around h

  pub are_parts_plain_in : (around : Fields) → Parts → Bool
  are_parts_plain_in around no_parts = true
  are_parts_plain_in around (part s ps) = is_plain_in around s && are_parts_plain_in around ps

  pub are_variants_plain_in : (around : Fields) → Variants → Bool
  are_variants_plain_in around no_variants = true
  are_variants_plain_in around (variant name c vs) = is_free_name name && is_content_plain_in around c && are_variants_plain_in around vs

  pub is_content_plain_in : (around : Fields) → Content → Bool
  is_content_plain_in around unit_content = true
  is_content_plain_in around (newtype_content s) = is_plain_in around s
  is_content_plain_in around (tuple_content ps) = are_parts_plain_in around ps
  is_content_plain_in around (struct_content fs) = are_fields_plain_in around fs

-- the shape is plain, as it stands
abbrev pub is_plain : Form → Bool
is_plain = is_plain_in no_fields
