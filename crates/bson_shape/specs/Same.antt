-- Whether two forms are the same. Source: serde's data model.
use Rattle.std.specs.Prelude.{Bool, true, false, ◌&&◌}
use Rattle.std.specs.Str.{bytes_eq}
use denote.Enum.Bare.{sameb}
use Rattle.bson_shape.specs.Form.{UnknownFields, dropped, denied, Form, leaf, optional, lossy, human_readable, by_mode, sequence, map, tuple, tuple_structure, newtype, unit_structure, structure, enumeration, reference, definitions, Fields, no_fields, field, Parts, no_parts, part, Variants, no_variants, variant, Content, unit_content, newtype_content, tuple_content, struct_content}
use Rattle.bson_shape.specs.contracts.leaf.Leaf as leaf_type

abbrev pub same_unknown : UnknownFields → UnknownFields → Bool
same_unknown dropped dropped = true
same_unknown denied denied = true
same_unknown u w = false

abbrev mutual
  pub same : Form → Form → Bool
  same (leaf l) (leaf m) = sameb leaf_type.the_type l m
  same (optional f) (optional g) = same f g
  same (lossy f) (lossy g) = same f g
  same (human_readable f) (human_readable g) = same f g
  same (sequence f) (sequence g) = same f g
  same (map k v) (map l w) = same k l && same v w
  same (by_mode r c) (by_mode s d) = same r s && same c d
  same (tuple ps) (tuple qs) = same_parts ps qs
  same (tuple_structure name ps) (tuple_structure n qs) = bytes_eq name n && same_parts ps qs
  same (newtype name f) (newtype n g) = bytes_eq name n && same f g
  same (unit_structure name) (unit_structure n) = bytes_eq name n
  same (structure u name fs) (structure w n gs) = same_unknown u w && (bytes_eq name n && same_fields fs gs)
  same (enumeration vs) (enumeration ws) = same_variants vs ws
  same (reference name) (reference n) = bytes_eq name n
  same (definitions h f) (definitions k g) = same_fields h k && same f g
  same f g = false

  pub same_fields : Fields → Fields → Bool
  same_fields no_fields no_fields = true
  same_fields (field name f fs) (field n g gs) = bytes_eq name n && (same f g && same_fields fs gs)
  same_fields fs gs = false

  pub same_parts : Parts → Parts → Bool
  same_parts no_parts no_parts = true
  same_parts (part f ps) (part g qs) = same f g && same_parts ps qs
  same_parts ps qs = false

  pub same_variants : Variants → Variants → Bool
  same_variants no_variants no_variants = true
  same_variants (variant name c vs) (variant n d ws) = bytes_eq name n && (same_content c d && same_variants vs ws)
  same_variants vs ws = false

  pub same_content : Content → Content → Bool
  same_content unit_content unit_content = true
  same_content (newtype_content f) (newtype_content g) = same f g
  same_content (tuple_content ps) (tuple_content qs) = same_parts ps qs
  same_content (struct_content fs) (struct_content gs) = same_fields fs gs
  same_content c d = false
