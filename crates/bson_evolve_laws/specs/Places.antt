-- The parts of a shape, each with the definitions around it. Source: this library's own comparison of shapes.
use Rattle.std.specs.Prelude.{List, [], ◌∷◌, ◌++◌}
use Rattle.bson_shape.specs.Form.{Form, leaf, optional, lossy, human_readable, by_mode, sequence, newtype, unit_structure, map, tuple, tuple_structure, structure, enumeration, reference, definitions, Fields, no_fields, field, Parts, no_parts, part, Content, unit_content, newtype_content, tuple_content, struct_content, Variants, no_variants, variant}
use Rattle.bson_shape.specs.declared.leaf.Leaf.TheVariants.{Bson}
use Rattle.bson_evolve_laws.specs.Placed.{Placed, placed}

abbrev mutual
  -- A form in the definitions around it, and all its parts, but for the keys of maps. With definitions come each of them and `bson`, which row 23 takes
  -- for the values of a `document`.
  pub places : Fields → Form → List Placed
  places h (leaf l) = placed h (leaf l) ∷ []
  places h (optional s) = placed h (optional s) ∷ places h s
  places h (lossy s) = placed h (lossy s) ∷ places h s
  places h (human_readable s) = placed h (human_readable s) ∷ places h s
  places h (by_mode r c) = placed h (by_mode r c) ∷ (places h r ++ places h c)
  places h (sequence s) = placed h (sequence s) ∷ places h s
  places h (map k s) = placed h (map k s) ∷ places h s
  places h (tuple ps) = placed h (tuple ps) ∷ part_places h ps
  places h (tuple_structure name ps) = placed h (tuple_structure name ps) ∷ part_places h ps
  places h (newtype name s) = placed h (newtype name s) ∷ places h s
  places h (unit_structure name) = placed h (unit_structure name) ∷ []
  places h (structure u name fs) = placed h (structure u name fs) ∷ field_places h fs
  places h (enumeration vs) = placed h (enumeration vs) ∷ variant_places h vs
  places h (reference name) = placed h (reference name) ∷ []
  places h (definitions k s) = placed h (definitions k s) ∷ (placed k (leaf Bson) ∷ (field_places k k ++ places k s))

  pub field_places : Fields → Fields → List Placed
  field_places h no_fields = []
  field_places h (field name s fs) = places h s ++ field_places h fs

  pub part_places : Fields → Parts → List Placed
  part_places h no_parts = []
  part_places h (part s ps) = places h s ++ part_places h ps

  pub variant_places : Fields → Variants → List Placed
  variant_places h no_variants = []
  variant_places h (variant name c vs) = content_places h c ++ variant_places h vs

  pub content_places : Fields → Content → List Placed
  content_places h unit_content = []
  content_places h (newtype_content s) = places h s
  content_places h (tuple_content ps) = part_places h ps
  content_places h (struct_content fs) = field_places h fs

-- all parts of a shape that stands in no definitions, and `bson`
abbrev pub all_places : Form → List Placed
all_places s = placed no_fields (leaf Bson) ∷ places no_fields s
