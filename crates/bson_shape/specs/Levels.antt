-- How many forms are inside one another in a shape. Source: the limits of this library.
use Rattle.std.specs.Prelude.{ℕ, suc, max}
use Rattle.bson_shape.specs.Form.{Form, leaf, optional, lossy, human_readable, by_mode, sequence, map, tuple, tuple_structure, newtype, unit_structure, structure, enumeration, reference, definitions, Fields, no_fields, field, Parts, no_parts, part, Variants, no_variants, variant, Content, unit_content, newtype_content, tuple_content, struct_content}

-- the most levels of a shape
abbrev pub max_shape_levels : ℕ
max_shape_levels = 512

abbrev mutual
  -- a form without inner forms has one level, another has one more than its deepest inner form
  pub levels : Form → ℕ
  levels (leaf l) = 1
  levels (optional f) = suc (levels f)
  levels (lossy f) = suc (levels f)
  levels (human_readable f) = suc (levels f)
  levels (sequence f) = suc (levels f)
  levels (map k v) = suc (max (levels k) (levels v))
  levels (by_mode r c) = suc (max (levels r) (levels c))
  levels (tuple ps) = suc (deepest_part ps)
  levels (tuple_structure name ps) = suc (deepest_part ps)
  levels (newtype name f) = suc (levels f)
  levels (unit_structure name) = 1
  levels (structure u name fs) = suc (deepest fs)
  levels (enumeration vs) = suc (deepest_variant vs)
  levels (reference name) = 1
  levels (definitions h f) = suc (max (deepest h) (levels f))

  -- the levels of the deepest field or definition, 0 where there is none
  pub deepest : Fields → ℕ
  deepest no_fields = 0
  deepest (field name f fs) = max (levels f) (deepest fs)

  -- the levels of the deepest part, 0 where there is none
  pub deepest_part : Parts → ℕ
  deepest_part no_parts = 0
  deepest_part (part f ps) = max (levels f) (deepest_part ps)

  -- the levels of the deepest form in a variant, 0 where there is none
  pub deepest_variant : Variants → ℕ
  deepest_variant no_variants = 0
  deepest_variant (variant name c vs) = max (deepest_inside c) (deepest_variant vs)

  pub deepest_inside : Content → ℕ
  deepest_inside unit_content = 0
  deepest_inside (newtype_content f) = levels f
  deepest_inside (tuple_content ps) = deepest_part ps
  deepest_inside (struct_content fs) = deepest fs
