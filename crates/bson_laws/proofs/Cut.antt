-- A form down to a depth, counted in steps into values.
use Rattle.std.specs.Prelude.{ℕ, zero, suc}
use Rattle.bson_shape.specs.Form.{Form, leaf, optional, lossy, human_readable, by_mode, sequence, newtype, unit_structure, map, tuple, tuple_structure, structure, enumeration, reference, definitions, Fields, no_fields, field, Parts, no_parts, part, Content, unit_content, newtype_content, tuple_content, struct_content, Variants, no_variants, variant}

-- what stands below a step into a value: nothing is left at depth 0
abbrev pub below : {A : Type 0} → ℕ → A → (ℕ → A) → A
below zero x f = x
below (suc d) x f = f d

-- a form at which nothing is read
abbrev pub nothing : Form
nothing = enumeration no_variants

abbrev mutual
  -- The form without what stands so many steps deep. It keeps what it is, the names of its variants, and whether they are unit variants.
  pub cut : Form → ℕ → Form
  cut (leaf l) d = leaf l
  cut (optional s) d = optional (cut s d)
  cut (lossy s) d = lossy (cut s d)
  cut (human_readable s) d = human_readable (cut s d)
  cut (by_mode r c) d = by_mode (cut r d) (cut c d)
  cut (sequence s) d = sequence (below d nothing (cut s))
  cut (map key s) d = map (below d nothing (λ e. cut key 0)) (below d nothing (cut s))
  cut (tuple ps) d = tuple (below d no_parts (cut_parts ps))
  cut (tuple_structure name ps) d = tuple_structure name (below d no_parts (cut_parts ps))
  cut (newtype name s) d = newtype name (cut s d)
  cut (unit_structure name) d = unit_structure name
  cut (structure u name fs) d = structure u name (below d no_fields (cut_fields fs))
  cut (enumeration vs) d = enumeration (cut_variants vs d)
  cut (reference name) d = reference name
  cut (definitions h s) d = definitions h (cut s d)

  pub cut_fields : Fields → ℕ → Fields
  cut_fields no_fields d = no_fields
  cut_fields (field name s fs) d = field name (cut s d) (cut_fields fs d)

  pub cut_parts : Parts → ℕ → Parts
  cut_parts no_parts d = no_parts
  cut_parts (part s ps) d = part (cut s d) (cut_parts ps d)

  pub cut_variants : Variants → ℕ → Variants
  cut_variants no_variants d = no_variants
  cut_variants (variant name c vs) d = variant name (cut_content c d) (cut_variants vs d)

  pub cut_content : Content → ℕ → Content
  cut_content unit_content d = unit_content
  cut_content (newtype_content s) d = below d (tuple_content no_parts) (λ e. newtype_content (cut s e))
  cut_content (tuple_content ps) d = below d (tuple_content no_parts) (λ e. tuple_content (cut_parts ps e))
  cut_content (struct_content fs) d = below d (tuple_content no_parts) (λ e. struct_content (cut_fields fs e))
