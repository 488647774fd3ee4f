-- The form of a shape once it is known whether the reader is human. Source: serde's `is_human_readable`.
use Rattle.std.specs.Prelude.{Bool, true, if◌then◌else◌}
use Rattle.bson_shape.specs.Form.{Form, leaf, optional, lossy, human_readable, by_mode, sequence, newtype, unit_structure, map, tuple, tuple_structure, structure, enumeration, reference, definitions, Fields, no_fields, field, Parts, no_parts, part, Content, unit_content, newtype_content, tuple_content, struct_content, Variants, no_variants, variant}
use Rattle.bson_laws.specs.Every.{Rows, asking_nothing, Every}

-- of two forms the one that applies, for each reader
abbrev pub alike : Form → Form
alike s = by_mode s s

abbrev mutual
  -- The form for a reader who is human, or for one who is not: where a value has two forms, each is the one that applies. Inside the readable form the
  -- reader is human. The key of a map is a text for each reader.
  pub settled : (readable : Bool) → Form → Form
  settled readable (leaf l) = leaf l
  settled readable (optional s) = optional (settled readable s)
  settled readable (lossy s) = lossy (settled readable s)
  settled readable (human_readable s) = human_readable (settled true s)
  settled readable (by_mode r c) = alike (if readable then settled readable r else settled readable c)
  settled readable (sequence s) = sequence (settled readable s)
  settled readable (map key s) = map key (settled readable s)
  settled readable (tuple ps) = tuple (settled_parts readable ps)
  settled readable (tuple_structure name ps) = tuple_structure name (settled_parts readable ps)
  settled readable (newtype name s) = newtype name (settled readable s)
  settled readable (unit_structure name) = unit_structure name
  settled readable (structure u name fs) = structure u name (settled_fields readable fs)
  settled readable (enumeration vs) = enumeration (settled_variants readable vs)
  settled readable (reference name) = reference name
  settled readable (definitions h s) = definitions (settled_fields readable h) (settled readable s)

  pub settled_fields : (readable : Bool) → Fields → Fields
  settled_fields readable no_fields = no_fields
  settled_fields readable (field name s fs) = field name (settled readable s) (settled_fields readable fs)

  pub settled_parts : (readable : Bool) → Parts → Parts
  settled_parts readable no_parts = no_parts
  settled_parts readable (part s ps) = part (settled readable s) (settled_parts readable ps)

  pub settled_variants : (readable : Bool) → Variants → Variants
  settled_variants readable no_variants = no_variants
  settled_variants readable (variant name c vs) = variant name (settled_content readable c) (settled_variants readable vs)

  pub settled_content : (readable : Bool) → Content → Content
  settled_content readable unit_content = unit_content
  settled_content readable (newtype_content s) = newtype_content (settled readable s)
  settled_content readable (tuple_content ps) = tuple_content (settled_parts readable ps)
  settled_content readable (struct_content fs) = struct_content (settled_fields readable fs)

-- the form is none of two, and no mark for a reader who is human
abbrev pub IsSettledForm : Form → (inside : Type 0) → Type 0
IsSettledForm (human_readable s) inside = ⊥
IsSettledForm (by_mode r c) inside = ⊥
IsSettledForm s inside = inside

-- nothing is asked of the key of a map
abbrev pub settled_rows : Rows
settled_rows = record asking_nothing {
  of_form = IsSettledForm;
  of_map = λ (key : Form) (in_key in_value : Type 0). in_value;
}

-- no form in the form depends on whether the reader is human: it is settled as it stands
abbrev pub IsSettled : Form → Type 0
IsSettled = Every settled_rows
