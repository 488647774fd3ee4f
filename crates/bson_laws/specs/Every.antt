-- What a property asks everywhere in a form: each property has its own rows alone.
use Rattle.bson_kinds.specs.Text.{Utf8}
use Rattle.bson_shape.specs.Form.{Form, leaf, optional, lossy, human_readable, by_mode, sequence, newtype, unit_structure, map, tuple, tuple_structure, structure, enumeration, reference, definitions, Fields, no_fields, field, Parts, no_parts, part, Content, unit_content, newtype_content, tuple_content, struct_content, Variants, no_variants, variant}
use Rattle.bson_shape.specs.declared.leaf.Leaf.{Leaf}

-- What a property asks of each part of a form, by what it asks inside the part. It names the parts of which it asks more than that.
pub record Rows : Type 1 where
  pub of_leaf : Leaf → Type 0
  -- of a form that is neither a leaf, a map nor definitions
  pub of_form : Form → (inside : Type 0) → Type 0
  pub of_map : (key : Form) → (in_key in_value : Type 0) → Type 0
  -- of definitions, whose table is taken as the fields of a struct are, or only its forms
  pub of_definitions : (in_fields in_forms in_body : Type 0) → Type 0
  pub of_field : (name : Utf8) → (in_form in_rest : Type 0) → Type 0
  pub of_variant : (name : Utf8) → (in_content in_rest : Type 0) → Type 0
  pub of_content : Content → (inside : Type 0) → Type 0

-- nothing is asked of any part, but what is asked inside it
abbrev pub asking_nothing : Rows
asking_nothing = record {
  of_leaf = λ l. Unit {0};
  of_form = λ s inside. inside;
  of_map = λ key in_key in_value. in_key × in_value;
  of_definitions = λ in_fields in_forms in_body. in_fields × in_body;
  of_field = λ name in_form in_rest. in_form × in_rest;
  of_variant = λ name in_content in_rest. in_content × in_rest;
  of_content = λ c inside. inside;
}

module _ (rows : Rows) where
  abbrev mutual
    -- everywhere in the form stands what is asked there
    pub Every : Form → Type 0
    Every (leaf l) = rows.of_leaf l
    Every (optional s) = rows.of_form (optional s) (Every s)
    Every (lossy s) = rows.of_form (lossy s) (Every s)
    Every (human_readable s) = rows.of_form (human_readable s) (Every s)
    Every (by_mode readable compact) = rows.of_form (by_mode readable compact) (Every readable × Every compact)
    Every (newtype name s) = rows.of_form (newtype name s) (Every s)
    Every (unit_structure name) = rows.of_form (unit_structure name) (Unit {0})
    Every (sequence s) = rows.of_form (sequence s) (Every s)
    Every (map key s) = rows.of_map key (Every key) (Every s)
    Every (tuple ps) = rows.of_form (tuple ps) (EveryPart ps)
    Every (tuple_structure name ps) = rows.of_form (tuple_structure name ps) (EveryPart ps)
    Every (enumeration vs) = rows.of_form (enumeration vs) (EveryVariant vs)
    Every (structure u name fs) = rows.of_form (structure u name fs) (EveryField fs)
    Every (reference name) = rows.of_form (reference name) (Unit {0})
    Every (definitions h s) = rows.of_definitions (EveryField h) (EveryDefinition h) (Every s)

    pub EveryField : Fields → Type 0
    EveryField no_fields = Unit {0}
    EveryField (field name s fs) = rows.of_field name (Every s) (EveryField fs)

    pub EveryDefinition : Fields → Type 0
    EveryDefinition no_fields = Unit {0}
    EveryDefinition (field name s h) = Every s × EveryDefinition h

    pub EveryPart : Parts → Type 0
    EveryPart no_parts = Unit {0}
    EveryPart (part s ps) = Every s × EveryPart ps

    pub EveryVariant : Variants → Type 0
    EveryVariant no_variants = Unit {0}
    EveryVariant (variant name c vs) = rows.of_variant name (EveryContent c) (EveryVariant vs)

    pub EveryContent : Content → Type 0
    EveryContent unit_content = Unit {0}
    EveryContent (newtype_content s) = rows.of_content (newtype_content s) (Every s)
    EveryContent (tuple_content ps) = rows.of_content (tuple_content ps) (EveryPart ps)
    EveryContent (struct_content fs) = rows.of_content (struct_content fs) (EveryField fs)
