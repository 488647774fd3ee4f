-- The shapes whose documents are read back as they were written. Source: bsonspec.org, version 1.1, `e_name` and `cstring`, with serde's data model.
use Rattle.std.specs.Prelude.{◌≡◌, true}
use Rattle.bson_kinds.specs.Text.{IsFreeName}
use Rattle.bson_shape.specs.Form.{Form, leaf, optional, lossy, human_readable, by_mode, sequence, newtype, unit_structure, map, tuple, tuple_structure, structure, enumeration, reference, definitions, Fields, no_fields, field, Parts, no_parts, part, Content, unit_content, newtype_content, tuple_content, struct_content, Variants, no_variants, variant}
use Rattle.bson_shape.specs.Makers.{are_units, has_field}
use Rattle.bson_shape.specs.declared.leaf.Leaf.{Leaf}
use Rattle.bson_shape.specs.declared.leaf.Leaf.TheVariants.{Str}
use Rattle.bson_laws.specs.Leaves.{LeafKind, ignored, texts, raw_documents, raw_arrays, raw_values, leaf_kind}

-- a leaf that keeps what it reads, and keeps nothing in its bytes
abbrev pub IsKept : LeafKind → Type 0
IsKept ignored = ⊥
IsKept raw_documents = ⊥
IsKept raw_arrays = ⊥
IsKept raw_values = ⊥
IsKept k = Unit {0}

-- a leaf that does not borrow a text
abbrev pub OwnsTextLeaf : Leaf → Type 0
OwnsTextLeaf Str = ⊥
OwnsTextLeaf l = Unit {0}

abbrev mutual
  -- No text and no key is borrowed: `str` is nowhere in the form, its definitions included. Where the form refers to the definitions around it, it is
  -- nowhere in these either.
  pub OwnsTextsIn : (around : Type 0) → Form → Type 0
  OwnsTextsIn around (leaf l) = OwnsTextLeaf l
  OwnsTextsIn around (optional s) = OwnsTextsIn around s
  OwnsTextsIn around (lossy s) = OwnsTextsIn around s
  OwnsTextsIn around (human_readable s) = OwnsTextsIn around s
  OwnsTextsIn around (by_mode readable compact) = OwnsTextsIn around readable × OwnsTextsIn around compact
  OwnsTextsIn around (newtype name s) = OwnsTextsIn around s
  OwnsTextsIn around (unit_structure name) = Unit {0}
  OwnsTextsIn around (sequence s) = OwnsTextsIn around s
  OwnsTextsIn around (map key s) = OwnsTextsIn around key × OwnsTextsIn around s
  OwnsTextsIn around (tuple ps) = PartsOwnTextsIn around ps
  OwnsTextsIn around (tuple_structure name ps) = PartsOwnTextsIn around ps
  OwnsTextsIn around (enumeration vs) = VariantsOwnTextsIn around vs
  OwnsTextsIn around (structure u name fs) = FieldsOwnTextsIn around fs
  OwnsTextsIn around (reference name) = around
  OwnsTextsIn around (definitions h s) = FieldsOwnTextsIn (Unit {0}) h × OwnsTextsIn (Unit {0}) s

  pub FieldsOwnTextsIn : (around : Type 0) → Fields → Type 0
  FieldsOwnTextsIn around no_fields = Unit {0}
  FieldsOwnTextsIn around (field name s fs) = OwnsTextsIn around s × FieldsOwnTextsIn around fs

  pub PartsOwnTextsIn : (around : Type 0) → Parts → Type 0
  PartsOwnTextsIn around no_parts = Unit {0}
  PartsOwnTextsIn around (part s ps) = OwnsTextsIn around s × PartsOwnTextsIn around ps

  pub VariantsOwnTextsIn : (around : Type 0) → Variants → Type 0
  VariantsOwnTextsIn around no_variants = Unit {0}
  VariantsOwnTextsIn around (variant name c vs) = ContentOwnsTextsIn around c × VariantsOwnTextsIn around vs

  pub ContentOwnsTextsIn : (around : Type 0) → Content → Type 0
  ContentOwnsTextsIn around unit_content = Unit {0}
  ContentOwnsTextsIn around (newtype_content s) = OwnsTextsIn around s
  ContentOwnsTextsIn around (tuple_content ps) = PartsOwnTextsIn around ps
  ContentOwnsTextsIn around (struct_content fs) = FieldsOwnTextsIn around fs

-- no text and no key asks to be borrowed: `str` is nowhere in the form, its definitions included
abbrev pub OwnsTexts : Form → Type 0
OwnsTexts = OwnsTextsIn (Unit {0})

-- the same of definitions
abbrev pub DefinitionsOwnTexts : Fields → Type 0
DefinitionsOwnTexts = FieldsOwnTextsIn (Unit {0})

-- the keys of a map are texts, or the names of unit variants
abbrev pub IsPlainKey : Form → Type 0
IsPlainKey (leaf l) = leaf_kind l ≡ texts
IsPlainKey (enumeration vs) = are_units vs ≡ true
IsPlainKey s = ⊥

abbrev mutual
  -- Each name of a newtype, a struct, a field and a variant is free, each map has texts or unit variants as its keys, and nothing is ignored or kept in its
  -- bytes. Where texts are mended none asks to be borrowed, neither there nor in a definition to which a reference there refers. Each reference has a definition in the
  -- innermost table around it, and nothing depends on whether the reader is human. The names of tuple structs and unit structs may be any: none of
  -- them is reserved; and so may those of definitions, which are never written.
  pub IsPlainIn : (around : Fields) → Form → Type 0
  IsPlainIn around (leaf l) = IsKept (leaf_kind l)
  IsPlainIn around (optional s) = IsPlainIn around s
  IsPlainIn around (lossy s) = OwnsTextsIn (DefinitionsOwnTexts around) s × IsPlainIn around s
  IsPlainIn around (human_readable s) = ⊥
  IsPlainIn around (by_mode readable compact) = ⊥
  IsPlainIn around (newtype name s) = IsFreeName name × IsPlainIn around s
  IsPlainIn around (unit_structure name) = Unit {0}
  IsPlainIn around (sequence s) = IsPlainIn around s
  IsPlainIn around (map key s) = IsPlainKey key × IsPlainIn around key × IsPlainIn around s
  IsPlainIn around (tuple ps) = ArePartsPlainIn around ps
  IsPlainIn around (tuple_structure name ps) = ArePartsPlainIn around ps
  IsPlainIn around (enumeration vs) = AreVariantsPlainIn around vs
  IsPlainIn around (structure u name fs) = IsFreeName name × AreFieldsPlainIn around fs
  IsPlainIn around (reference name) = has_field name around ≡ true
  IsPlainIn around (definitions h s) = AreDefinitionsPlainIn h h × IsPlainIn h s

  pub AreFieldsPlainIn : (around : Fields) → Fields → Type 0
  AreFieldsPlainIn around no_fields = Unit {0}
  AreFieldsPlainIn around (field name s fs) = IsFreeName name × IsPlainIn around s × AreFieldsPlainIn around fs

  pub AreDefinitionsPlainIn : (around : Fields) → Fields → Type 0
  AreDefinitionsPlainIn around no_fields = Unit {0}
  AreDefinitionsPlainIn around (field name s h) = IsPlainIn around s × AreDefinitionsPlainIn around h

  pub ArePartsPlainIn : (around : Fields) → Parts → Type 0
  ArePartsPlainIn around no_parts = Unit {0}
  ArePartsPlainIn around (part s ps) = IsPlainIn around s × ArePartsPlainIn around ps

  pub AreVariantsPlainIn : (around : Fields) → Variants → Type 0
  AreVariantsPlainIn around no_variants = Unit {0}
  AreVariantsPlainIn around (variant name c vs) = IsFreeName name × IsContentPlainIn around c × AreVariantsPlainIn around vs

  pub IsContentPlainIn : (around : Fields) → Content → Type 0
  IsContentPlainIn around unit_content = Unit {0}
  IsContentPlainIn around (newtype_content s) = IsPlainIn around s
  IsContentPlainIn around (tuple_content ps) = ArePartsPlainIn around ps
  IsContentPlainIn around (struct_content fs) = AreFieldsPlainIn around fs

-- the shape is plain, as it stands
abbrev pub IsPlain : Form → Type 0
IsPlain = IsPlainIn no_fields

-- and so are the fields of a struct
abbrev pub AreFieldsPlain : Fields → Type 0
AreFieldsPlain = AreFieldsPlainIn no_fields
