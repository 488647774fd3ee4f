-- What the makers of shapes ask for, and what they answer. Source: serde's data model, and the limits of this library.
use Rattle.std.specs.Prelude.{ℕ, suc, ◌≡◌, ◌≤◌, Bool, true, false, ◌&&◌, ◌||◌, if◌then◌else◌, nat_lt, List, [], ◌∷◌, codes, None, is_some, Result, Ok, Err, IsOk}
use Rattle.std.specs.List.{list_any}
use Rattle.std.specs.Str.{bytes_eq, is_utf8}
use Rattle.bson_kinds.specs.Text.{Utf8}
use Rattle.bson_kinds.specs.Reserved.{reserved_kind}
use Rattle.bson_shape.specs.Form.{UnknownFields, Form, leaf, optional, lossy, human_readable, by_mode, sequence, map, tuple, tuple_structure, newtype, unit_structure, structure, enumeration, reference, definitions, Fields, no_fields, field, Parts, no_parts, part, Variants, no_variants, variant, Content, unit_content, newtype_content, tuple_content, struct_content}
use Rattle.bson_shape.specs.Guarded.{is_guarded}
use Rattle.bson_shape.specs.Leaf.{is_text}
use Rattle.bson_shape.specs.Levels.{levels, deepest, max_shape_levels}
use Rattle.bson_shape.specs.declared.error.ShapeError.{ShapeError}
use Rattle.bson_shape.specs.declared.error.ShapeError.TheVariants.{ReservedName, RepeatedName, KeyNotText, Unguarded, TooDeep, NoMemory}

-- one of the names is this one
abbrev pub has_name : Utf8 → List Utf8 → Bool
has_name name names = list_any (bytes_eq name) names

-- two of the names are the same
abbrev pub has_repeat : List Utf8 → Bool
has_repeat [] = false
has_repeat (n ∷ ns) = has_name n ns || has_repeat ns

-- the names of fields or definitions, in order
abbrev pub field_names : Fields → List Utf8
field_names no_fields = []
field_names (field name f fs) = name ∷ field_names fs

-- the names of variants, in order
abbrev pub variant_names : Variants → List Utf8
variant_names no_variants = []
variant_names (variant name c vs) = name ∷ variant_names vs

-- a field has the name
abbrev pub has_field : Utf8 → Fields → Bool
has_field name fs = has_name name (field_names fs)

-- two fields or definitions have one name
abbrev pub repeats : Fields → Bool
repeats fs = has_repeat (field_names fs)

-- no two fields or definitions have one name
abbrev pub AreDistinct : Fields → Type 0
AreDistinct fs = repeats fs ≡ false

-- two fields of a struct variant have one name
abbrev pub content_repeats : Content → Bool
content_repeats (struct_content fs) = repeats fs
content_repeats c = false

abbrev pub contents_repeat : Variants → Bool
contents_repeat no_variants = false
contents_repeat (variant name c vs) = content_repeats c || contents_repeat vs

-- two variants have one name, or two fields of one of them
abbrev pub variants_repeat : Variants → Bool
variants_repeat vs = has_repeat (variant_names vs) || contents_repeat vs

-- the names of newtypes that carry UUIDs and marks through serde's data model
abbrev pub reserved_newtypes : List Utf8
reserved_newtypes = codes "$__bson_private_uuid" ∷ codes "$__bson_private_human_readable" ∷ codes "$__bson_private_utf8_lossy" ∷ []

-- a newtype's name is reserved
abbrev pub is_reserved_newtype : Utf8 → Bool
is_reserved_newtype name = list_any (bytes_eq name) reserved_newtypes

abbrev pub is_unit : Content → Bool
is_unit unit_content = true
is_unit c = false

-- no variant has more than its name
abbrev pub are_units : Variants → Bool
are_units no_variants = true
are_units (variant name c vs) = is_unit c && are_units vs

-- a key of this form is a text
abbrev pub is_text_key : Form → Bool
is_text_key (leaf l) = is_text l
is_text_key (enumeration vs) = are_units vs
is_text_key f = false

-- What the maker of a newtype asks: a text as its name, which is not reserved, and few levels.
pub record IsNewtype (name : Utf8) (inner : Form) : Type 0 where
  pub text : is_utf8 name ≡ true
  pub free : is_reserved_newtype name ≡ false
  pub few : levels (newtype name inner) ≤ max_shape_levels

-- What the maker of a struct asks: a text as its name, which is not reserved, fields of different names, and few levels.
pub record IsStruct (name : Utf8) (fields : Fields) : Type 0 where
  pub text : is_utf8 name ≡ true
  pub free : reserved_kind name ≡ None
  pub distinct : AreDistinct fields
  pub few : suc (deepest fields) ≤ max_shape_levels

-- What the maker of an enum asks of its names and levels: variants of different names, and few levels.
pub record IsEnum (variants : Variants) : Type 0 where
  pub distinct : has_repeat (variant_names variants) ≡ false
  pub few : levels (enumeration variants) ≤ max_shape_levels

-- What the maker of definitions asks: different names, of which none leads back to itself, and few levels.
pub record AreDefinitions (table : Fields) (body : Form) : Type 0 where
  pub distinct : AreDistinct table
  pub guarded : is_guarded table ≡ true
  pub few : levels (definitions table body) ≤ max_shape_levels

abbrev mutual
  -- each form in the form is as its maker asks, and each name is a text
  pub IsShape : Form → Type 0
  IsShape (leaf l) = Unit {0}
  IsShape (optional f) = (levels (optional f) ≤ max_shape_levels) × IsShape f
  IsShape (lossy f) = (levels (lossy f) ≤ max_shape_levels) × IsShape f
  IsShape (human_readable f) = (levels (human_readable f) ≤ max_shape_levels) × IsShape f
  IsShape (sequence f) = (levels (sequence f) ≤ max_shape_levels) × IsShape f
  IsShape (map k v) = (is_text_key k ≡ true) × (levels (map k v) ≤ max_shape_levels) × IsShape k × IsShape v
  IsShape (by_mode r c) = (levels (by_mode r c) ≤ max_shape_levels) × IsShape r × IsShape c
  IsShape (tuple ps) = (levels (tuple ps) ≤ max_shape_levels) × AreParts ps
  IsShape (tuple_structure name ps) = (is_utf8 name ≡ true) × (levels (tuple_structure name ps) ≤ max_shape_levels) × AreParts ps
  IsShape (newtype name f) = IsNewtype name f × IsShape f
  IsShape (unit_structure name) = is_utf8 name ≡ true
  IsShape (structure u name fs) = IsStruct name fs × AreShapes fs
  IsShape (enumeration vs) = IsEnum vs × AreVariants vs
  IsShape (reference name) = is_utf8 name ≡ true
  IsShape (definitions h f) = AreDefinitions h f × AreShapes h × IsShape f

  pub AreShapes : Fields → Type 0
  AreShapes no_fields = Unit {0}
  AreShapes (field name f fs) = (is_utf8 name ≡ true) × IsShape f × AreShapes fs

  pub AreParts : Parts → Type 0
  AreParts no_parts = Unit {0}
  AreParts (part f ps) = IsShape f × AreParts ps

  pub AreVariants : Variants → Type 0
  AreVariants no_variants = Unit {0}
  AreVariants (variant name c vs) = (is_utf8 name ≡ true) × IsContent c × AreVariants vs

  -- the fields of a struct variant have different names
  pub IsContent : Content → Type 0
  IsContent unit_content = Unit {0}
  IsContent (newtype_content f) = IsShape f
  IsContent (tuple_content ps) = AreParts ps
  IsContent (struct_content fs) = AreDistinct fs × AreShapes fs

-- the form, where it has few levels
abbrev pub within_levels : Form → Result Form ShapeError
within_levels f = if nat_lt max_shape_levels (levels f) then Err TooDeep else Ok f

-- what the maker of an option answers
abbrev pub made_optional : Form → Result Form ShapeError
made_optional f = within_levels (optional f)

-- what the makers of the marks answer
abbrev pub made_lossy : Form → Result Form ShapeError
made_lossy f = within_levels (lossy f)

abbrev pub made_human_readable : Form → Result Form ShapeError
made_human_readable f = within_levels (human_readable f)

-- what the maker of two forms answers
abbrev pub made_by_mode : Form → Form → Result Form ShapeError
made_by_mode r c = within_levels (by_mode r c)

-- what the maker of a sequence answers
abbrev pub made_sequence : Form → Result Form ShapeError
made_sequence f = within_levels (sequence f)

-- what the maker of a map answers
abbrev pub made_map : Form → Form → Result Form ShapeError
made_map k v = if is_text_key k then within_levels (map k v) else Err KeyNotText

-- what the makers of a tuple and of a tuple struct answer
abbrev pub made_tuple : Parts → Result Form ShapeError
made_tuple ps = within_levels (tuple ps)

abbrev pub made_tuple_structure : Utf8 → Parts → Result Form ShapeError
made_tuple_structure name ps = within_levels (tuple_structure name ps)

-- what the maker of a newtype answers
abbrev pub made_newtype : Utf8 → Form → Result Form ShapeError
made_newtype name f = if is_reserved_newtype name then Err ReservedName else within_levels (newtype name f)

-- what the makers of structs answer
abbrev pub made_structure : UnknownFields → Utf8 → Fields → Result Form ShapeError
made_structure u name fs =
    if is_some (reserved_kind name) then Err ReservedName
    else (if repeats fs then Err RepeatedName
    else within_levels (structure u name fs))

-- The levels of a struct that its makers make, or why they refuse it.
abbrev pub StructLevels : Result ℕ ShapeError → Utf8 → Fields → Type 0
StructLevels (Ok n) name fs = (n ≡ suc (deepest fs)) × IsStruct name fs × AreShapes fs
StructLevels (Err e) name fs = (u : UnknownFields) → made_structure u name fs ≡ Err e

-- what the maker of an enum answers
abbrev pub made_enumeration : Variants → Result Form ShapeError
made_enumeration vs = if variants_repeat vs then Err RepeatedName else within_levels (enumeration vs)

-- what the maker of definitions answers
abbrev pub made_definitions : Fields → Form → Result Form ShapeError
made_definitions h f =
    if repeats h then Err RepeatedName
    else (if is_guarded h then within_levels (definitions h f)
    else Err Unguarded)

-- what the maker of the form answers, where its inner forms are made; a leaf, a unit struct and a reference are made in any case
abbrev pub made_form : Form → Result Form ShapeError
made_form (leaf l) = Ok (leaf l)
made_form (optional f) = made_optional f
made_form (lossy f) = made_lossy f
made_form (human_readable f) = made_human_readable f
made_form (sequence f) = made_sequence f
made_form (map k v) = made_map k v
made_form (by_mode r c) = made_by_mode r c
made_form (tuple ps) = made_tuple ps
made_form (tuple_structure name ps) = made_tuple_structure name ps
made_form (newtype name f) = made_newtype name f
made_form (unit_structure name) = Ok (unit_structure name)
made_form (structure u name fs) = made_structure u name fs
made_form (enumeration vs) = made_enumeration vs
made_form (reference name) = Ok (reference name)
made_form (definitions h f) = made_definitions h f

-- What a maker that takes memory answers, where it answers this if there is memory: this, or, where this is no refusal, that memory ran out.
abbrev pub Makes : Result Form ShapeError → Result Form ShapeError → Type 0
Makes (Ok f) due = due ≡ Ok f
Makes (Err NoMemory) due = IsOk due
Makes (Err e) due = due ≡ Err e
