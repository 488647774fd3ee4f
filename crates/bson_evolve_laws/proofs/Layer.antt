-- One layer of a form: the trees that it has, where its parts have what is given for them.
use Rattle.std.specs.Prelude.{◌≡◌, Bool, true, false, Option, Some, None, IsSome}
use Rattle.std.specs.Str.{bytes_eq}
use Rattle.bson_base.specs.Pairs.{lookup}
use Rattle.bson_kinds.specs.Text.{Utf8}
use Rattle.bson_base.specs.Tree.{Tree, string, document, array, null, Pairs, no_pairs, pair, Trees, no_trees, tree}
use Rattle.bson_shape.specs.Form.{UnknownFields, dropped, Form, leaf, optional, sequence, unit_structure, map, tuple, tuple_structure, structure, enumeration, Fields, no_fields, field, Parts, no_parts, part, Content, unit_content, newtype_content, tuple_content, struct_content, Variants, no_variants, variant}
use Rattle.bson_laws.specs.Leaves.{leaf_kind}
use Rattle.bson_laws.specs.Variants.{content_of}
use Rattle.bson_laws.specs.Views.{views_leaf, views_key}
use Rattle.bson_laws.specs.Named.{has}

abbrev pub AllTrees : (Tree → Type 0) → Trees → Type 0
AllTrees P no_trees = Unit {0}
AllTrees P (tree t ts) = P t × AllTrees P ts

abbrev pub AllPairs : (Utf8 → Type 0) → (Tree → Type 0) → Pairs → Type 0
AllPairs K P no_pairs = Unit {0}
AllPairs K P (pair key t ps) = K key × P t × AllPairs K P ps

abbrev pub IsOptional : Form → Type 0
IsOptional (optional s) = Unit {0}
IsOptional s = ⊥

-- what is at the key of a field, if anything is
abbrev pub HoldsAt : (Tree → Type 0) → Type 0 → Option Tree → Type 0
HoldsAt P missing None = missing
HoldsAt P missing (Some t) = P t

-- each key is one of the names
abbrev pub KeysIn : Pairs → Fields → Type 0
KeysIn no_pairs fs = Unit {0}
KeysIn (pair key t ps) fs = (has fs key ≡ true) × KeysIn ps fs

-- how the documents of structs are taken
pub data Taking : Type 0 where
  -- other keys are passed over, unless the struct denies them, and the key of an option may be missing: as a reader takes it
  loose : Taking
  -- there are no other keys, and no key is missing: as a value of the shape is written
  whole : Taking

abbrev pub KeysHold : Taking → UnknownFields → Pairs → Fields → Type 0
KeysHold loose dropped ps fs = Unit {0}
KeysHold take u ps fs = KeysIn ps fs

-- no key need be there for a field of this form
abbrev pub MayMiss : Taking → Form → Type 0
MayMiss whole s = ⊥
MayMiss take s = IsOptional s

abbrev pub Either : Bool → Type 0 → Type 0 → Type 0
Either true A B = A
Either false A B = B

-- a form whose layer is known of what it holds: a leaf, an option or a unit struct
abbrev pub IsOpen : Form → Type 0
IsOpen (leaf l) = Unit {0}
IsOpen (optional s) = Unit {0}
IsOpen (unit_structure name) = Unit {0}
IsOpen s = ⊥

-- ---- one layer of a form, where its parts hold what is given for them

abbrev pub PartsAt : (Form → Tree → Type 0) → Parts → Trees → Type 0
PartsAt H no_parts no_trees = Unit {0}
PartsAt H (part s ps) (tree t ts) = H s t × PartsAt H ps ts
PartsAt H ps ts = ⊥

abbrev pub FieldsAt : Taking → (Form → Tree → Type 0) → Fields → Pairs → Type 0
FieldsAt take H no_fields ps = Unit {0}
FieldsAt take H (field name s fs) ps = HoldsAt (H s) (MayMiss take s) (lookup name ps) × FieldsAt take H fs ps

abbrev pub ContentAt : Taking → (Form → Tree → Type 0) → Content → Tree → Type 0
ContentAt take H (newtype_content s) t = H s t
ContentAt take H (tuple_content ps) (array ts) = PartsAt H ps ts
ContentAt take H (struct_content fs) (document ps) = FieldsAt take H fs ps × KeysHold take dropped ps fs
ContentAt take H c t = ⊥

abbrev pub VariantAt : Taking → (Form → Tree → Type 0) → Variants → Utf8 → Tree → Type 0
VariantAt take H no_variants key t = ⊥
VariantAt take H (variant name c vs) key t = Either (bytes_eq name key) (ContentAt take H c t) (VariantAt take H vs key t)

abbrev pub Layer : Taking → (Form → Tree → Type 0) → Form → Tree → Type 0
Layer take H (leaf l) t = IsSome (views_leaf (leaf_kind l) t)
Layer take H (optional s) null = Unit {0}
Layer take H (optional s) t = H s t
Layer take H (unit_structure name) null = Unit {0}
Layer take H (sequence s) (array ts) = AllTrees (H s) ts
Layer take H (map key s) (document ps) = AllPairs (λ k. IsSome (views_key key k)) (H s) ps
Layer take H (tuple ps) (array ts) = PartsAt H ps ts
Layer take H (tuple_structure name ps) (array ts) = PartsAt H ps ts
Layer take H (structure u name fs) (document ps) = FieldsAt take H fs ps × KeysHold take u ps fs
Layer take H (enumeration vs) (string name) = content_of vs name ≡ Some unit_content
Layer take H (enumeration vs) (document (pair name t no_pairs)) = VariantAt take H vs name t
Layer take H s t = ⊥
