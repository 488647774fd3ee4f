-- The rows of compatibility: which pair of an old and a new form passes, and which pairs of their parts must pass then. The forms are seen through (`Placed`); the
-- numbers are those of the table in docs/DEFINITIONS.md. Source: this library's own comparison of shapes, over serde's data model.
use Rattle.std.specs.Prelude.{ℕ, suc, Bool, true, false, ◌&&◌, int_le, if◌then◌else◌, List, [], ◌∷◌, ◌++◌, Option, Some, None, option_map, option_and_then, codes, nat_eq}
use Rattle.bson_kinds.specs.Kind.{byte}
use Rattle.bson_kinds.specs.Text.{Utf8}
use Rattle.bson_kinds.specs.declared.element_type.ElementType.TheVariants as kinds
use Rattle.bson_shape.specs.Form.{dropped, denied, Form, leaf, optional, sequence, unit_structure, map, tuple, tuple_structure, structure, enumeration, Fields, no_fields, field, Parts, no_parts, part, Content, unit_content, newtype_content, tuple_content, struct_content, Variants, no_variants, variant}
use Rattle.bson_shape.specs.Makers.{are_units}
use Rattle.bson_shape.specs.declared.leaf.Leaf.TheVariants.{Any, Bson}
use Rattle.bson_values.specs.Value.{IntegerType, u64, i64, least, greatest}
use Rattle.bson_values.specs.Refusal.{Path, at_key, at_index}
use Rattle.bson_laws.specs.Leaves.{LeafKind, anything, ignored, booleans, numbers, doubles, characters, texts, byte_strings, byte_buffers, units, ExtendedLeaf, object_ids, uuids, of_kind, trees, documents, extended_values, raw_documents, raw_arrays, raw_values, leaf_kind}
use Rattle.bson_laws.specs.Variants.{content_of}
use Rattle.bson_laws.specs.Named.{form_of, has}

-- a pair of parts, and the path to it
pub record Step : Type 0 where
  pub path : Path
  pub old : Form
  pub new : Form

abbrev pub step : Path → Form → Form → Step
step path x y = record { path = path; old = x; new = y }

-- the pairs that must pass, where the row passes
abbrev pub Answer : Type 0
Answer = Option (List Step)

abbrev pub passes : Answer
passes = Some []

abbrev pub fails : Answer
fails = None

abbrev pub passes_if : Bool → Answer
passes_if b = if b then passes else fails

-- the pair of these two alone, at the same path
abbrev pub needs : Form → Form → Answer
needs x y = Some (step [] x y ∷ [])

-- the pairs of the first answer and then those of the second, where both pass
abbrev pub and_also : Answer → Answer → Answer
and_also o p = option_and_then (λ ss. option_map (λ rest. ss ++ rest) p) o

-- ---- leaves

-- the type by whose greatest number a type counts: a document holds no number of `u64` above the greatest of `i64`
abbrev pub top : IntegerType → IntegerType
top u64 = i64
top type = type

-- each number of the first type, as far as a document holds it, is one of the second: row 5
abbrev pub lies_in : IntegerType → IntegerType → Bool
lies_in t u = int_le (least u) (least t) && int_le (greatest (top t)) (greatest (top u))

-- what is read at the leaf is read at `any` too: rows 3 and 6
abbrev pub is_free : LeafKind → Bool
is_free ignored = false
is_free (extended_values k) = false
is_free raw_documents = false
is_free raw_arrays = false
is_free raw_values = false
is_free k = true

-- each value of the first extended leaf is one of the second: rows 1, 11, 12 and 22. `to_leaf` takes `trees` before.
abbrev pub extended_in : ExtendedLeaf → ExtendedLeaf → Bool
extended_in k trees = true
extended_in object_ids object_ids = true
extended_in uuids uuids = true
extended_in uuids (of_kind kinds.Binary) = true
extended_in (of_kind k) (of_kind l) = nat_eq (byte k) (byte l)
extended_in documents documents = true
extended_in k l = false

-- Each value of the first leaf is one of the second: rows 1, 3 and 5 to 12. `to_leaf` does not ask it of `trees`, `anything` and the units, whose rows are here so that it is whole.
abbrev pub leaf_in : LeafKind → LeafKind → Bool
leaf_in (extended_values k) (extended_values l) = extended_in k l
leaf_in k (extended_values trees) = true
leaf_in byte_strings (extended_values (of_kind kinds.Binary)) = true
leaf_in byte_buffers (extended_values (of_kind kinds.Binary)) = true
leaf_in k anything = is_free k
leaf_in (numbers t) (numbers u) = lies_in t u
leaf_in booleans booleans = true
leaf_in doubles doubles = true
leaf_in characters characters = true
leaf_in characters texts = true
leaf_in texts texts = true
leaf_in byte_strings byte_strings = true
leaf_in byte_strings byte_buffers = true
leaf_in byte_buffers byte_strings = true
leaf_in byte_buffers byte_buffers = true
leaf_in units units = true
leaf_in k l = false

-- ---- parts

-- rows 18 and 19: a field of the new struct with that of its name in the old one; where the old one lacks it, its form has to be an option itself
abbrev pub field_row : Path → Utf8 → Option Form → Form → List Step → Answer
field_row path name (Some x) y rest = Some (step (path ++ (at_key name ∷ [])) x y ∷ rest)
field_row path name None (optional y) rest = Some rest
field_row path name None y rest = None

-- the fields of the new struct, in its order
abbrev pub struct_row : Path → Fields → Fields → Answer
struct_row path fs no_fields = passes
struct_row path fs (field name y gs) = option_and_then (field_row path name (form_of fs name) y) (struct_row path fs gs)

-- each field of the old struct has its name in the new one: row 19
abbrev pub are_known : Fields → Fields → Bool
are_known no_fields gs = true
are_known (field name x fs) gs = has gs name && are_known fs gs

-- item by item, where there are as many: row 14
abbrev pub parts_row : Path → ℕ → Parts → Parts → Answer
parts_row path i no_parts no_parts = passes
parts_row path i (part x ps) (part y qs) = option_map (λ rest. step (path ++ (at_index i ∷ [])) x y ∷ rest) (parts_row path (suc i) ps qs)
parts_row path i ps qs = fails

-- each item, and each field, with one form: rows 15, 16, 20, 21 and 26
abbrev pub each_part : Path → ℕ → Parts → Form → List Step
each_part path i no_parts y = []
each_part path i (part x ps) y = step (path ++ (at_index i ∷ [])) x y ∷ each_part path (suc i) ps y

abbrev pub each_field : Path → Fields → Form → List Step
each_field path no_fields y = []
each_field path (field name x fs) y = step (path ++ (at_key name ∷ [])) x y ∷ each_field path fs y

-- the values of a map, and the items of a sequence
abbrev pub each_value : Form → Form → Answer
each_value x y = Some (step (at_key (codes "*") ∷ []) x y ∷ [])

abbrev pub each_item : Form → Form → Answer
each_item x y = Some (step (at_index 0 ∷ []) x y ∷ [])

-- ---- keys of maps

abbrev pub is_texts : LeafKind → Bool
is_texts texts = true
is_texts k = false

-- there is a variant of the name, and it is a unit variant
abbrev pub is_unit_name : Option Content → Bool
is_unit_name (Some unit_content) = true
is_unit_name o = false

-- each name of the first enum, or of a field, is that of a unit variant of the second
abbrev pub names_in : Variants → Variants → Bool
names_in no_variants ws = true
names_in (variant name c vs) ws = is_unit_name (content_of ws name) && names_in vs ws

abbrev pub fields_in : Fields → Variants → Bool
fields_in no_fields ws = true
fields_in (field name x fs) ws = is_unit_name (content_of ws name) && fields_in fs ws

-- the keys of a map: row 17; and of the `document` of row 23, whose keys are texts
abbrev pub keys_pass : Form → Form → Bool
keys_pass k (leaf l) = is_texts (leaf_kind l)
keys_pass (enumeration vs) (enumeration ws) = names_in vs ws
keys_pass k l = false

-- the names of fields as the keys of a map: row 20
abbrev pub names_pass : Fields → Form → Bool
names_pass fs (leaf l) = is_texts (leaf_kind l)
names_pass fs (enumeration ws) = fields_in fs ws
names_pass fs l = false

-- ---- enums

-- row 24: the contents of an old variant with those of the new variant of its name, which are of the same class
abbrev pub content_row : Utf8 → Content → Option Content → Answer
content_row name unit_content (Some unit_content) = passes
content_row name (newtype_content x) (Some (newtype_content y)) = Some (step (at_key name ∷ []) x y ∷ [])
content_row name (tuple_content ps) (Some (tuple_content qs)) = parts_row (at_key name ∷ []) 0 ps qs
content_row name (struct_content fs) (Some (struct_content gs)) = struct_row (at_key name ∷ []) fs gs
content_row name c o = fails

abbrev pub enum_row : Variants → Variants → Answer
enum_row no_variants ws = passes
enum_row (variant name c vs) ws = and_also (content_row name c (content_of ws name)) (enum_row vs ws)

-- row 26: each part of what a variant holds, with one form
abbrev pub each_in_content : Utf8 → Content → Form → List Step
each_in_content name unit_content y = []
each_in_content name (newtype_content x) y = step (at_key name ∷ []) x y ∷ []
each_in_content name (tuple_content ps) y = each_part (at_key name ∷ []) 0 ps y
each_in_content name (struct_content fs) y = each_field (at_key name ∷ []) fs y

abbrev pub each_content : Variants → Form → List Step
each_content no_variants y = []
each_content (variant name c vs) y = each_in_content name c y ++ each_content vs y

-- the content is not that of a unit variant
abbrev pub is_no_unit : Content → Bool
is_no_unit unit_content = false
is_no_unit c = true

-- no variant is a unit variant
abbrev pub no_units : Variants → Bool
no_units no_variants = true
no_units (variant name c vs) = is_no_unit c && no_units vs

-- ---- the rows, by the new form; the numbers are those of the table

-- `any`: rows 2, 3, 6, 16, 21 and 26
abbrev pub to_any : Form → Answer
to_any (leaf l) = passes_if (is_free (leaf_kind l))
to_any (optional x) = needs x (leaf Any)
to_any (unit_structure name) = passes
to_any (sequence x) = each_item x (leaf Any)
to_any (tuple ps) = Some (each_part [] 0 ps (leaf Any))
to_any (tuple_structure name ps) = Some (each_part [] 0 ps (leaf Any))
to_any (map k x) = each_value x (leaf Any)
to_any (structure u name fs) = Some (each_field [] fs (leaf Any))
to_any (enumeration vs) = Some (each_content vs (leaf Any))
to_any a = fails

abbrev pub is_units : LeafKind → Bool
is_units units = true
is_units k = false

-- `unit` and unit structs: rows 2 and 3
abbrev pub to_unit : Form → Form → Answer
to_unit (leaf l) b = passes_if (is_units (leaf_kind l))
to_unit (optional x) b = needs x b
to_unit (unit_structure name) b = passes
to_unit a b = fails

-- texts: rows 8, 9 and 25
abbrev pub to_texts : Form → Answer
to_texts (leaf l) = passes_if (leaf_in (leaf_kind l) texts)
to_texts (enumeration vs) = passes_if (are_units vs)
to_texts a = fails

-- `document`: row 22
abbrev pub to_document : Form → Answer
to_document (leaf l) = passes_if (leaf_in (leaf_kind l) (extended_values documents))
to_document (map k x) = passes
to_document (structure u name fs) = passes
to_document (enumeration vs) = passes_if (no_units vs)
to_document a = fails

-- rows 1 to 3, 5 to 12, 16, 21, 22, 25 and 26
abbrev pub to_leaf : Form → Form → LeafKind → Answer
to_leaf a b (extended_values trees) = passes
to_leaf a b (extended_values documents) = to_document a
to_leaf a b anything = to_any a
to_leaf a b units = to_unit a b
to_leaf a b texts = to_texts a
to_leaf (leaf l) b k = passes_if (leaf_in (leaf_kind l) k)
to_leaf a b k = fails

-- an option of y: rows 2 to 4
abbrev pub to_optional : Form → Form → Answer
to_optional (leaf l) y = if is_units (leaf_kind l) then passes else needs (leaf l) y
to_optional (optional x) y = needs x (optional y)
to_optional (unit_structure name) y = passes
to_optional a y = needs a y

-- a sequence of y: rows 13 and 15
abbrev pub to_sequence : Form → Form → Answer
to_sequence (sequence x) y = each_item x y
to_sequence (tuple ps) y = Some (each_part [] 0 ps y)
to_sequence (tuple_structure name ps) y = Some (each_part [] 0 ps y)
to_sequence a y = fails

-- a tuple: row 14
abbrev pub to_tuple : Form → Parts → Answer
to_tuple (tuple ps) qs = parts_row [] 0 ps qs
to_tuple (tuple_structure name ps) qs = parts_row [] 0 ps qs
to_tuple a qs = fails

abbrev pub is_documents : LeafKind → Bool
is_documents (extended_values documents) = true
is_documents k = false

-- a map of l, y: rows 17, 20 and 23
abbrev pub to_map : Form → Form → Form → Answer
to_map (map k x) l y = if keys_pass k l then each_value x y else fails
to_map (structure u name fs) l y = if names_pass fs l then Some (each_field [] fs y) else fails
to_map (leaf d) l y = if is_documents (leaf_kind d) && keys_pass (leaf d) l then each_value (leaf Bson) y else fails
to_map a l y = fails

-- a struct: row 18
abbrev pub to_struct : Form → Fields → Answer
to_struct (structure u name fs) gs = struct_row [] fs gs
to_struct a gs = fails

-- a closed struct: row 19
abbrev pub to_closed : Form → Fields → Answer
to_closed (structure u name fs) gs = if are_known fs gs then struct_row [] fs gs else fails
to_closed a gs = fails

-- an enum: row 24
abbrev pub to_enum : Form → Variants → Answer
to_enum (enumeration vs) ws = enum_row vs ws
to_enum a ws = fails

-- The answer for a pair of forms that were seen through, by the first row that names them. An option passes at an option, `any`, `unit`, a unit struct and `bson` alone.
abbrev pub row : Form → Form → Answer
row a (leaf m) = to_leaf a (leaf m) (leaf_kind m)
row a (optional y) = to_optional a y
row a (unit_structure name) = to_unit a (unit_structure name)
row a (sequence y) = to_sequence a y
row a (tuple qs) = to_tuple a qs
row a (tuple_structure name qs) = to_tuple a qs
row a (map l y) = to_map a l y
row a (structure dropped name gs) = to_struct a gs
row a (structure denied name gs) = to_closed a gs
row a (enumeration ws) = to_enum a ws
row a b = fails
