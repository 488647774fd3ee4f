-- The pairs that a row names: each has a part of the old form, or it itself, or `bson`, on its old side, and a part of the new form, or it itself, on its new side.
use Rattle.std.proofs.Common.{◌≡◌, ℕ, suc, Bool, true, false, cond, List, [], ◌∷◌, ◌++◌, Option, Some, None, refl, subst}
use Rattle.std.specs.Prelude.{◌&&◌, option_map, option_and_then}
use Rattle.std.specs.Str.{bytes_eq}
use Rattle.bson_kinds.specs.Text.{Utf8}
use Rattle.bson_shape.specs.Form.{dropped, denied, Form, leaf, optional, lossy, sequence, newtype, unit_structure, map, tuple, tuple_structure, structure, enumeration, Fields, no_fields, field, Parts, no_parts, part, Content, unit_content, newtype_content, tuple_content, struct_content, Variants, no_variants, variant}
use Rattle.bson_shape.specs.declared.leaf.Leaf.{Leaf}
use Rattle.bson_shape.specs.declared.leaf.Leaf.TheVariants.{Any, Bson}
use Rattle.bson_values.specs.Refusal.{Path, at_key, at_index}
use Rattle.bson_laws.specs.Leaves.{LeafKind, anything, texts, units, trees, documents, extended_values, leaf_kind}
use Rattle.bson_laws.specs.Variants.{content_of}
use Rattle.bson_evolve_laws.specs.Compatible.{Meets}
use Rattle.bson_laws.specs.Named.{form_of}
use Rattle.bson_evolve_laws.specs.Rows.{Step, step, Answer, passes_if, and_also, field_row, struct_row, are_known, parts_row, each_part, each_field, each_value, is_documents, keys_pass, names_pass, content_row, enum_row, each_in_content, each_content, to_any, is_units, to_unit, to_texts, to_document, to_leaf, to_optional, to_sequence, to_tuple, to_map, to_struct, to_closed, to_enum, row}

-- ---- the parts of a form

abbrev pub PartsAll : (Form → Type 0) → Parts → Type 0
PartsAll P no_parts = Unit {0}
PartsAll P (part s ps) = P s × PartsAll P ps

abbrev pub FieldsAll : (Form → Type 0) → Fields → Type 0
FieldsAll P no_fields = Unit {0}
FieldsAll P (field name s fs) = P s × FieldsAll P fs

abbrev pub ContentAll : (Form → Type 0) → Content → Type 0
ContentAll P unit_content = Unit {0}
ContentAll P (newtype_content s) = P s
ContentAll P (tuple_content ps) = PartsAll P ps
ContentAll P (struct_content fs) = FieldsAll P fs

abbrev pub VariantsAll : (Form → Type 0) → Variants → Type 0
VariantsAll P no_variants = Unit {0}
VariantsAll P (variant name c vs) = ContentAll P c × VariantsAll P vs

-- it holds of each part of the form, but for the keys of maps
abbrev pub InnerAll : (Form → Type 0) → Form → Type 0
InnerAll P (optional s) = P s
InnerAll P (lossy s) = P s
InnerAll P (newtype name s) = P s
InnerAll P (sequence s) = P s
InnerAll P (map k s) = P s
InnerAll P (tuple ps) = PartsAll P ps
InnerAll P (tuple_structure name ps) = PartsAll P ps
InnerAll P (structure u name fs) = FieldsAll P fs
InnerAll P (enumeration vs) = VariantsAll P vs
InnerAll P s = Unit {0}

-- the relation holds of each pair that the row names, where it passes
abbrev pub Named : (Form → Form → Type 0) → Answer → Type 0
Named R None = Unit {0}
Named R (Some ss) = Meets R ss

any_is : (l : Leaf) → leaf_kind l ≡ anything → l ≡ Any
any_is Any e = refl
any_is l e = absurd cc

module _ (P Q : Form → Type 0) where
  abbrev Sides : Form → Form → Type 0
  Sides x y = P x × Q y

  if_named : (b : Bool) → Named Sides (passes_if b)
  if_named true = tt
  if_named false = tt

  when_named : (b : Bool) (o : Answer) → Named Sides o → Named Sides (cond b o None)
  when_named true o n = n
  when_named false o n = tt

  else_named : (b : Bool) (o : Answer) → Named Sides o → Named Sides (cond b (Some []) o)
  else_named true o n = tt
  else_named false o n = n

  pub all_steps : (xs rest : List Step) → Meets Sides xs → Meets Sides rest → Meets Sides (xs ++ rest)
  all_steps [] rest a b = b
  all_steps (x ∷ xs) rest a b = (a.0, all_steps xs rest a.1 b)

  -- ---- one new form

  each_part_named : (path : Path) (i : ℕ) (ps : Parts) (y : Form) → PartsAll P ps → Q y → Meets Sides (each_part path i ps y)
  each_part_named path i no_parts y p q = tt
  each_part_named path i (part x ps) y p q = ((p.0, q), each_part_named path (suc i) ps y p.1 q)

  each_field_named : (path : Path) (fs : Fields) (y : Form) → FieldsAll P fs → Q y → Meets Sides (each_field path fs y)
  each_field_named path no_fields y p q = tt
  each_field_named path (field name x fs) y p q = ((p.0, q), each_field_named path fs y p.1 q)

  in_content_named : (n : Utf8) (c : Content) (y : Form) → ContentAll P c → Q y → Meets Sides (each_in_content n c y)
  in_content_named n unit_content y p q = tt
  in_content_named n (newtype_content x) y p q = ((p, q), tt)
  in_content_named n (tuple_content ps) y p q = each_part_named (at_key n ∷ []) 0 ps y p q
  in_content_named n (struct_content fs) y p q = each_field_named (at_key n ∷ []) fs y p q

  contents_named : (vs : Variants) (y : Form) → VariantsAll P vs → Q y → Meets Sides (each_content vs y)
  contents_named no_variants y p q = tt
  contents_named (variant n c vs) y p q = all_steps (each_in_content n c y) (each_content vs y) (in_content_named n c y p.0 q) (contents_named vs y p.1 q)

  -- ---- the parts of both forms

  abbrev Found : (Form → Type 0) → Option Form → Type 0
  Found R None = Unit {0}
  Found R (Some x) = R x

  abbrev FoundContent : (Form → Type 0) → Option Content → Type 0
  FoundContent R None = Unit {0}
  FoundContent R (Some c) = ContentAll R c

  pub found_field : (fs : Fields) (n : Utf8) → FieldsAll P fs → Found P (form_of fs n)
  found_field no_fields n p = tt
  found_field (field name x fs) n p = by_case (bytes_eq name n) (found_field fs n p.1) where
    by_case : (b : Bool) → Found P (form_of fs n) → Found P (cond b (Some x) (form_of fs n))
    by_case true f = p.0
    by_case false f = f

  pub found_content : (vs : Variants) (n : Utf8) → VariantsAll Q vs → FoundContent Q (content_of vs n)
  found_content no_variants n q = tt
  found_content (variant name c vs) n q = by_case (bytes_eq name n) (found_content vs n q.1) where
    by_case : (b : Bool) → FoundContent Q (content_of vs n) → FoundContent Q (cond b (Some c) (content_of vs n))
    by_case true f = q.0
    by_case false f = f

  field_named : (path : Path) (n : Utf8) (o : Option Form) (y : Form) (r : Answer) → Found P o → Q y → Named Sides r → Named Sides (option_and_then (field_row path n o y) r)
  field_named path n o y None p q m = tt
  field_named path n (Some x) y (Some rest) p q m = ((p, q), m)
  field_named path n None (optional y) (Some rest) p q m = m
  field_named path n None y (Some rest) p q m = tt

  struct_named : (path : Path) (fs gs : Fields) → FieldsAll P fs → FieldsAll Q gs → Named Sides (struct_row path fs gs)
  struct_named path fs no_fields p q = tt
  struct_named path fs (field n y gs) p q = field_named path n (form_of fs n) y (struct_row path fs gs) (found_field fs n p) q.0 (struct_named path fs gs p q.1)

  item_named : (s : Step) (r : Answer) → Sides s.old s.new → Named Sides r → Named Sides (option_map (λ rest. s ∷ rest) r)
  item_named s None h m = tt
  item_named s (Some rest) h m = (h, m)

  parts_named : (path : Path) (i : ℕ) (ps qs : Parts) → PartsAll P ps → PartsAll Q qs → Named Sides (parts_row path i ps qs)
  parts_named path i no_parts no_parts p q = tt
  parts_named path i (part x ps) (part y qs) p q = item_named (step (path ++ (at_index i ∷ [])) x y) (parts_row path (suc i) ps qs) (p.0, q.0) (parts_named path (suc i) ps qs p.1 q.1)
  parts_named path i no_parts (part y qs) p q = tt
  parts_named path i (part x ps) no_parts p q = tt

  pub content_named : (n : Utf8) (c : Content) (o : Option Content) → ContentAll P c → FoundContent Q o → Named Sides (content_row n c o)
  content_named n unit_content (Some unit_content) p q = tt
  content_named n (newtype_content x) (Some (newtype_content y)) p q = ((p, q), tt)
  content_named n (tuple_content ps) (Some (tuple_content qs)) p q = parts_named (at_key n ∷ []) 0 ps qs p q
  content_named n (struct_content fs) (Some (struct_content gs)) p q = struct_named (at_key n ∷ []) fs gs p q
  content_named n c o p q = tt

  and_named : (o r : Answer) → Named Sides o → Named Sides r → Named Sides (and_also o r)
  and_named None r f h = tt
  and_named (Some ss) None f h = tt
  and_named (Some ss) (Some rest) f h = all_steps ss rest f h

  enum_named : (vs ws : Variants) → VariantsAll P vs → VariantsAll Q ws → Named Sides (enum_row vs ws)
  enum_named no_variants ws p q = tt
  enum_named (variant n c vs) ws p q = and_named (content_row n c (content_of ws n)) (enum_row vs ws) (content_named n c (content_of ws n) p.0 (found_content ws n q)) (enum_named vs ws p.1 q)

  -- ---- by the new form

  any_named : (a : Form) → InnerAll P a → Q (leaf Any) → Named Sides (to_any a)
  any_named (leaf l) p q = if_named _
  any_named (optional x) p q = ((p, q), tt)
  any_named (unit_structure n) p q = tt
  any_named (sequence x) p q = ((p, q), tt)
  any_named (tuple ps) p q = each_part_named [] 0 ps (leaf Any) p q
  any_named (tuple_structure n ps) p q = each_part_named [] 0 ps (leaf Any) p q
  any_named (map k x) p q = ((p, q), tt)
  any_named (structure u n fs) p q = each_field_named [] fs (leaf Any) p q
  any_named (enumeration vs) p q = contents_named vs (leaf Any) p q
  any_named a p q = tt

  unit_named : (a b : Form) → InnerAll P a → Q b → Named Sides (to_unit a b)
  unit_named (leaf l) b p q = if_named _
  unit_named (optional x) b p q = ((p, q), tt)
  unit_named (unit_structure n) b p q = tt
  unit_named a b p q = tt

  texts_named : (a : Form) → Named Sides (to_texts a)
  texts_named (leaf l) = if_named _
  texts_named (enumeration vs) = if_named _
  texts_named a = tt

  documents_named : (a : Form) → Named Sides (to_document a)
  documents_named (leaf l) = if_named _
  documents_named (map k x) = tt
  documents_named (structure u n fs) = tt
  documents_named (enumeration vs) = if_named _
  documents_named a = tt

  leaf_named : (a : Form) (l : Leaf) (k : LeafKind) → leaf_kind l ≡ k → InnerAll P a → Q (leaf l) → Named Sides (to_leaf a (leaf l) k)
  leaf_named a l (extended_values trees) is p q = tt
  leaf_named a l (extended_values documents) is p q = documents_named a
  leaf_named a l anything is p q = any_named a p (subst (λ m. Q (leaf m)) (any_is l is) q)
  leaf_named a l units is p q = unit_named a (leaf l) p q
  leaf_named a l texts is p q = texts_named a
  leaf_named (leaf j) l k is p q = if_named _
  leaf_named a l k is p q = tt

  optional_named : (a y : Form) → P a → InnerAll P a → Q (optional y) → Q y → Named Sides (to_optional a y)
  optional_named (leaf l) y p i q r = else_named (is_units (leaf_kind l)) (Some (step [] (leaf l) y ∷ [])) ((p, r), tt)
  optional_named (optional x) y p i q r = ((i, q), tt)
  optional_named (unit_structure n) y p i q r = tt
  optional_named a y p i q r = ((p, r), tt)

  sequence_named : (a y : Form) → InnerAll P a → Q y → Named Sides (to_sequence a y)
  sequence_named (sequence x) y p q = ((p, q), tt)
  sequence_named (tuple ps) y p q = each_part_named [] 0 ps y p q
  sequence_named (tuple_structure n ps) y p q = each_part_named [] 0 ps y p q
  sequence_named a y p q = tt

  tuple_named : (a : Form) (qs : Parts) → InnerAll P a → PartsAll Q qs → Named Sides (to_tuple a qs)
  tuple_named (tuple ps) qs p q = parts_named [] 0 ps qs p q
  tuple_named (tuple_structure n ps) qs p q = parts_named [] 0 ps qs p q
  tuple_named a qs p q = tt

  map_named : (a l y : Form) → InnerAll P a → P (leaf Bson) → Q y → Named Sides (to_map a l y)
  map_named (map k x) l y p b q = when_named (keys_pass k l) (each_value x y) ((p, q), tt)
  map_named (structure u n fs) l y p b q = when_named (names_pass fs l) (Some (each_field [] fs y)) (each_field_named [] fs y p q)
  map_named (leaf d) l y p b q = when_named (is_documents (leaf_kind d) && keys_pass (leaf d) l) (each_value (leaf Bson) y) ((b, q), tt)
  map_named a l y p b q = tt

  to_struct_named : (a : Form) (gs : Fields) → InnerAll P a → FieldsAll Q gs → Named Sides (to_struct a gs)
  to_struct_named (structure u n fs) gs p q = struct_named [] fs gs p q
  to_struct_named a gs p q = tt

  to_closed_named : (a : Form) (gs : Fields) → InnerAll P a → FieldsAll Q gs → Named Sides (to_closed a gs)
  to_closed_named (structure u n fs) gs p q = when_named (are_known fs gs) (struct_row [] fs gs) (struct_named [] fs gs p q)
  to_closed_named a gs p q = tt

  to_enum_named : (a : Form) (ws : Variants) → InnerAll P a → VariantsAll Q ws → Named Sides (to_enum a ws)
  to_enum_named (enumeration vs) ws p q = enum_named vs ws p q
  to_enum_named a ws p q = tt

  -- what holds of a form, of its parts and of `bson`, and of another form and its parts, holds of the pairs that their row names
  pub row_named : (a b : Form) → P a → InnerAll P a → P (leaf Bson) → Q b → InnerAll Q b → Named Sides (row a b)
  row_named a (leaf l) p i c q j = leaf_named a l (leaf_kind l) refl i q
  row_named a (optional y) p i c q j = optional_named a y p i q j
  row_named a (unit_structure n) p i c q j = unit_named a (unit_structure n) i q
  row_named a (sequence y) p i c q j = sequence_named a y i j
  row_named a (tuple qs) p i c q j = tuple_named a qs i j
  row_named a (tuple_structure n qs) p i c q j = tuple_named a qs i j
  row_named a (map l y) p i c q j = map_named a l y i c j
  row_named a (structure dropped n gs) p i c q j = to_struct_named a gs i j
  row_named a (structure denied n gs) p i c q j = to_closed_named a gs i j
  row_named a (enumeration ws) p i c q j = to_enum_named a ws i j
  row_named a b p i c q j = tt
