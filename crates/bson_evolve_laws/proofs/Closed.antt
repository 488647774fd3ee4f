-- The relation is closed under the rows, holds of every pair of a relation that is, and has parts of the new shape alone on its new side.
use Rattle.std.proofs.Common.{◌≡◌, ℕ, zero, suc, Bool, true, false, cond, List, [], ◌∷◌, ◌++◌, Option, Some, None, refl, subst}
use Rattle.std.specs.Prelude.{◌&&◌, option_map, option_and_then}
use Rattle.std.specs.Str.{bytes_eq}
use Rattle.bson_kinds.specs.Text.{Utf8}
use Rattle.bson_kinds.proofs.Outcomes.{some_is}
use Rattle.bson_shape.specs.Form.{dropped, denied, Form, leaf, optional, sequence, unit_structure, map, tuple, tuple_structure, structure, enumeration, Fields, no_fields, field, Parts, no_parts, part, Content, unit_content, newtype_content, tuple_content, struct_content, Variants, no_variants, variant}
use Rattle.bson_shape.specs.Makers.{IsShape, AreShapes, AreParts, AreVariants, IsContent}
use Rattle.bson_shape.specs.declared.leaf.Leaf.{Leaf}
use Rattle.bson_shape.specs.declared.leaf.Leaf.TheVariants.{Any, Bson}
use Rattle.bson_values.specs.Refusal.{Path, at_key, at_index}
use Rattle.bson_laws.specs.Leaves.{LeafKind, anything, texts, units, trees, documents, extended_values, leaf_kind}
use Rattle.bson_laws.specs.Plain.{IsPlainIn, AreFieldsPlainIn, ArePartsPlainIn, AreVariantsPlainIn, IsContentPlainIn}
use Rattle.bson_laws.specs.Variants.{content_of}
use Rattle.bson_evolve_laws.specs.Compatible.{Meets, Met, RowMeets, PassesTo, ArePassing}
use Rattle.bson_laws.specs.Named.{form_of}
use Rattle.bson_evolve_laws.specs.Placed.{Placed, placed, peel}
use Rattle.bson_evolve_laws.specs.Rows.{Step, step, Answer, passes_if, and_also, field_row, struct_row, are_known, parts_row, each_part, each_field, each_value, is_documents, keys_pass, names_pass, content_row, enum_row, each_in_content, each_content, to_any, is_units, to_unit, to_texts, to_document, to_leaf, to_optional, to_sequence, to_tuple, to_map, to_struct, to_closed, to_enum, row}
use Rattle.bson_evolve_laws.proofs.Peels.{IsAround, IsPart}
use Rattle.bson_kinds.proofs.Apart.{no_some}

-- ---- relations

meets_map : (P Q : Form → Form → Type 0) → ((x y : Form) → P x y → Q x y) → (ss : List Step) → Meets P ss → Meets Q ss
meets_map P Q f [] m = tt
meets_map P Q f (s ∷ ss) m = (f s.old s.new m.0, meets_map P Q f ss m.1)

pub met_map : (P Q : Form → Form → Type 0) → ((x y : Form) → P x y → Q x y) → (o : Answer) → Met P o → Met Q o
met_map P Q f None m = absurd m
met_map P Q f (Some ss) m = meets_map P Q f ss m

all_meet : (P : ℕ → Form → Form → Type 0) (ss : List Step) → ((n : ℕ) → Meets (P n) ss) → Meets (λ x y. (n : ℕ) → P n x y) ss
all_meet P [] h = tt
all_meet P (s ∷ ss) h = (λ n. (h n).0, all_meet P ss (λ n. (h n).1))

all_met : (P : ℕ → Form → Form → Type 0) (o : Answer) → ((n : ℕ) → Met (P n) o) → Met (λ x y. (n : ℕ) → P n x y) o
all_met P None h = h 0
all_met P (Some ss) h = all_meet P ss h

-- the relation is closed under the rows
pub passing_closed : (a b : Placed) → ArePassing a b → RowMeets ArePassing (peel a) (peel b)
passing_closed a b h =
    all_met (λ n x y. PassesTo n (placed (peel a).around x) (placed (peel b).around y)) (row (peel a).form (peel b).form) (λ n. h (suc n))

-- a relation each pair of which passes by a row whose pairs are of the relation
abbrev pub IsClosed : (Placed → Placed → Type 0) → Type 0
IsClosed R = (a b : Placed) → R a b → RowMeets R (peel a) (peel b)

-- the pairs of such a relation pass
pub closed_passing : (R : Placed → Placed → Type 0) → IsClosed R → (a b : Placed) → R a b → ArePassing a b
closed_passing R closed a b r zero = tt
closed_passing R closed a b r (suc n) =
    met_map (λ x y. R (placed (peel a).around x) (placed (peel b).around y)) (λ x y. PassesTo n (placed (peel a).around x) (placed (peel b).around y))
    (λ x y s. closed_passing R closed (placed (peel a).around x) (placed (peel b).around y) s n) (row (peel a).form (peel b).form) (closed a b r)

-- ---- the new side

found_content : (vs : Variants) (name : Utf8) (c : Content) → AreVariants vs → content_of vs name ≡ Some c → IsContent c
found_content no_variants name c a e = absurd (no_some e)
found_content (variant n d vs) name c a e = by_case (bytes_eq n name) e (λ i. found_content vs name c a.2 i) where
  by_case : (b : Bool) → cond b (Some d) (content_of vs name) ≡ Some c → (content_of vs name ≡ Some c → IsContent c) → IsContent c
  by_case true i others = subst IsContent (some_is d c i) a.1
  by_case false i others = others i

found_plain : (g : Fields) (vs : Variants) (name : Utf8) (c : Content) → AreVariantsPlainIn g vs → content_of vs name ≡ Some c → IsContentPlainIn g c
found_plain g no_variants name c a e = absurd (no_some e)
found_plain g (variant n d vs) name c a e = by_case (bytes_eq n name) e (λ i. found_plain g vs name c a.2 i) where
  by_case : (b : Bool) → cond b (Some d) (content_of vs name) ≡ Some c → (content_of vs name ≡ Some c → IsContentPlainIn g c) → IsContentPlainIn g c
  by_case true i others = subst (IsContentPlainIn g) (some_is d c i) a.1
  by_case false i others = others i

-- a relation of pairs, and definitions around new forms
module _ (P : Form → Form → Type 0) (g : Fields) (around : IsAround g) where
  -- the new form of the pair is a part, too
  abbrev Both : Form → Form → Type 0
  Both x y = P x y × IsPart g y

  piece : (s : Form) → IsShape s → IsPlainIn g s → IsPart g s
  piece s shape plain = record { around = around; shape = shape; plain = plain }

  if_both : (b : Bool) → Met P (passes_if b) → Met Both (passes_if b)
  if_both true m = tt
  if_both false m = absurd m

  when_both : (b : Bool) (o : Answer) → (Met P o → Met Both o) → Met P (cond b o None) → Met Both (cond b o None)
  when_both true o f m = f m
  when_both false o f m = absurd m

  else_both : (b : Bool) (o : Answer) → (Met P o → Met Both o) → Met P (cond b (Some []) o) → Met Both (cond b (Some []) o)
  else_both true o f m = tt
  else_both false o f m = f m

  -- ---- one new form

  each_part_both : (path : Path) (i : ℕ) (ps : Parts) (y : Form) → IsPart g y → Meets P (each_part path i ps y) → Meets Both (each_part path i ps y)
  each_part_both path i no_parts y p m = tt
  each_part_both path i (part x ps) y p m = ((m.0, p), each_part_both path (suc i) ps y p m.1)

  each_field_both : (path : Path) (fs : Fields) (y : Form) → IsPart g y → Meets P (each_field path fs y) → Meets Both (each_field path fs y)
  each_field_both path no_fields y p m = tt
  each_field_both path (field n x fs) y p m = ((m.0, p), each_field_both path fs y p m.1)

  first_steps : (xs rest : List Step) → Meets P (xs ++ rest) → Meets P xs
  first_steps [] rest m = tt
  first_steps (x ∷ xs) rest m = (m.0, first_steps xs rest m.1)

  other_steps : (xs rest : List Step) → Meets P (xs ++ rest) → Meets P rest
  other_steps [] rest m = m
  other_steps (x ∷ xs) rest m = other_steps xs rest m.1

  all_steps : (xs rest : List Step) → Meets Both xs → Meets Both rest → Meets Both (xs ++ rest)
  all_steps [] rest a b = b
  all_steps (x ∷ xs) rest a b = (a.0, all_steps xs rest a.1 b)

  in_content_both : (n : Utf8) (c : Content) (y : Form) → IsPart g y → Meets P (each_in_content n c y) → Meets Both (each_in_content n c y)
  in_content_both n unit_content y p m = tt
  in_content_both n (newtype_content x) y p m = ((m.0, p), tt)
  in_content_both n (tuple_content ps) y p m = each_part_both (at_key n ∷ []) 0 ps y p m
  in_content_both n (struct_content fs) y p m = each_field_both (at_key n ∷ []) fs y p m

  contents_both : (vs : Variants) (y : Form) → IsPart g y → Meets P (each_content vs y) → Meets Both (each_content vs y)
  contents_both no_variants y p m = tt
  contents_both (variant n c vs) y p m =
      all_steps (each_in_content n c y) (each_content vs y) (in_content_both n c y p (first_steps (each_in_content n c y) (each_content vs y) m))
      (contents_both vs y p (other_steps (each_in_content n c y) (each_content vs y) m))

  -- ---- the parts of the new form

  field_both : (path : Path) (n : Utf8) (o : Option Form) (y : Form) → IsPart g y → (rest : List Step) → (Meets P rest → Meets Both rest) → Met P (field_row path n o y rest) → Met Both (field_row path n o y rest)
  field_both path n (Some x) y p rest f m = ((m.0, p), f m.1)
  field_both path n None (optional y) p rest f m = f m
  field_both path n None y p rest f m = absurd m

  fields_both : (path : Path) (n : Utf8) (o : Option Form) (y : Form) → IsPart g y → (r : Answer) → (Met P r → Met Both r) → Met P (option_and_then (field_row path n o y) r) → Met Both (option_and_then (field_row path n o y) r)
  fields_both path n o y p None f m = absurd m
  fields_both path n o y p (Some rest) f m = field_both path n o y p rest f m

  struct_both : (path : Path) (fs gs : Fields) → AreShapes gs → AreFieldsPlainIn g gs → Met P (struct_row path fs gs) → Met Both (struct_row path fs gs)
  struct_both path fs no_fields shapes plain m = tt
  struct_both path fs (field n y gs) shapes plain m =
      fields_both path n (form_of fs n) y (piece y shapes.1 plain.1) (struct_row path fs gs) (λ k. struct_both path fs gs shapes.2 plain.2 k) m

  item_both : (s : Step) → IsPart g s.new → (r : Answer) → (Met P r → Met Both r) → Met P (option_map (λ rest. s ∷ rest) r) → Met Both (option_map (λ rest. s ∷ rest) r)
  item_both s p None f m = absurd m
  item_both s p (Some rest) f m = ((m.0, p), f m.1)

  parts_both : (path : Path) (i : ℕ) (ps qs : Parts) → AreParts qs → ArePartsPlainIn g qs → Met P (parts_row path i ps qs) → Met Both (parts_row path i ps qs)
  parts_both path i no_parts no_parts shapes plain m = tt
  parts_both path i (part x ps) (part y qs) shapes plain m =
      item_both (step (path ++ (at_index i ∷ [])) x y) (piece y shapes.0 plain.0) (parts_row path (suc i) ps qs) (λ k. parts_both path (suc i) ps qs shapes.1 plain.1 k) m
  parts_both path i no_parts (part y qs) shapes plain m = absurd m
  parts_both path i (part x ps) no_parts shapes plain m = absurd m

  content_both : (n : Utf8) (c : Content) (o : Option Content) → ((d : Content) → o ≡ Some d → IsContent d) → ((d : Content) → o ≡ Some d → IsContentPlainIn g d) → Met P (content_row n c o) → Met Both (content_row n c o)
  content_both n unit_content (Some unit_content) shape plain m = tt
  content_both n (newtype_content x) (Some (newtype_content y)) shape plain m = ((m.0, piece y (shape (newtype_content y) refl) (plain (newtype_content y) refl)), tt)
  content_both n (tuple_content ps) (Some (tuple_content qs)) shape plain m = parts_both (at_key n ∷ []) 0 ps qs (shape (tuple_content qs) refl) (plain (tuple_content qs) refl) m
  content_both n (struct_content fs) (Some (struct_content gs)) shape plain m = struct_both (at_key n ∷ []) fs gs (shape (struct_content gs) refl).1 (plain (struct_content gs) refl) m
  content_both n c o shape plain m = absurd m

  and_both : (o r : Answer) → (Met P o → Met Both o) → (Met P r → Met Both r) → Met P (and_also o r) → Met Both (and_also o r)
  and_both None r f h m = absurd m
  and_both (Some ss) None f h m = absurd m
  and_both (Some ss) (Some rest) f h m = all_steps ss rest (f (first_steps ss rest m)) (h (other_steps ss rest m))

  enum_both : (vs ws : Variants) → AreVariants ws → AreVariantsPlainIn g ws → Met P (enum_row vs ws) → Met Both (enum_row vs ws)
  enum_both no_variants ws shapes plain m = tt
  enum_both (variant n c vs) ws shapes plain m =
      and_both (content_row n c (content_of ws n)) (enum_row vs ws)
      (λ k. content_both n c (content_of ws n) (λ d e. found_content ws n d shapes e) (λ d e. found_plain g ws n d plain e) k) (λ k. enum_both vs ws shapes plain k) m

  -- ---- by the new form

  any_both : (a : Form) → IsPart g (leaf Any) → Met P (to_any a) → Met Both (to_any a)
  any_both (leaf l) p m = if_both _ m
  any_both (optional x) p m = ((m.0, p), tt)
  any_both (unit_structure n) p m = tt
  any_both (sequence x) p m = ((m.0, p), tt)
  any_both (tuple ps) p m = each_part_both [] 0 ps (leaf Any) p m
  any_both (tuple_structure n ps) p m = each_part_both [] 0 ps (leaf Any) p m
  any_both (map k x) p m = ((m.0, p), tt)
  any_both (structure u n fs) p m = each_field_both [] fs (leaf Any) p m
  any_both (enumeration vs) p m = contents_both vs (leaf Any) p m
  any_both a p m = absurd m

  unit_both : (a b : Form) → IsPart g b → Met P (to_unit a b) → Met Both (to_unit a b)
  unit_both (leaf l) b p m = if_both _ m
  unit_both (optional x) b p m = ((m.0, p), tt)
  unit_both (unit_structure n) b p m = tt
  unit_both a b p m = absurd m

  texts_both : (a : Form) → Met P (to_texts a) → Met Both (to_texts a)
  texts_both (leaf l) m = if_both _ m
  texts_both (enumeration vs) m = if_both _ m
  texts_both a m = absurd m

  documents_both : (a : Form) → Met P (to_document a) → Met Both (to_document a)
  documents_both (leaf l) m = if_both _ m
  documents_both (map k x) m = tt
  documents_both (structure u n fs) m = tt
  documents_both (enumeration vs) m = if_both _ m
  documents_both a m = absurd m

  leaf_both : (a : Form) (l : Leaf) (k : LeafKind) → IsPart g (leaf l) → IsPart g (leaf Any) → Met P (to_leaf a (leaf l) k) → Met Both (to_leaf a (leaf l) k)
  leaf_both a l (extended_values trees) p q m = tt
  leaf_both a l (extended_values documents) p q m = documents_both a m
  leaf_both a l anything p q m = any_both a q m
  leaf_both a l units p q m = unit_both a (leaf l) p m
  leaf_both a l texts p q m = texts_both a m
  leaf_both (leaf j) l k p q m = if_both _ m
  leaf_both a l k p q m = absurd m

  optional_both : (a y : Form) → IsPart g (optional y) → IsPart g y → Met P (to_optional a y) → Met Both (to_optional a y)
  optional_both (leaf l) y p q m = else_both (is_units (leaf_kind l)) (Some (step [] (leaf l) y ∷ [])) (λ k. ((k.0, q), tt)) m
  optional_both (optional x) y p q m = ((m.0, p), tt)
  optional_both (unit_structure n) y p q m = tt
  optional_both a y p q m = ((m.0, q), tt)

  sequence_both : (a y : Form) → IsPart g y → Met P (to_sequence a y) → Met Both (to_sequence a y)
  sequence_both (sequence x) y p m = ((m.0, p), tt)
  sequence_both (tuple ps) y p m = each_part_both [] 0 ps y p m
  sequence_both (tuple_structure n ps) y p m = each_part_both [] 0 ps y p m
  sequence_both a y p m = absurd m

  tuple_both : (a : Form) (qs : Parts) → AreParts qs → ArePartsPlainIn g qs → Met P (to_tuple a qs) → Met Both (to_tuple a qs)
  tuple_both (tuple ps) qs shapes plain m = parts_both [] 0 ps qs shapes plain m
  tuple_both (tuple_structure n ps) qs shapes plain m = parts_both [] 0 ps qs shapes plain m
  tuple_both a qs shapes plain m = absurd m

  map_both : (a l y : Form) → IsPart g y → Met P (to_map a l y) → Met Both (to_map a l y)
  map_both (map k x) l y p m = when_both (keys_pass k l) (each_value x y) (λ q. ((q.0, p), tt)) m
  map_both (structure u n fs) l y p m = when_both (names_pass fs l) (Some (each_field [] fs y)) (λ q. each_field_both [] fs y p q) m
  map_both (leaf d) l y p m = when_both (is_documents (leaf_kind d) && keys_pass (leaf d) l) (each_value (leaf Bson) y) (λ q. ((q.0, p), tt)) m
  map_both a l y p m = absurd m

  to_struct_both : (a : Form) (gs : Fields) → AreShapes gs → AreFieldsPlainIn g gs → Met P (to_struct a gs) → Met Both (to_struct a gs)
  to_struct_both (structure u n fs) gs shapes plain m = struct_both [] fs gs shapes plain m
  to_struct_both a gs shapes plain m = absurd m

  to_closed_both : (a : Form) (gs : Fields) → AreShapes gs → AreFieldsPlainIn g gs → Met P (to_closed a gs) → Met Both (to_closed a gs)
  to_closed_both (structure u n fs) gs shapes plain m = when_both (are_known fs gs) (struct_row [] fs gs) (λ q. struct_both [] fs gs shapes plain q) m
  to_closed_both a gs shapes plain m = absurd m

  to_enum_both : (a : Form) (ws : Variants) → AreVariants ws → AreVariantsPlainIn g ws → Met P (to_enum a ws) → Met Both (to_enum a ws)
  to_enum_both (enumeration vs) ws shapes plain m = enum_both vs ws shapes plain m
  to_enum_both a ws shapes plain m = absurd m

  -- where a row of a part meets a relation, its pairs have parts on their new side
  pub row_both : (a b : Form) → IsPart g b → Met P (row a b) → Met Both (row a b)
  row_both a (leaf l) p m = leaf_both a l (leaf_kind l) p (piece (leaf Any) tt tt) m
  row_both a (optional y) p m = optional_both a y p (piece y p.shape.1 p.plain) m
  row_both a (unit_structure n) p m = unit_both a (unit_structure n) p m
  row_both a (sequence y) p m = sequence_both a y (piece y p.shape.1 p.plain) m
  row_both a (tuple qs) p m = tuple_both a qs p.shape.1 p.plain m
  row_both a (tuple_structure n qs) p m = tuple_both a qs p.shape.2 p.plain m
  row_both a (map l y) p m = map_both a l y (piece y p.shape.3 p.plain.2) m
  row_both a (structure dropped n gs) p m = to_struct_both a gs p.shape.1 p.plain.1 m
  row_both a (structure denied n gs) p m = to_closed_both a gs p.shape.1 p.plain.1 m
  row_both a (enumeration ws) p m = to_enum_both a ws p.shape.1 p.plain m
  row_both a b p m = absurd m
