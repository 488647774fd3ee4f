-- The pairs that are reached are parts of the two shapes, of which there are finitely many.
use Rattle.std.proofs.Common.{◌≡◌, true, [], ◌∷◌, Option, Some, None, refl}
use Rattle.bson_kinds.specs.Text.{Utf8}
use Rattle.bson_shape.specs.Form.{Form, leaf, structure, enumeration, Fields, no_fields, field, Content, struct_content, Variants, no_variants, variant}
use Rattle.bson_shape.specs.Makers.{IsShape}
use Rattle.bson_shape.specs.declared.leaf.Leaf.TheVariants.{Bson}
use Rattle.bson_values.specs.Refusal.{Path, at_key}
use Rattle.bson_laws.specs.Named.{form_of}
use Rattle.bson_laws.specs.Variants.{content_of}
use Rattle.bson_evolve_laws.specs.Compatible.{Meets}
use Rattle.bson_evolve_laws.specs.First.{is_met, PendingPair}
use Rattle.bson_evolve_laws.specs.Places.{all_places}
use Rattle.bson_evolve_laws.specs.Rows.{Answer, content_row, row}
use Rattle.bson_evolve_laws.proofs.Compatible.{whole_part}
use Rattle.bson_evolve_laws.proofs.Searched.{met_in}
use Rattle.bson_evolve_laws.proofs.StepParts.{all_steps, content_named, found_content, found_field, row_named, ContentAll, FieldsAll, InnerAll, Named, VariantsAll}
use Rattle.bson_evolve_laws.proofs.Universe.{answers_closed, places_of}
use Rattle.bson_evolve_check.specs.Checks.{ArePlain}
use Rattle.bson_evolve_check.specs.Searching.{AreAmong}
use Rattle.bson_evolve_check.proofs.Few.{all_pairs, steps_among}
use Rattle.bson_evolve_differences.specs.Mismatch.{common, common_field, common_fields, content_steps, steps_of, variant_steps}
use Rattle.bson_evolve_differences.specs.Differences.{reached, steps, steps_by}

module _ (P Q : Form → Type 0) where
  abbrev Sides : Form → Form → Type 0
  Sides x y = P x × Q y

  abbrev Has : (Form → Type 0) → Option Form → Type 0
  Has R None = Unit {0}
  Has R (Some x) = R x

  abbrev HasContent : (Form → Type 0) → Option Content → Type 0
  HasContent R None = Unit {0}
  HasContent R (Some c) = ContentAll R c

  field_common : (path : Path) (n : Utf8) (o : Option Form) (y : Form) → Has P o → Q y → Meets Sides (common_field path n o y)
  field_common path n None y p q = tt
  field_common path n (Some x) y p q = ((p, q), tt)

  fields_common : (path : Path) (fs gs : Fields) → FieldsAll P fs → FieldsAll Q gs → Meets Sides (common_fields path fs gs)
  fields_common path fs no_fields p q = tt
  fields_common path fs (field n y gs) p q =
      all_steps P Q (common_field path n (form_of fs n) y) (common_fields path fs gs) (field_common path n (form_of fs n) y (found_field P Q fs n p) q.0) (fields_common path fs gs p q.1)

  answer_steps : (o : Answer) → Named Sides o → Meets Sides (steps_of o)
  answer_steps None m = tt
  answer_steps (Some ss) m = m

  content_common : (n : Utf8) (c : Content) (o : Option Content) → ContentAll P c → HasContent Q o → Meets Sides (content_steps n c o)
  content_common n (struct_content fs) (Some (struct_content gs)) p q = fields_common (at_key n ∷ []) fs gs p q
  content_common n c o p q = answer_steps (content_row n c o) (content_named P Q n c o p q)

  variants_common : (vs ws : Variants) → VariantsAll P vs → VariantsAll Q ws → Meets Sides (variant_steps vs ws)
  variants_common no_variants ws p q = tt
  variants_common (variant n c vs) ws p q =
      all_steps P Q (content_steps n c (content_of ws n)) (variant_steps vs ws) (content_common n c (content_of ws n) p.0 (found_content P Q ws n q)) (variants_common vs ws p.1 q)

  parts_common : (a b : Form) → InnerAll P a → InnerAll Q b → Meets Sides (common a b)
  parts_common (structure u name fs) (structure v other gs) p q = fields_common [] fs gs p q
  parts_common (enumeration vs) (enumeration ws) p q = variants_common vs ws p q
  parts_common a b p q = tt

  steps_named : (a b : Form) → P a → InnerAll P a → P (leaf Bson) → Q b → InnerAll Q b → Meets Sides (steps a b)
  steps_named a b p i c q j = by_row (row a b) (row_named P Q a b p i c q j) where
    by_row : (o : Answer) → Named Sides o → Meets Sides (steps_by a b o)
    by_row (Some ss) m = m
    by_row None m = parts_common a b i j

-- the pairs that are reached from one of them are among them
pub reached_among : (old new : Form) → IsShape old → IsShape new → ArePlain old new → (d : PendingPair) → is_met (all_pairs old new) d.pair ≡ true → AreAmong (all_pairs old new) (reached d)
reached_among old new p q plain d here =
    let u = places_of old (whole_part old p plain.old_plain) in
    let v = places_of new (whole_part new q plain.new_plain) in
    let ss = steps d.pair.old.form d.pair.new.form in
    steps_among (all_pairs old new) d ss (answers_closed (all_places old) (all_places new) u v (λ a b. Some (steps a b)) (λ P Q. steps_named P Q) d.pair (met_in (all_pairs old new) d.pair here) ss refl)
