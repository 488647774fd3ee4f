-- What holds everywhere in a form, and in what its references mean, holds everywhere in what it is unrolled to.
use Rattle.std.proofs.Common.{ℕ, Bool, true, false, cond}
use Rattle.std.specs.Str.{bytes_eq}
use Rattle.bson_kinds.specs.Text.{Utf8}
use Rattle.bson_shape.specs.Form.{Form, leaf, optional, lossy, human_readable, by_mode, sequence, newtype, unit_structure, map, tuple, tuple_structure, structure, enumeration, reference, definitions, Fields, no_fields, field, Parts, no_parts, part, Content, unit_content, newtype_content, tuple_content, struct_content, Variants, no_variants, variant}
use Rattle.bson_laws.specs.Every.{Rows, Every, EveryField, EveryDefinition, EveryPart, EveryVariant, EveryContent}
use Rattle.bson_laws.specs.Unrolled.{Meanings, unrolled, unrolled_name, unrolled_fields, unrolled_parts, unrolled_variants, unrolled_content, names_in, max_steps, whole}
use Rattle.bson_laws.proofs.Unrolling.{names_keep}

-- Unrolling keeps what the rows ask: where the parts go from one to another, so do the wholes.
pub record AreKept (rows : Rows) : Type 1 where
  pub in_form : {A B : Type 0} (m : ℕ) (s : Form) (g : Meanings) → (A → B) → rows.of_form s A → rows.of_form (unrolled m s g) B
  pub in_map : {A B C D : Type 0} (m : ℕ) (key : Form) (g : Meanings) → (A → C) → (B → D) → rows.of_map key A B → rows.of_map (unrolled m key g) C D
  pub in_field : {A B C D : Type 0} (name : Utf8) → (A → C) → (B → D) → rows.of_field name A B → rows.of_field name C D
  pub in_variant : {A B C D : Type 0} (name : Utf8) → (A → C) → (B → D) → rows.of_variant name A B → rows.of_variant name C D
  pub in_content : {A B : Type 0} (m : ℕ) (c : Content) (g : Meanings) → (A → B) → rows.of_content c A → rows.of_content (unrolled_content m c g) B
  -- of fields their forms
  pub parts : {A B : Type 0} (name : Utf8) → rows.of_field name A B → A × B
  -- of definitions the forms of the table, and the body
  pub opened : {A B C : Type 0} → (A → B) → rows.of_definitions A B C → B × C
  pub seen : {C : Type 0} → C → rows.of_definitions (Unit {0}) (Unit {0}) C
  -- nothing is asked of a reference that is left
  pub left : (name : Utf8) → rows.of_form (reference name) (Unit {0})

module _ (rows : Rows) (kept : AreKept rows) where
  -- what each reference means is such a form
  abbrev pub AllEvery : Meanings → Type 0
  AllEvery g = (name : Utf8) → Every rows (g name)

  forms_in : (t : Fields) → EveryField rows t → EveryDefinition rows t
  forms_in no_fields p = tt
  forms_in (field name s t) p = let q = kept.parts name p in (q.0, forms_in t q.1)

  module _ (m : ℕ) where
    mutual
      pub every_unrolled : (s : Form) (g : Meanings) → AllEvery g → Every rows s → Every rows (unrolled m s g)
      every_unrolled (leaf l) g h p = p
      every_unrolled (optional s) g h p = kept.in_form m (optional s) g (every_unrolled s g h) p
      every_unrolled (lossy s) g h p = kept.in_form m (lossy s) g (every_unrolled s g h) p
      every_unrolled (human_readable s) g h p = kept.in_form m (human_readable s) g (every_unrolled s g h) p
      every_unrolled (by_mode r c) g h p = kept.in_form m (by_mode r c) g (λ q. (every_unrolled r g h q.0, every_unrolled c g h q.1)) p
      every_unrolled (sequence s) g h p = kept.in_form m (sequence s) g (every_unrolled s g h) p
      every_unrolled (map key s) g h p = kept.in_map m key g (every_unrolled key g h) (every_unrolled s g h) p
      every_unrolled (tuple ps) g h p = kept.in_form m (tuple ps) g (in_parts ps g h) p
      every_unrolled (tuple_structure name ps) g h p = kept.in_form m (tuple_structure name ps) g (in_parts ps g h) p
      every_unrolled (newtype name s) g h p = kept.in_form m (newtype name s) g (every_unrolled s g h) p
      every_unrolled (unit_structure name) g h p = p
      every_unrolled (structure u name fs) g h p = kept.in_form m (structure u name fs) g (in_fields fs g h) p
      every_unrolled (enumeration vs) g h p = kept.in_form m (enumeration vs) g (in_variants vs g h) p
      every_unrolled (reference name) g h p = kept.seen (h name)
      every_unrolled (definitions t s) g h p =
          let q = kept.opened (forms_in t) p in
          kept.seen (every_unrolled s (names_in m t) (names_keep m AllEvery t kept.left (λ k a name. in_name t k a q.0 name)) q.1)

      in_name : (t : Fields) (g : Meanings) → AllEvery g → EveryDefinition rows t → (key : Utf8) → Every rows (unrolled_name m t g key)
      in_name no_fields g h p key = kept.left key
      in_name (field name s t) g h p key = by_case (bytes_eq name key) (every_unrolled s g h p.0) (in_name t g h p.1 key) where
        by_case : (b : Bool) → Every rows (unrolled m s g) → Every rows (unrolled_name m t g key) → Every rows (cond b (unrolled m s g) (unrolled_name m t g key))
        by_case true x y = x
        by_case false x y = y

      in_fields : (fs : Fields) (g : Meanings) → AllEvery g → EveryField rows fs → EveryField rows (unrolled_fields m fs g)
      in_fields no_fields g h p = tt
      in_fields (field name s fs) g h p = kept.in_field name (every_unrolled s g h) (in_fields fs g h) p

      in_parts : (ps : Parts) (g : Meanings) → AllEvery g → EveryPart rows ps → EveryPart rows (unrolled_parts m ps g)
      in_parts no_parts g h p = tt
      in_parts (part s ps) g h p = (every_unrolled s g h p.0, in_parts ps g h p.1)

      in_variants : (vs : Variants) (g : Meanings) → AllEvery g → EveryVariant rows vs → EveryVariant rows (unrolled_variants m vs g)
      in_variants no_variants g h p = tt
      in_variants (variant name c vs) g h p = kept.in_variant name (in_content c g h) (in_variants vs g h) p

      in_content : (c : Content) (g : Meanings) → AllEvery g → EveryContent rows c → EveryContent rows (unrolled_content m c g)
      in_content unit_content g h p = tt
      in_content (newtype_content s) g h p = kept.in_content m (newtype_content s) g (every_unrolled s g h) p
      in_content (tuple_content ps) g h p = kept.in_content m (tuple_content ps) g (in_parts ps g h) p
      in_content (struct_content fs) g h p = kept.in_content m (struct_content fs) g (in_fields fs g h) p

  pub every_whole : (s : Form) → Every rows s → Every rows (whole s)
  every_whole s p = every_unrolled max_steps s (names_in max_steps no_fields) (names_keep max_steps AllEvery no_fields kept.left (λ k q name. kept.left name)) p
