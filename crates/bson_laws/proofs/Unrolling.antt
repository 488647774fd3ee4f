-- What a form keeps that is unrolled: its names, and which variants are units.
use Rattle.std.proofs.Common.{◌≡◌, ℕ, zero, suc, ◌∷◌, refl, ap}
use Rattle.std.specs.Prelude.{◌&&◌}
use Rattle.bson_shape.specs.Form.{Form, enumeration, Fields, no_fields, field, Content, unit_content, Variants, no_variants, variant}
use Rattle.bson_shape.specs.Guarded.{count}
use Rattle.bson_shape.specs.Makers.{field_names, variant_names, is_unit, are_units, is_text_key}
use Rattle.bson_laws.specs.Unrolled.{Meanings, undefined, repeated, unrolled, unrolled_fields, unrolled_variants, unrolled_content, step, names_in}

-- what holds at the start, and after a step if before it, holds in the end
repeated_keeps : {A : Type 0} (P : A → Type 0) (f : A → A) → ((x : A) → P x → P (f x)) → (n : ℕ) (x : A) → P x → P (repeated n f x)
repeated_keeps P f h zero x p = p
repeated_keeps P f h (suc n) x p = h (repeated n f x) (repeated_keeps P f h n x p)

module _ (m : ℕ) where
  -- what holds of references that are left, and after a step if before it, holds of what the names of a table mean
  pub names_keep : (P : Meanings → Type 0) (h : Fields) → P undefined → ((g : Meanings) → P g → P (step m h g)) → P (names_in m h)
  names_keep P h none each = repeated_keeps P (repeated (suc (count h)) (step m h)) (λ g p. repeated_keeps P (step m h) each (suc (count h)) g p) m undefined none

  unit_unrolled : (c : Content) (g : Meanings) → is_unit (unrolled_content m c g) ≡ is_unit c
  unit_unrolled unit_content g = refl
  unit_unrolled c g = refl

  pub units_unrolled : (vs : Variants) (g : Meanings) → are_units (unrolled_variants m vs g) ≡ are_units vs
  units_unrolled no_variants g = refl
  units_unrolled (variant name c vs) g = λ i. unit_unrolled c g i && units_unrolled vs g i

  pub key_unrolled : (key : Form) (g : Meanings) → is_text_key (unrolled m key g) ≡ is_text_key key
  key_unrolled (enumeration vs) g = units_unrolled vs g
  key_unrolled key g = refl

  pub fields_named : (fs : Fields) (g : Meanings) → field_names (unrolled_fields m fs g) ≡ field_names fs
  fields_named no_fields g = refl
  fields_named (field name s fs) g = ap (λ names. name ∷ names) (fields_named fs g)

  pub variants_named : (vs : Variants) (g : Meanings) → variant_names (unrolled_variants m vs g) ≡ variant_names vs
  variants_named no_variants g = refl
  variants_named (variant name c vs) g = ap (λ names. name ∷ names) (variants_named vs g)
