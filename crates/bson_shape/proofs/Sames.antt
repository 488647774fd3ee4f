-- Two lists of fields, of parts or of variants, compared one by one.
use Rattle.std.proofs.Common.{◌≡◌, ℕ, Bool, false, List, [], ◌∷◌, length, drop, refl, arith}
use Rattle.std.proofs.lemmas.Bool.{and_right}
use Rattle.bson_shape.specs.Same.{same_fields, same_parts, same_variants}
use Rattle.bson_shape.specs.ShapeView.{fields_of, parts_of, variants_of}
use Rattle.bson_shape.specs.declared.shape.FieldShape.{FieldShape}
use Rattle.bson_shape.specs.declared.shape.VariantShape.{VariantShape}
use Rattle.bson_shape.specs.Form.{Form}

-- the fields that a loop has left to compare
abbrev pub same_from : ℕ → List FieldShape → List FieldShape → Bool
same_from i fs gs = same_fields (fields_of (drop i fs)) (fields_of (drop i gs))

pub same_fields-lengths : (fs gs : List FieldShape) → (length fs ≡ length gs → ⊥) → same_fields (fields_of fs) (fields_of gs) ≡ false
same_fields-lengths [] [] h = absurd (h refl)
same_fields-lengths [] (g ∷ gs) h = refl
same_fields-lengths (f ∷ fs) [] h = refl
same_fields-lengths (f ∷ fs) (g ∷ gs) h = and_right _ _ (and_right _ _ (same_fields-lengths fs gs (λ e. h (omega arith))))

abbrev pub same_parts_from : ℕ → List Form → List Form → Bool
same_parts_from i fs gs = same_parts (parts_of (drop i fs)) (parts_of (drop i gs))

pub same_parts-lengths : (fs gs : List Form) → (length fs ≡ length gs → ⊥) → same_parts (parts_of fs) (parts_of gs) ≡ false
same_parts-lengths [] [] h = absurd (h refl)
same_parts-lengths [] (g ∷ gs) h = refl
same_parts-lengths (f ∷ fs) [] h = refl
same_parts-lengths (f ∷ fs) (g ∷ gs) h = and_right _ _ (same_parts-lengths fs gs (λ e. h (omega arith)))

abbrev pub same_variants_from : ℕ → List VariantShape → List VariantShape → Bool
same_variants_from i vs ws = same_variants (variants_of (drop i vs)) (variants_of (drop i ws))

pub same_variants-lengths : (vs ws : List VariantShape) → (length vs ≡ length ws → ⊥) → same_variants (variants_of vs) (variants_of ws) ≡ false
same_variants-lengths [] [] h = absurd (h refl)
same_variants-lengths [] (w ∷ ws) h = refl
same_variants-lengths (v ∷ vs) [] h = refl
same_variants-lengths (v ∷ vs) (w ∷ ws) h = and_right _ _ (and_right _ _ (same_variants-lengths vs ws (λ e. h (omega arith))))
