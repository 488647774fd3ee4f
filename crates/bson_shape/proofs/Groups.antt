-- A list without items.
use Rattle.std.proofs.Common.{◌≡◌, eqb, List, [], ◌∷◌, length, refl, arith}
use Rattle.std.proofs.lemmas.Bool.Decides.{nat_tests}
use Rattle.bson_shape.specs.Form.{Form}
use Rattle.bson_shape.specs.ShapeView.{fields_of, parts_of, variants_of}
use Rattle.bson_shape.specs.Machine.{has_no_fields, has_no_parts, has_no_variants}
use Rattle.bson_shape.specs.declared.shape.FieldShape.{FieldShape}
use Rattle.bson_shape.specs.declared.shape.VariantShape.{VariantShape}

pub fields_none : (fs : List FieldShape) → has_no_fields (fields_of fs) ≡ eqb (length fs) 0
fields_none [] = refl
fields_none (f ∷ fs) = grind (arith, nat_tests)

pub parts_none : (ps : List Form) → has_no_parts (parts_of ps) ≡ eqb (length ps) 0
parts_none [] = refl
parts_none (f ∷ ps) = grind (arith, nat_tests)

pub variants_none : (vs : List VariantShape) → has_no_variants (variants_of vs) ≡ eqb (length vs) 0
variants_none [] = refl
variants_none (v ∷ vs) = grind (arith, nat_tests)
