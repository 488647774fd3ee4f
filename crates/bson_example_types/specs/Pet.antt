-- What a `Pet` is written as, read from and contains. Source: serde's data model.
use Rattle.std.specs.Prelude.{◌≡◌, Bool, true, refl, codes}
use Rattle.std.proofs.Common.{ap}
use Rattle.bson.specs.Outcome.{result_map}
use Rattle.bson.specs.Form.{Form, Variants}
use Rattle.bson.specs.Form as form
use Rattle.bson.specs.Value.{Value}
use Rattle.bson.specs.TypeAnswers.{Reading, Writing}
use Rattle.bson.specs.TypeLaws.{Returns, IsNeverNull}
use Rattle.bson.specs.OwnVariants.{written_unit, written_newtype, unit_or, newtype_or, no_variant}
use Rattle.bson.specs.VariantsBack.{unit_variant_returns, newtype_variant_returns, unit_variant_not_null, newtype_variant_not_null}
use Rattle.bson_example_types.specs.Cat.{written_cat, cat_form, CatContents, cat_contents, taken_cat, IsCat, cat_returns}
use Rattle.bson_example_types.specs.declared.pet.Pet.{Pet}
use Rattle.bson_example_types.specs.declared.pet.Pet.TheVariants as cases

-- ---- written

abbrev pub written_pet : Pet → Writing Value
written_pet cases.Stray = written_unit (codes "Stray")
written_pet (cases.Cat x) = written_newtype (codes "Cat") (written_cat x)

-- ---- read

abbrev pub pet_variants : Variants
pet_variants = form.variant (codes "Stray") form.unit_content (form.variant (codes "Cat") (form.newtype_content cat_form) form.no_variants)

abbrev pub pet_form : Form
pet_form = form.enumeration pet_variants

pub data PetContents : Type 0 where
  stray-pet : PetContents
  cat-pet : CatContents → PetContents

abbrev pub pet_contents : Pet → PetContents
pet_contents cases.Stray = stray-pet
pet_contents (cases.Cat x) = cat-pet (cat_contents x)

abbrev pub taken_pet : Value → Reading PetContents
taken_pet = unit_or (codes "Stray") stray-pet (newtype_or (codes "Cat") cat-pet taken_cat no_variant)

-- ---- the laws, by those of the types of the variants

abbrev pub IsPet : Pet → Type 0
IsPet cases.Stray = Unit {0}
IsPet (cases.Cat x) = IsCat x

pub pet_returns : (pet : Pet) → IsPet pet → Returns pet_form (pet_contents pet) taken_pet (written_pet pet)
pet_returns cases.Stray h = unit_variant_returns pet_variants (codes "Stray") stray-pet taken_pet refl refl
pet_returns (cases.Cat x) h =
    newtype_variant_returns pet_variants (codes "Cat") cat_form (cat_contents x) taken_cat (cat-pet (cat_contents x)) taken_pet (written_cat x) refl (λ v e. ap (result_map cat-pet) e) (cat_returns x h)

pub pet_not_null : (pet : Pet) → IsNeverNull (written_pet pet)
pet_not_null cases.Stray = unit_variant_not_null (codes "Stray")
pet_not_null (cases.Cat x) = newtype_variant_not_null (codes "Cat") (written_cat x)

-- Two values are `==` where their contents are equal, if those of each variant are.
pub pet_equal : (E : Pet → Pet → Bool)
    → E cases.Stray cases.Stray ≡ true
    → ((x y : _) → let p : Pet = cases.Cat x in let q : Pet = cases.Cat y in cat_contents x ≡ cat_contents y → E p q ≡ true)
    → (x y : Pet) → pet_contents x ≡ pet_contents y → E x y ≡ true
pet_equal E law-Stray law-Cat cases.Stray cases.Stray e = law-Stray
pet_equal E law-Stray law-Cat (cases.Cat x) (cases.Cat y) e = law-Cat x y cc
pet_equal E law-Stray law-Cat x y e = absurd cc
