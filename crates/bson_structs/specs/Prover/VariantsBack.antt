-- The laws of the variants of an enum.
use Rattle.std.specs.Prelude.{◌≡◌, Option, Some, None, option_map, Ok, Err}
use Rattle.bson_kinds.specs.Text.{Utf8}
use Rattle.bson_base.specs.Tree.{Tree, null}
use Rattle.bson_shape.specs.Form.{Form, enumeration, Variants, unit_content, newtype_content, no_fields}
use Rattle.bson_values.specs.Value.{Value, unit_variant, newtype_variant}
use Rattle.bson_laws.specs.Means.{means, under_name, norm}
use Rattle.bson_laws.specs.Variants.{content_of}
use Rattle.bson_laws.proofs.FitsUnrolled.{unit_variant_in, newtype_variant_in}
use Rattle.bson_type_data.specs.Answers.{Reading, Writing}
use Rattle.bson_traits.specs.Laws.{Returns, IsNeverNull}
use Rattle.bson_structs.specs.Variants.{written_unit, written_newtype}

pub unit_variant_returns : {C : Type 0} (vs : Variants) (name : Utf8) (c : C) (t : Value → Reading C) → content_of vs name ≡ Some unit_content → t (unit_variant name) ≡ Ok c
    → Returns (enumeration vs) c t (written_unit name)
unit_variant_returns vs name c t there gives = record { fits = unit_variant_in no_fields vs name there; again = gives }

pub newtype_variant_returns : {C D : Type 0} (vs : Variants) (name : Utf8) (f : Form) (d : D) (s : Value → Reading D) (c : C) (t : Value → Reading C) (r : Writing Value) → content_of vs name ≡ Some (newtype_content f)
    → ((v : Value) → s v ≡ Ok d → t (newtype_variant name v) ≡ Ok c) → Returns f d s r → Returns (enumeration vs) c t (written_newtype name r)
newtype_variant_returns vs name f d s c t (Err e) there gives a = tt
newtype_variant_returns vs name f d s c t (Ok v) there gives a = record { fits = newtype_variant_in no_fields vs name f v there a.fits; again = gives (norm v) a.again }

-- a variant means a text or a document
pub unit_variant_not_null : (name : Utf8) → IsNeverNull (written_unit name)
unit_variant_not_null name e = cc

under_not_null : (name : Utf8) (t : Option Tree) → option_map (under_name name) t ≡ Some null → ⊥
under_not_null name None e = cc
under_not_null name (Some t) e = cc

pub newtype_variant_not_null : (name : Utf8) (r : Writing Value) → IsNeverNull (written_newtype name r)
newtype_variant_not_null name (Err e) = tt
newtype_variant_not_null name (Ok v) = under_not_null name (means v)
