-- The variants of an enum: what is read, viewed and fits by their names.
use Rattle.std.proofs.Common.{◌≡◌, Bool, true, false, cond, Option, Some, Ok, refl, sym, subst}
use Rattle.std.specs.Str.{bytes_eq}
use Rattle.bson_kinds.specs.Text.{Utf8}
use Rattle.bson_kinds.proofs.Outcomes.{some_is}
use Rattle.bson_shape.specs.Form.{enumeration, Content, unit_content, newtype_content, tuple_content, struct_content, Variants}
use Rattle.bson_values.specs.Value as value
use Rattle.bson_values.specs.Value.{Value, Items, FieldValues}
use Rattle.bson_laws.specs.Variants.{content_of}
use Rattle.bson_laws.specs.Views.{named_unit}
use Rattle.bson_kinds.specs.Piece.{made}
use Rattle.bson_laws.specs.Containers.{unit_of}
use Rattle.bson_laws.specs.Fits.{Fits, PartsFit, FieldsFit}
use Rattle.bson_laws.proofs.Fitted.{bytes_same}
use Rattle.bson_kinds.proofs.Apart.{no_some}

-- a text that names a unit variant is that variant, and is read as it
pub unit_is : (name : Utf8) (o : Option Content) (v : Value) → named_unit name o ≡ Some v → (o ≡ Some unit_content) × (v ≡ value.unit_variant name) × (unit_of name o ≡ Ok (value.unit_variant (made name)))
unit_is name (Some unit_content) v e = (refl, sym (some_is (value.unit_variant name) v e), refl)
unit_is name o v e = absurd (no_some e)

-- ---- by the first variant of a name, or by those behind it

-- what holds of a value in both cases holds of the chosen one
pub chosen_holds : {P : Type 0} (b : Bool) (x y : Option Value) (v : Value) → cond b x y ≡ Some v → (x ≡ Some v → P) → (y ≡ Some v → P) → P
chosen_holds true x y v e first others = first e
chosen_holds false x y v e first others = others e

-- ---- what fits

-- the value is the variant of this name with these contents, which fit
abbrev pub FitsContent : Utf8 → Content → Value → Type 0
FitsContent name unit_content v = ⊥
FitsContent name (newtype_content s) v = (w : Value) × (v ≡ value.newtype_variant name w) × Fits w s
FitsContent name (tuple_content ps) v = (ws : Items) × (v ≡ value.tuple_variant name ws) × PartsFit ws ps
FitsContent name (struct_content fs) v = (ws : FieldValues) × (v ≡ value.structure_variant name ws) × FieldsFit ws fs

-- the value is a variant of this name with contents that fit
abbrev pub FitsVariant : Option Content → Utf8 → Value → Type 0
FitsVariant o name v = (c : Content) × (o ≡ Some c) × FitsContent name c v

pub chosen_fits : (b : Bool) (n name : Utf8) (d : Content) (o : Option Content) (x y : Option Value) (v : Value) → bytes_eq n name ≡ b → cond b x y ≡ Some v
    → (x ≡ Some v → FitsContent n d v) → (y ≡ Some v → FitsVariant o name v) → FitsVariant (cond b (Some d) o) name v
chosen_fits true n name d o x y v same e first others = (d, refl, subst (λ m. FitsContent m d v) (bytes_same n name same) (first e))
chosen_fits false n name d o x y v unlike e first others = others e

-- a variant of an enum whose contents fit fits the enum
pub variant_fits : (vs : Variants) (name : Utf8) (c : Content) (v : Value) → content_of vs name ≡ Some c → FitsContent name c v → Fits v (enumeration vs)
variant_fits vs name unit_content v there f = absurd f
variant_fits vs name (newtype_content s) v there f = subst (λ x. Fits x (enumeration vs)) (sym f.1) (s, there, f.2)
variant_fits vs name (tuple_content ps) v there f = subst (λ x. Fits x (enumeration vs)) (sym f.1) (ps, there, f.2)
variant_fits vs name (struct_content fs) v there f = subst (λ x. Fits x (enumeration vs)) (sym f.1) (fs, there, f.2)
