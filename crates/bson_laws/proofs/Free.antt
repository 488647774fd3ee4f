-- Newtypes and structs whose names are not reserved.
use Rattle.std.proofs.Common.{◌≡◌, ℕ, List, [], ◌∷◌, Bool, true, false, cond, Some, None, refl, ap, sym, ◌∙◌}
use Rattle.std.specs.Prelude.{◌||◌, option_map}
use Rattle.std.specs.Str.{bytes_eq}
use Rattle.std.proofs.lemmas.Slice.Eq.{bytes_eq-Decides}
use Rattle.bson_kinds.specs.Reserved.{Reserved, reserved_names, kind_in, reserved_kind}
use Rattle.bson_kinds.specs.Text.{Utf8, begins_with_dollar, IsFreeName}
use Rattle.bson_base.specs.Tree.{binary, document}
use Rattle.bson_kinds.specs.declared.element_type.ElementType.TheVariants.{Binary}
use Rattle.bson_shape.specs.Makers.{reserved_newtypes, is_reserved_newtype}
use Rattle.bson_values.specs.Value.{Value, newtype, structure, FieldValues, uuid_newtype, readable_newtype, readable_inside, kind_as, kind_of}
use Rattle.bson_laws.specs.Unwrap.{unwrap, scoped_code}
use Rattle.bson_laws.specs.UuidBytes.{uuid_bytes}
use Rattle.bson_laws.specs.Means.{norm_struct, norm, norm_fields, struct_means, reserved_means, means, means_fields, means_list}
use Rattle.bson_laws.specs.Spell.{spell_uuid, enclosed_at, struct_at, reserved_at, spell_as, spell_list, spell, spell_fields}
use Rattle.bson_kinds.proofs.Apart.{true_no}

neither : (a b c : Bool) → (a || (b || (c || false))) ≡ false → (a ≡ false) × (b ≡ false)
neither true b c e = absurd (true_no e)
neither false true c e = absurd (true_no e)
neither false false c e = (refl, refl)

-- the name is neither that of a UUID nor that of the readable form
free_names : (name : Utf8) → is_reserved_newtype name ≡ false → (bytes_eq name uuid_newtype ≡ false) × (bytes_eq name readable_newtype ≡ false)
free_names name e = neither _ _ _ e

-- a newtype of another name is written as its content, is of its kind and means what it means
pub free_spelled : (name : Utf8) (v : Value) (levels : ℕ) → is_reserved_newtype name ≡ false → spell (newtype name v) levels ≡ spell v levels
free_spelled name v levels e =
    let f = free_names name e in
    ap (λ b. cond b (spell_uuid (uuid_bytes false v)) (spell_as (readable_inside false name) v levels)) f.0 ∙ ap (λ b. spell_as b v levels) f.1

pub free_kind : (name : Utf8) (v : Value) → is_reserved_newtype name ≡ false → kind_of (newtype name v) ≡ kind_of v
free_kind name v e =
    let f = free_names name e in
    ap (λ b. cond b Binary (kind_as (readable_inside false name) v)) f.0 ∙ ap (λ b. kind_as b v) f.1

pub free_means : (name : Utf8) (v : Value) → is_reserved_newtype name ≡ false → means (newtype name v) ≡ means v
free_means name v e =
    let f = free_names name e in
    ap (λ b. cond b (option_map (binary 4) (uuid_bytes false v)) (cond (is_reserved_newtype name) None (means v))) f.0 ∙ ap (λ b. cond b None (means v)) e

-- a struct of another name is a document of its fields
pub free_struct : (name : Utf8) (fs : FieldValues) (levels : ℕ) → reserved_kind name ≡ None → spell (structure name fs) levels ≡ enclosed_at document levels (spell_fields fs)
free_struct name fs levels e = ap (λ o. struct_at o levels (spell_fields fs) (λ k. reserved_at k (unwrap k fs) (scoped_code (spell_list false fs levels [])))) e

pub free_struct_means : (name : Utf8) (fs : FieldValues) → reserved_kind name ≡ None → means (structure name fs) ≡ option_map document (means_fields fs)
free_struct_means name fs e = ap (λ o. struct_means o (means_fields fs) (λ k. reserved_means k (unwrap k fs) (scoped_code (means_list fs [])))) e

-- its fields are read back as they are
pub free_norm : (name : Utf8) (fs : FieldValues) → reserved_kind name ≡ None → norm (structure name fs) ≡ structure name (norm_fields fs)
free_norm name fs e = ap (λ o. structure name (norm_struct o (norm_fields fs))) e

-- ---- names that do not begin with `$`

unlike : (n w : Utf8) → begins_with_dollar n ≡ false → begins_with_dollar w ≡ true → bytes_eq n w ≡ false
unlike n w d e = by (bytes_eq n w) refl
  where
    by : (b : Bool) → bytes_eq n w ≡ b → bytes_eq n w ≡ false
    by true h = let same : false ≡ true = sym d ∙ ap begins_with_dollar ((bytes_eq-Decides n w).0 h) ∙ e in absurd cc
    by false h = h

pub free_newtype_name : (n : Utf8) → IsFreeName n → is_reserved_newtype n ≡ false
free_newtype_name n f =
    let other = λ (w : Utf8) (e : begins_with_dollar w ≡ true). unlike n w f.no_dollar e in
    (λ i. other uuid_newtype refl i || (other readable_newtype refl i || (other (third reserved_newtypes) refl i || false)))
  where
    third : List Utf8 → Utf8
    third (a ∷ (b ∷ (c ∷ rest))) = c
    third ns = []

abbrev BeginWithDollar : List Reserved → Type 0
BeginWithDollar [] = Unit {0}
BeginWithDollar (r ∷ rs) = (begins_with_dollar r.name ≡ true) × BeginWithDollar rs

no_kind_in : (n : Utf8) (rs : List Reserved) → begins_with_dollar n ≡ false → BeginWithDollar rs → kind_in n rs ≡ None
no_kind_in n [] d h = refl
no_kind_in n (r ∷ rs) d h = ap (λ b. cond b (Some r.kind) (kind_in n rs)) (unlike n r.name d h.0) ∙ no_kind_in n rs d h.1

pub free_struct_name : (n : Utf8) → IsFreeName n → reserved_kind n ≡ None
free_struct_name n f = no_kind_in n reserved_names f.no_dollar (refl, (refl, (refl, (refl, (refl, (refl, (refl, (refl, (refl, (refl, (refl, (refl, (refl, tt)))))))))))))
