-- The keys that a struct takes: where it denies unknown fields, the names of its own.
use Rattle.std.proofs.Common.{◌≡◌, Bool, true, false, cond, Option, Some, None, refl, ap, subst, ◌∙◌}
use Rattle.std.specs.Prelude.{◌&&◌, ◌||◌, option_map}
use Rattle.std.specs.Str.{bytes_eq}
use Rattle.std.proofs.lemmas.Slice.Eq.{bytes_eq-Decides}
use Rattle.bson_kinds.specs.Text.{Utf8}
use Rattle.bson_base.specs.Tree.{Pairs, no_pairs, pair}
use Rattle.bson_kinds.proofs.Outcomes.{some_is, some_map, some_then}
use Rattle.bson_shape.specs.Form.{UnknownFields, dropped, denied, Fields, no_fields, field}
use Rattle.bson_shape.specs.Makers.{has_field}
use Rattle.bson_values.specs.Value.{FieldValues, no_field_values, field_value}
use Rattle.bson_laws.specs.Views.{are_named, all_known}
use Rattle.bson_laws.specs.Means.{means, means_fields}
use Rattle.bson_laws.specs.Fits.{FieldsFit}
use Rattle.bson_kinds.proofs.Apart.{no_some, false_no}

-- what there is under a condition is there, and the condition holds
pub where_known : {A : Type 0} (b : Bool) (o : Option A) (x : A) → cond b o None ≡ Some x → (b ≡ true) × (o ≡ Some x)
where_known true o x e = (refl, e)
where_known false o x e = absurd (no_some e)

or_first : (a b : Bool) → a ≡ true → (a || b) ≡ true
or_first true b e = refl
or_first false b e = absurd (false_no e)

or_second : (a b : Bool) → b ≡ true → (a || b) ≡ true
or_second true b e = refl
or_second false b e = e

-- the keys of what the values of some of the fields mean are names of fields
keys_named : (all : Fields) (vs : FieldValues) (fs : Fields) (ps : Pairs) → ((key : Utf8) → has_field key fs ≡ true → has_field key all ≡ true) → FieldsFit vs fs → means_fields vs ≡ Some ps → are_named all ps ≡ true
keys_named all no_field_values no_fields ps within f e = subst (λ x. are_named all x ≡ true) (some_is no_pairs ps e) refl
keys_named all no_field_values (field n s fs) ps within f e = absurd f
keys_named all (field_value m v vs) no_fields ps within f e = absurd f
keys_named all (field_value m v vs) (field n s fs) ps within f e =
    let a = some_then (λ t. option_map (pair m t) (means_fields vs)) (means v) ps e in
    let b = some_map (pair m a.0) (means_fields vs) ps a.2 in
    let first = within m (or_first (bytes_eq m n) (has_field m fs) ((bytes_eq-Decides m n).1 f.0)) in
    let rest = keys_named all vs fs b.0 (λ key h. within key (or_second (bytes_eq key n) (has_field key fs) h)) f.2 b.1 in
    subst (λ x. are_named all x ≡ true) b.2 (ap (λ c. c && are_named all b.0) first ∙ rest)

-- a struct takes each key of what a value of its fields means
pub fitting_known : (u : UnknownFields) (fs : Fields) (vs : FieldValues) (ps : Pairs) → FieldsFit vs fs → means_fields vs ≡ Some ps → all_known u fs ps ≡ true
fitting_known dropped fs vs ps f e = refl
fitting_known denied fs vs ps f e = keys_named fs vs fs ps (λ key h. h) f e
