-- A first refusal comes at a form of which its cause holds.
use Rattle.std.proofs.Common.{◌≡◌, ℕ, ◌+◌, ◌≤◌, Bool, true, false, cond, List, [], ◌∷◌, ◌++◌, length, Option, Some, None, Err, refl, sym, ap, ◌∙◌, subst, arith, inl, inr}
use Rattle.std.specs.Prelude.{◌⊎◌, nat_le, is_some, Contains}
use Rattle.std.proofs.lemmas.Bool.Decides.{nat_tests}
use Rattle.std.proofs.lemmas.List.Elements.{Contains-append_left, Contains-append_right}
use Rattle.bson_kinds.specs.Outcome.{or_else}
use Rattle.bson_kinds.specs.Text.{Utf8}
use Rattle.bson_kinds.specs.Reserved.{reserved_kind}
use Rattle.bson_shape.specs.Form.{UnknownFields, Form, leaf, optional, lossy, human_readable, by_mode, sequence, map, tuple, tuple_structure, newtype, unit_structure, structure, enumeration, reference, definitions, Fields, no_fields, field, Parts, no_parts, part, Variants, no_variants, variant, Content, unit_content, newtype_content, tuple_content, struct_content}
use Rattle.bson_shape.specs.Guarded.{is_guarded}
use Rattle.bson_shape.proofs.Chains.{unguarded_back}
use Rattle.bson_shape.specs.Levels.{levels, deepest, deepest_part, deepest_variant, deepest_inside}
use Rattle.bson_shape.specs.Makers.{is_text_key, is_reserved_newtype, repeats, variants_repeat, within_levels, made_form}
use Rattle.bson_shape.specs.Notation.{text, name_text, struct_name_text, opening_struct, in_parens, definition_texts, content_text}
use Rattle.bson_shape.specs.FirstRefusal.{MakerRefusal, too_deep, refusal_of, form_refusal, first_refusal, fields_refusal, parts_refusal, variants_refusal, content_refusal}
use Rattle.bson_shape.specs.InnerForms.{Inner, inner_forms, field_forms, part_forms, variant_forms, content_forms, HasCause, HasFault}
use Rattle.bson_shape.specs.declared.error.ShapeError.{ShapeError}
use Rattle.bson_shape.specs.declared.error.ShapeError.TheVariants.{ReservedName, RepeatedName, KeyNotText, Unguarded, TooDeep}
use Rattle.bson_shape.proofs.Made.{within_levels-few}

-- the first, or the later one
one_of : (a b : Option MakerRefusal) (r : MakerRefusal) → or_else a b ≡ Some r → (a ≡ Some r) ⊎ ((a ≡ None) × (b ≡ Some r))
one_of None b r e = inr (refl, e)
one_of (Some x) b r e = inl e

neither : (a b : Option MakerRefusal) → or_else a b ≡ None → (a ≡ None) × (b ≡ None)
neither None b e = (refl, e)
neither (Some x) b e = absurd cc

-- ---- depth

none_deep : (t : Bool) (at around : ℕ) → nat_le 512 around ≡ t → too_deep at around ≡ None → around + 1 ≤ 512
none_deep true at around is e = absurd (let g : too_deep at around ≡ Some (record { met = at + 1; place = at; cause = TooDeep }) = rw is refl in cc)
none_deep false at around is e = lower around is
  where
    lower : (k : ℕ) → nat_le 512 k ≡ false → k + 1 ≤ 512
    lower k h = grind (arith, nat_tests)

-- a form in which nothing is refused is not too deep, and nothing is refused inside it
none_here : (f : Form) (at around : ℕ) (inside : Option MakerRefusal) → form_refusal at around f inside ≡ None → (around + 1 ≤ 512) × (inside ≡ None)
none_here f at around inside e =
    let made = refusal_of (at + length (text f)) at (made_form f) in
    let first = neither (too_deep at around) (or_else inside made) e in
    (none_deep (nat_le 512 around) at around refl first.0, (neither inside made first.1).0)

mutual
  -- a form in which nothing is refused has few levels
  fits : (f : Form) (at around : ℕ) → first_refusal at around f ≡ None → around + levels f ≤ 512
  fits (leaf l) at around e = omega (arith, none_here (leaf l) at around None e)
  fits (optional f) at around e = omega (arith, fits f (at + 1) (around + 1) (none_here (optional f) at around (first_refusal (at + 1) (around + 1) f) e).1)
  fits (lossy f) at around e = omega (arith, fits f (at + 1) (around + 1) (none_here (lossy f) at around (first_refusal (at + 1) (around + 1) f) e).1)
  fits (human_readable f) at around e = omega (arith, fits f (at + 1) (around + 1) (none_here (human_readable f) at around (first_refusal (at + 1) (around + 1) f) e).1)
  fits (sequence f) at around e = omega (arith, fits f (at + 1) (around + 1) (none_here (sequence f) at around (first_refusal (at + 1) (around + 1) f) e).1)
  fits (by_mode r c) at around e =
      let compact = at + 2 + length (text r) + 1 in
      let a = first_refusal (at + 2) (around + 1) r in
      let b = first_refusal compact (around + 1) c in
      let both = neither a b (none_here (by_mode r c) at around (or_else a b) e).1 in
      omega (arith, fits r (at + 2) (around + 1) both.0, fits c compact (around + 1) both.1)
  fits (map k v) at around e =
      let value = at + 1 + length (text k) + 1 in
      let a = first_refusal (at + 1) (around + 1) k in
      let b = first_refusal value (around + 1) v in
      let both = neither a b (none_here (map k v) at around (or_else a b) e).1 in
      omega (arith, fits k (at + 1) (around + 1) both.0, fits v value (around + 1) both.1)
  fits (tuple ps) at around e = let n = none_here (tuple ps) at around (parts_refusal (at + 1) (around + 1) ps) e in omega (arith, parts_fit ps (at + 1) (around + 1) n.0 n.1)
  fits (tuple_structure name ps) at around e =
      let inner = at + length (name_text name) + 1 in
      let n = none_here (tuple_structure name ps) at around (parts_refusal inner (around + 1) ps) e in omega (arith, parts_fit ps inner (around + 1) n.0 n.1)
  fits (enumeration vs) at around e =
      let n = none_here (enumeration vs) at around (variants_refusal (at + 1) (around + 1) vs) e in omega (arith, variants_fit vs (at + 1) (around + 1) n.0 n.1)
  fits (newtype name f) at around e =
      let inner = at + length (name_text name) + 1 in
      omega (arith, fits f inner (around + 1) (none_here (newtype name f) at around (first_refusal inner (around + 1) f) e).1)
  fits (reference name) at around e = omega (arith, none_here (reference name) at around None e)
  fits (definitions h f) at around e =
      let body = at + 1 + length (in_parens (definition_texts h)) in
      let a = fields_refusal (at + 2) (around + 1) h in
      let b = first_refusal body (around + 1) f in
      let n = none_here (definitions h f) at around (or_else a b) e in
      let both = neither a b n.1 in
      omega (arith, fields_fit h (at + 2) (around + 1) n.0 both.0, fits f body (around + 1) both.1)
  fits (unit_structure name) at around e = omega (arith, none_here (unit_structure name) at around None e)
  fits (structure u name fs) at around e =
      let inner = at + length (struct_name_text name) + length (opening_struct u) in
      let n = none_here (structure u name fs) at around (fields_refusal inner (around + 1) fs) e in omega (arith, fields_fit fs inner (around + 1) n.0 n.1)

  fields_fit : (fs : Fields) (at around : ℕ) → around ≤ 512 → fields_refusal at around fs ≡ None → around + deepest fs ≤ 512
  fields_fit no_fields at around few e = omega arith
  fields_fit (field n f fs) at around few e =
      let inner = at + length (name_text n) + 1 in
      let next = at + length (name_text n) + 1 + length (text f) + 1 in
      let both = neither (first_refusal inner around f) (fields_refusal next around fs) e in
      omega (arith, fits f inner around both.0, fields_fit fs next around few both.1)

  parts_fit : (ps : Parts) (at around : ℕ) → around ≤ 512 → parts_refusal at around ps ≡ None → around + deepest_part ps ≤ 512
  parts_fit no_parts at around few e = omega arith
  parts_fit (part f ps) at around few e =
      let both = neither (first_refusal at around f) (parts_refusal (at + length (text f) + 1) around ps) e in
      omega (arith, fits f at around both.0, parts_fit ps (at + length (text f) + 1) around few both.1)

  variants_fit : (vs : Variants) (at around : ℕ) → around ≤ 512 → variants_refusal at around vs ≡ None → around + deepest_variant vs ≤ 512
  variants_fit no_variants at around few e = omega arith
  variants_fit (variant n c vs) at around few e =
      let inner = at + length (name_text n) in
      let next = at + length (name_text n ++ content_text c) + 1 in
      let both = neither (content_refusal inner around c) (variants_refusal next around vs) e in
      omega (arith, content_fits c inner around few both.0, variants_fit vs next around few both.1)

  content_fits : (c : Content) (at around : ℕ) → around ≤ 512 → content_refusal at around c ≡ None → around + deepest_inside c ≤ 512
  content_fits unit_content at around few e = omega arith
  content_fits (newtype_content f) at around few e = fits f (at + 1) around e
  content_fits (tuple_content ps) at around few e = parts_fit ps (at + 1) around few e
  content_fits (struct_content fs) at around few e = fields_fit fs (at + 1) around few e

-- ---- faults

record FaultIn (forms : List Inner) (r : MakerRefusal) : Type 0 where
  inner : Inner
  stands : Contains forms inner
  here : inner.place ≡ r.place
  is : HasCause r.cause inner

first_of_all : (i : Inner) (is : List Inner) → Contains (i ∷ is) i
first_of_all i is = (0, omega arith, refl)

in_first : (xs ys : List Inner) (r : MakerRefusal) → FaultIn xs r → FaultIn (xs ++ ys) r
in_first xs ys r h = record { inner = h.inner; stands = Contains-append_left xs ys h.inner h.stands; here = h.here; is = h.is }

in_later : (xs ys : List Inner) (r : MakerRefusal) → FaultIn ys r → FaultIn (xs ++ ys) r
in_later xs ys r h = record { inner = h.inner; stands = Contains-append_right xs ys h.inner h.stands; here = h.here; is = h.is }

deep_fault : (t : Bool) (at around : ℕ) (f : Form) (rest : List Inner) (r : MakerRefusal) → nat_le 512 around ≡ t → around ≤ 512 → too_deep at around ≡ Some r → FaultIn (record { place = at; around = around; form = f } ∷ rest) r
deep_fault true at around f rest r is few e =
    let here : (let x : MakerRefusal = record { met = at + 1; place = at; cause = TooDeep } in x) ≡ r = let g : too_deep at around ≡ Some (record { met = at + 1; place = at; cause = TooDeep }) = rw is refl in cc in
    let all : around ≡ 512 = exactly around is few in
    subst (FaultIn (record { place = at; around = around; form = f } ∷ rest)) here (record { inner = record { place = at; around = around; form = f }; stands = first_of_all _ rest; here = refl; is = all })
  where
    exactly : (k : ℕ) → nat_le 512 k ≡ true → k ≤ 512 → k ≡ 512
    exactly k h l = let g : 512 ≤ k = grind (arith, nat_tests) in omega arith
deep_fault false at around f rest r is few e = absurd (let g : too_deep at around ≡ None = rw is refl in cc)

-- the maker's refusal, where the form is not too deep
here_fault : (i : Inner) (rest : List Inner) (met : ℕ) (cause : ShapeError) (r : MakerRefusal) → HasCause cause i → refusal_of met i.place (Err cause) ≡ Some r → FaultIn (i ∷ rest) r
here_fault i rest met cause r holds e =
    let here : (let x : MakerRefusal = record { met = met; place = i.place; cause = cause } in x) ≡ r = cc in
    subst (FaultIn (i ∷ rest)) here (record { inner = i; stands = first_of_all i rest; here = refl; is = holds })

none_made : (f : Form) (met at : ℕ) (r : MakerRefusal) → levels f ≤ 512 → refusal_of met at (within_levels f) ≡ Some r → ⊥
none_made f met at r few e = let none : refusal_of met at (within_levels f) ≡ None = ap (refusal_of met at) (within_levels-few f few) in let g : (let x : Option MakerRefusal = None in x) ≡ Some r = sym none ∙ e in cc

map_fault : (a : Bool) (k v : Form) (met at around : ℕ) (rest : List Inner) (r : MakerRefusal) → is_text_key k ≡ a → levels (map k v) ≤ 512
    → refusal_of met at (cond a (within_levels (map k v)) (Err KeyNotText)) ≡ Some r → FaultIn (record { place = at; around = around; form = map k v } ∷ rest) r
map_fault true k v met at around rest r p few e = absurd (none_made (map k v) met at r few e)
map_fault false k v met at around rest r p few e = here_fault (record { place = at; around = around; form = map k v }) rest met KeyNotText r p e

newtype_fault : (a : Bool) (n : Utf8) (f : Form) (met at around : ℕ) (rest : List Inner) (r : MakerRefusal) → is_reserved_newtype n ≡ a → levels (newtype n f) ≤ 512
    → refusal_of met at (cond a (Err ReservedName) (within_levels (newtype n f))) ≡ Some r → FaultIn (record { place = at; around = around; form = newtype n f } ∷ rest) r
newtype_fault true n f met at around rest r p few e = here_fault (record { place = at; around = around; form = newtype n f }) rest met ReservedName r p e
newtype_fault false n f met at around rest r p few e = absurd (none_made (newtype n f) met at r few e)

struct_fault : (a b : Bool) (u : UnknownFields) (n : Utf8) (fs : Fields) (met at around : ℕ) (rest : List Inner) (r : MakerRefusal) → is_some (reserved_kind n) ≡ a → repeats fs ≡ b → levels (structure u n fs) ≤ 512
    → refusal_of met at (cond a (Err ReservedName) (cond b (Err RepeatedName) (within_levels (structure u n fs)))) ≡ Some r → FaultIn (record { place = at; around = around; form = structure u n fs } ∷ rest) r
struct_fault true b u n fs met at around rest r p q few e = here_fault (record { place = at; around = around; form = structure u n fs }) rest met ReservedName r p e
struct_fault false true u n fs met at around rest r p q few e = here_fault (record { place = at; around = around; form = structure u n fs }) rest met RepeatedName r q e
struct_fault false false u n fs met at around rest r p q few e = absurd (none_made (structure u n fs) met at r few e)

enum_fault : (a : Bool) (vs : Variants) (met at around : ℕ) (rest : List Inner) (r : MakerRefusal) → variants_repeat vs ≡ a → levels (enumeration vs) ≤ 512
    → refusal_of met at (cond a (Err RepeatedName) (within_levels (enumeration vs))) ≡ Some r → FaultIn (record { place = at; around = around; form = enumeration vs } ∷ rest) r
enum_fault true vs met at around rest r p few e = here_fault (record { place = at; around = around; form = enumeration vs }) rest met RepeatedName r p e
enum_fault false vs met at around rest r p few e = absurd (none_made (enumeration vs) met at r few e)

definitions_fault : (a b : Bool) (h : Fields) (f : Form) (met at around : ℕ) (rest : List Inner) (r : MakerRefusal) → repeats h ≡ a → is_guarded h ≡ b → levels (definitions h f) ≤ 512
    → refusal_of met at (cond a (Err RepeatedName) (cond b (within_levels (definitions h f)) (Err Unguarded))) ≡ Some r → FaultIn (record { place = at; around = around; form = definitions h f } ∷ rest) r
definitions_fault true b h f met at around rest r p q few e = here_fault (record { place = at; around = around; form = definitions h f }) rest met RepeatedName r p e
definitions_fault false true h f met at around rest r p q few e = absurd (none_made (definitions h f) met at r few e)
definitions_fault false false h f met at around rest r p q few e = here_fault (record { place = at; around = around; form = definitions h f }) rest met Unguarded r (unguarded_back h q) e

-- of a form of few levels a cause holds that its maker tells
made_fault : (f : Form) (met at around : ℕ) (rest : List Inner) (r : MakerRefusal) → levels f ≤ 512 → refusal_of met at (made_form f) ≡ Some r → FaultIn (record { place = at; around = around; form = f } ∷ rest) r
made_fault (leaf l) met at around rest r few e = absurd cc
made_fault (optional f) met at around rest r few e = absurd (none_made (optional f) met at r few e)
made_fault (lossy f) met at around rest r few e = absurd (none_made (lossy f) met at r few e)
made_fault (human_readable f) met at around rest r few e = absurd (none_made (human_readable f) met at r few e)
made_fault (sequence f) met at around rest r few e = absurd (none_made (sequence f) met at r few e)
made_fault (by_mode r c) met at around rest x few e = absurd (none_made (by_mode r c) met at x few e)
made_fault (map k v) met at around rest r few e = map_fault (is_text_key k) k v met at around rest r refl few e
made_fault (tuple ps) met at around rest r few e = absurd (none_made (tuple ps) met at r few e)
made_fault (tuple_structure n ps) met at around rest r few e = absurd (none_made (tuple_structure n ps) met at r few e)
made_fault (enumeration vs) met at around rest r few e = enum_fault (variants_repeat vs) vs met at around rest r refl few e
made_fault (newtype n f) met at around rest r few e = newtype_fault (is_reserved_newtype n) n f met at around rest r refl few e
made_fault (unit_structure n) met at around rest r few e = absurd cc
made_fault (reference n) met at around rest r few e = absurd cc
made_fault (definitions h f) met at around rest r few e = definitions_fault (repeats h) (is_guarded h) h f met at around rest r refl refl few e
made_fault (structure u n fs) met at around rest r few e = struct_fault (is_some (reserved_kind n)) (repeats fs) u n fs met at around rest r refl refl few e

under : (i : Inner) (is : List Inner) (r : MakerRefusal) → FaultIn is r → FaultIn (i ∷ is) r
under i is r h = in_later (i ∷ []) is r h

-- a form too deep, a fault of what is in it, or one of its maker
around_fault : (f : Form) (inner : List Inner) (inside : Option MakerRefusal) (at around : ℕ) (r : MakerRefusal) → around ≤ 512
    → (around + 1 ≤ 512 → inside ≡ Some r → FaultIn inner r) → (around + 1 ≤ 512 → inside ≡ None → around + levels f ≤ 512)
    → form_refusal at around f inside ≡ Some r → FaultIn (record { place = at; around = around; form = f } ∷ inner) r
around_fault f inner inside at around r few in_item fit e =
    let made = refusal_of (at + length (text f)) at (made_form f) in
    elim (one_of (too_deep at around) (or_else inside made) r e) [
      | inl h ↦ deep_fault (nat_le 512 around) at around f inner r refl few h
      | inr h ↦ let less = none_deep (nat_le 512 around) at around refl h.0 in
          elim (one_of inside made r h.1) [
            | inl g ↦ under _ inner r (in_item less g)
            | inr g ↦ made_fault f (at + length (text f)) at around inner r (let k = fit less g.0 in omega (arith, k)) g.1
          ]
    ]

mutual
  form_fault : (f : Form) (at around : ℕ) (r : MakerRefusal) → around ≤ 512 → first_refusal at around f ≡ Some r → FaultIn (inner_forms at around f) r
  form_fault (leaf l) at around r few e = around_fault (leaf l) [] None at around r few (λ less g. absurd cc) (λ less none. omega (arith, less)) e
  form_fault (unit_structure n) at around r few e = around_fault (unit_structure n) [] None at around r few (λ less g. absurd cc) (λ less none. omega (arith, less)) e
  form_fault (reference n) at around r few e = around_fault (reference n) [] None at around r few (λ less g. absurd cc) (λ less none. omega (arith, less)) e
  form_fault (definitions h f) at around r few e =
      let body = at + 1 + length (in_parens (definition_texts h)) in
      let a = fields_refusal (at + 2) (around + 1) h in
      let b = first_refusal body (around + 1) f in
      let in_table = field_forms (at + 2) (around + 1) h in
      let in_body = inner_forms body (around + 1) f in
      around_fault (definitions h f) (in_table ++ in_body) (or_else a b) at around r few
      (λ less g. elim (one_of a b r g) [
        | inl k ↦ in_first in_table in_body r (fields_fault h (at + 2) (around + 1) r less k)
        | inr k ↦ in_later in_table in_body r (form_fault f body (around + 1) r less k.1)
      ])
      (λ less none. let both = neither a b none in omega (arith, fields_fit h (at + 2) (around + 1) less both.0, fits f body (around + 1) both.1))
      e
  form_fault (optional f) at around r few e =
      around_fault (optional f) (inner_forms (at + 1) (around + 1) f) (first_refusal (at + 1) (around + 1) f) at around r few
      (λ less g. form_fault f (at + 1) (around + 1) r less g) (λ less none. omega (arith, fits f (at + 1) (around + 1) none)) e
  form_fault (lossy f) at around r few e =
      around_fault (lossy f) (inner_forms (at + 1) (around + 1) f) (first_refusal (at + 1) (around + 1) f) at around r few
      (λ less g. form_fault f (at + 1) (around + 1) r less g) (λ less none. omega (arith, fits f (at + 1) (around + 1) none)) e
  form_fault (human_readable f) at around r few e =
      around_fault (human_readable f) (inner_forms (at + 1) (around + 1) f) (first_refusal (at + 1) (around + 1) f) at around r few
      (λ less g. form_fault f (at + 1) (around + 1) r less g) (λ less none. omega (arith, fits f (at + 1) (around + 1) none)) e
  form_fault (sequence f) at around r few e =
      around_fault (sequence f) (inner_forms (at + 1) (around + 1) f) (first_refusal (at + 1) (around + 1) f) at around r few
      (λ less g. form_fault f (at + 1) (around + 1) r less g) (λ less none. omega (arith, fits f (at + 1) (around + 1) none)) e
  form_fault (newtype n f) at around r few e =
      let inner = at + length (name_text n) + 1 in
      around_fault (newtype n f) (inner_forms inner (around + 1) f) (first_refusal inner (around + 1) f) at around r few
      (λ less g. form_fault f inner (around + 1) r less g) (λ less none. omega (arith, fits f inner (around + 1) none)) e
  form_fault (by_mode r c) at around x few e =
      let readable = at + 2 in
      let compact = readable + length (text r) + 1 in
      let a = first_refusal readable (around + 1) r in
      let b = first_refusal compact (around + 1) c in
      let in_readable = inner_forms readable (around + 1) r in
      let in_compact = inner_forms compact (around + 1) c in
      around_fault (by_mode r c) (in_readable ++ in_compact) (or_else a b) at around x few
      (λ less g. elim (one_of a b x g) [
        | inl h ↦ in_first in_readable in_compact x (form_fault r readable (around + 1) x less h)
        | inr h ↦ in_later in_readable in_compact x (form_fault c compact (around + 1) x less h.1)
      ])
      (λ less none. let both = neither a b none in omega (arith, fits r readable (around + 1) both.0, fits c compact (around + 1) both.1))
      e
  form_fault (map k v) at around r few e =
      let key = at + 1 in
      let value = key + length (text k) + 1 in
      let a = first_refusal key (around + 1) k in
      let b = first_refusal value (around + 1) v in
      let in_key = inner_forms key (around + 1) k in
      let in_value = inner_forms value (around + 1) v in
      around_fault (map k v) (in_key ++ in_value) (or_else a b) at around r few
      (λ less g. elim (one_of a b r g) [
        | inl h ↦ in_first in_key in_value r (form_fault k key (around + 1) r less h)
        | inr h ↦ in_later in_key in_value r (form_fault v value (around + 1) r less h.1)
      ])
      (λ less none. let both = neither a b none in omega (arith, fits k key (around + 1) both.0, fits v value (around + 1) both.1))
      e
  form_fault (tuple ps) at around r few e =
      around_fault (tuple ps) (part_forms (at + 1) (around + 1) ps) (parts_refusal (at + 1) (around + 1) ps) at around r few
      (λ less g. parts_fault ps (at + 1) (around + 1) r less g) (λ less none. omega (arith, parts_fit ps (at + 1) (around + 1) less none)) e
  form_fault (tuple_structure n ps) at around r few e =
      let inner = at + length (name_text n) + 1 in
      around_fault (tuple_structure n ps) (part_forms inner (around + 1) ps) (parts_refusal inner (around + 1) ps) at around r few
      (λ less g. parts_fault ps inner (around + 1) r less g) (λ less none. omega (arith, parts_fit ps inner (around + 1) less none)) e
  form_fault (structure u n fs) at around r few e =
      let inner = at + length (struct_name_text n) + length (opening_struct u) in
      around_fault (structure u n fs) (field_forms inner (around + 1) fs) (fields_refusal inner (around + 1) fs) at around r few
      (λ less g. fields_fault fs inner (around + 1) r less g) (λ less none. omega (arith, fields_fit fs inner (around + 1) less none)) e
  form_fault (enumeration vs) at around r few e =
      around_fault (enumeration vs) (variant_forms (at + 1) (around + 1) vs) (variants_refusal (at + 1) (around + 1) vs) at around r few
      (λ less g. variants_fault vs (at + 1) (around + 1) r less g) (λ less none. omega (arith, variants_fit vs (at + 1) (around + 1) less none)) e

  fields_fault : (fs : Fields) (at around : ℕ) (r : MakerRefusal) → around ≤ 512 → fields_refusal at around fs ≡ Some r → FaultIn (field_forms at around fs) r
  fields_fault no_fields at around r few e = absurd cc
  fields_fault (field n f fs) at around r few e =
      let inner = at + length (name_text n) + 1 in
      let next = at + length (name_text n) + 1 + length (text f) + 1 in
      elim (one_of (first_refusal inner around f) (fields_refusal next around fs) r e) [
        | inl h ↦ in_first (inner_forms inner around f) (field_forms next around fs) r (form_fault f inner around r few h)
        | inr h ↦ in_later (inner_forms inner around f) (field_forms next around fs) r (fields_fault fs next around r few h.1)
      ]

  parts_fault : (ps : Parts) (at around : ℕ) (r : MakerRefusal) → around ≤ 512 → parts_refusal at around ps ≡ Some r → FaultIn (part_forms at around ps) r
  parts_fault no_parts at around r few e = absurd cc
  parts_fault (part f ps) at around r few e =
      let end = at + length (text f) + 1 in
      elim (one_of (first_refusal at around f) (parts_refusal end around ps) r e) [
        | inl h ↦ in_first (inner_forms at around f) (part_forms end around ps) r (form_fault f at around r few h)
        | inr h ↦ in_later (inner_forms at around f) (part_forms end around ps) r (parts_fault ps end around r few h.1)
      ]

  variants_fault : (vs : Variants) (at around : ℕ) (r : MakerRefusal) → around ≤ 512 → variants_refusal at around vs ≡ Some r → FaultIn (variant_forms at around vs) r
  variants_fault no_variants at around r few e = absurd cc
  variants_fault (variant n c vs) at around r few e =
      let inner = at + length (name_text n) in
      let next = at + length (name_text n ++ content_text c) + 1 in
      elim (one_of (content_refusal inner around c) (variants_refusal next around vs) r e) [
        | inl h ↦ in_first (content_forms inner around c) (variant_forms next around vs) r (content_fault c inner around r few h)
        | inr h ↦ in_later (content_forms inner around c) (variant_forms next around vs) r (variants_fault vs next around r few h.1)
      ]

  content_fault : (c : Content) (at around : ℕ) (r : MakerRefusal) → around ≤ 512 → content_refusal at around c ≡ Some r → FaultIn (content_forms at around c) r
  content_fault unit_content at around r few e = absurd cc
  content_fault (newtype_content f) at around r few e = form_fault f (at + 1) around r few e
  content_fault (tuple_content ps) at around r few e = parts_fault ps (at + 1) around r few e
  content_fault (struct_content fs) at around r few e = fields_fault fs (at + 1) around r few e

pub refusal_fault : (f : Form) (r : MakerRefusal) → first_refusal 0 0 f ≡ Some r → HasFault f r.place r.cause
refusal_fault f r e = let x = form_fault f 0 0 r (omega arith) e in record { inner = x.inner; stands = x.stands; here = x.here; is = x.is }
