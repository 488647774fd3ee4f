-- What a form is, seen through step by step.
use Rattle.std.proofs.Common.{◌≡◌, ℕ, zero, suc, ◌+◌, ◌-◌, ◌*◌, ◌<◌, ◌≤◌, List, [], ◌∷◌, length, Bool, true, false, cond, Some, None, refl, ap, sym, ◌∙◌, inl, inr, arith}
use Rattle.std.specs.Str.{bytes_eq}
use Rattle.bson_kinds.specs.Text.{Utf8}
use Rattle.bson_shape.specs.Form.{Form, reference, definitions, Fields, no_fields, field}
use Rattle.bson_shape.specs.Guarded.{count, definition}
use Rattle.bson_shape.specs.ShapeView.{fields_of}
use Rattle.bson_shape.specs.declared.shape.FieldShape.{FieldShape}
use Rattle.bson_shape.proofs.Chains.{one_fewer}
use Rattle.bson_evolve_laws.specs.Placed.{Placed, placed, seen, seen_name, undefined, peel}
use Rattle.bson_evolve_check.specs.Peels.{fields_weight, names_to, sees, steps_left, weight, IsAround}

pub count_of : (fs : List FieldShape) → count (fields_of fs) ≡ length fs
count_of [] = refl
count_of (f ∷ fs) = ap suc (count_of fs)

pub sees_all : (fs : List FieldShape) (s : Form) → sees (length fs + 1) (placed (fields_of fs) s) ≡ peel (placed (fields_of fs) s)
sees_all fs s = let one : length fs + 1 ≡ suc (length fs) = omega arith in ap (λ n. sees n (placed (fields_of fs) s)) (one ∙ ap suc (sym (count_of fs)))

found : (means : Utf8 → Placed) (h rest : Fields) (name : Utf8) (s : Form) → definition rest name ≡ Some s → seen_name means h rest name ≡ seen means h s
found means h no_fields name s e = absurd cc
found means h (field n x rest) name s e = by_case (bytes_eq n name) e (λ q. found means h rest name s q) where
  by_case : (b : Bool) → cond b (Some x) (definition rest name) ≡ Some s → (definition rest name ≡ Some s → seen_name means h rest name ≡ seen means h s) → cond b (seen means h x) (seen_name means h rest name) ≡ seen means h s
  by_case true q others = let same : x ≡ s = cc in ap (seen means h) same
  by_case false q others = others q

missing : (means : Utf8 → Placed) (h rest : Fields) (name : Utf8) → definition rest name ≡ None → seen_name means h rest name ≡ undefined h name
missing means h no_fields name e = refl
missing means h (field n x rest) name e = by_case (bytes_eq n name) e (λ q. missing means h rest name q) where
  by_case : (b : Bool) → cond b (Some x) (definition rest name) ≡ None → (definition rest name ≡ None → seen_name means h rest name ≡ undefined h name) → cond b (seen means h x) (seen_name means h rest name) ≡ undefined h name
  by_case true q others = absurd cc
  by_case false q others = others q

module _ (n : ℕ) (h : Fields) where
  pub sees_inner : (f s : Form) → IsAround f s → sees n (placed h f) ≡ sees n (placed h s)
  sees_inner f s (inl k) = ap (λ x. sees n (placed h x)) k.1
  sees_inner f s (inr e) = ap (λ x. sees n (placed h x)) e

  pub sees_definitions : (fs : List FieldShape) (f s : Form) → f ≡ definitions (fields_of fs) s → sees n (placed h f) ≡ sees (length fs + 1) (placed (fields_of fs) s)
  sees_definitions fs f s e =
      let one : suc (length fs) ≡ length fs + 1 = omega arith in
      ap (λ x. sees n (placed h x)) e ∙ ap (λ k. sees (suc k) (placed (fields_of fs) s)) (count_of fs) ∙ ap (λ k. sees k (placed (fields_of fs) s)) one

  pub sees_name : (f s : Form) (name : Utf8) → (n ≡ 0 → ⊥) → f ≡ reference name → definition h name ≡ Some s → sees (n - 1) (placed h s) ≡ sees n (placed h f)
  sees_name f s name some e k = sym (ap (λ x. sees n (placed h x)) e ∙ by_left n some) where
    by_left : (m : ℕ) → (m ≡ 0 → ⊥) → sees m (placed h (reference name)) ≡ sees (m - 1) (placed h s)
    by_left zero q = absurd (q refl)
    by_left (suc m) q = let less : suc m - 1 ≡ m = omega arith in found (names_to m h) h h name s k ∙ ap (λ i. sees i (placed h s)) (sym less)

  pub sees_undefined : (f : Form) (name : Utf8) → f ≡ reference name → definition h name ≡ None → sees n (placed h f) ≡ placed h f
  sees_undefined f name e k = ap (λ x. sees n (placed h x)) e ∙ by_left n ∙ ap (placed h) (sym e) where
    by_left : (m : ℕ) → sees m (placed h (reference name)) ≡ placed h (reference name)
    by_left zero = refl
    by_left (suc m) = missing (names_to m h) h h name k

  pub sees_last : (f : Form) (name : Utf8) → f ≡ reference name → n ≡ 0 → sees n (placed h f) ≡ placed h f
  sees_last f name e none = (λ i. sees (none i) (placed h (e i))) ∙ ap (placed h) (sym e)

-- ---- it comes to an end

defined_weight : (h : Fields) (name : Utf8) (s : Form) → definition h name ≡ Some s → weight s ≤ fields_weight h
defined_weight no_fields name s e = absurd cc
defined_weight (field n x h) name s e = by_case (bytes_eq n name) e (λ q. defined_weight h name s q) where
  by_case : (b : Bool) → cond b (Some x) (definition h name) ≡ Some s → (definition h name ≡ Some s → weight s ≤ fields_weight h) → weight s ≤ weight x + fields_weight h
  by_case true q rest = let same : x ≡ s = cc in omega (arith, ap weight same)
  by_case false q rest = omega (arith, rest q)

module _ (n : ℕ) (h : Fields) where
  pub inner_smaller : (f s : Form) → IsAround f s → steps_left n (placed h s) < steps_left n (placed h f)
  inner_smaller f s (inl k) = let e : weight f ≡ suc (weight s) = ap weight k.1 in omega (arith, e)
  inner_smaller f s (inr q) = let e : weight f ≡ suc (weight s) = ap weight q in omega (arith, e)

  pub table_smaller : (fs : List FieldShape) (f s : Form) → f ≡ definitions (fields_of fs) s → steps_left (length fs + 1) (placed (fields_of fs) s) < steps_left n (placed h f)
  table_smaller fs f s e =
      let w = fields_weight (fields_of fs) in
      let is : weight f ≡ suc (suc (length fs) * suc w + weight s) = ap weight e ∙ ap (λ k. suc (suc k * suc w + weight s)) (count_of fs) in
      let one : suc (length fs) ≡ length fs + 1 = omega arith in
      let more : suc w ≡ w + 1 = omega arith in
      let same : suc (length fs) * suc w ≡ (length fs + 1) * (w + 1) = (λ i. one i * more i) in
      omega (arith, is, same)

  pub name_smaller : (f s : Form) (name : Utf8) → (n ≡ 0 → ⊥) → definition h name ≡ Some s → steps_left (n - 1) (placed h s) < steps_left n (placed h f)
  name_smaller f s name some k = by_left n some where
    by_left : (m : ℕ) → (m ≡ 0 → ⊥) → steps_left (m - 1) (placed h s) < steps_left m (placed h f)
    by_left zero q = absurd (q refl)
    by_left (suc m) q =
        let fewer : (suc m - 1) * (fields_weight h + 1) + (fields_weight h + 1) ≡ suc m * (fields_weight h + 1) = one_fewer (suc m) (fields_weight h + 1) (omega arith) in
        let small : weight s ≤ fields_weight h = defined_weight h name s k in
        omega (arith, fewer, small)
