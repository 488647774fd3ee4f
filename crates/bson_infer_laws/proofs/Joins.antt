-- A join is above both.
use Rattle.std.proofs.Common.{◌≡◌, Bool, true, false, cond, Option, Some, None, inl, inr, refl, ap, sym, subst, ◌∙◌}
use Rattle.std.specs.Prelude.{◌||◌, ◌⊎◌}
use Rattle.std.specs.Str.{bytes_eq}
use Rattle.bson_kinds.specs.Text.{Utf8}
use Rattle.bson_shape.specs.Form.{dropped, Form, leaf, optional, sequence, structure, Fields, no_fields, field, joined}
use Rattle.bson_shape.specs.declared.leaf.Leaf.{Leaf}
use Rattle.bson_shape.specs.declared.leaf.Leaf.TheVariants.{Bson}
use Rattle.bson_laws.specs.Named.{form_of, has}
use Rattle.bson_infer_laws.specs.Join.{is_nothing, is_unit, opt, within, join_unlike, join_at, new_fields, join, join_fields}
use Rattle.bson_infer_laws.specs.Above.{IsOptional, bare, IsBare, FieldAbove, NamedIn, Above, FieldsAbove, IsJoined, AreJoined}
use Rattle.bson_laws.proofs.Fitted.{bytes_eq-refl, unlike_swap}
use Rattle.bson_infer_laws.proofs.Above.{or_left, or_right, lies_within, unit_is, nothing_under, bare_above, bson_over, by_first, by_name, name_is, has_some}
use Rattle.bson_kinds.proofs.Apart.{no_some}

-- ---- a form is above itself

-- each field is the first of its name in the list
abbrev pub Agrees : Fields → Fields → Type 0
Agrees no_fields fs = Unit {0}
Agrees (field n x ks) fs = (form_of fs n ≡ Some x) × Agrees ks fs

neither : (b c : Bool) → (b || c) ≡ false → (b ≡ false) × (c ≡ false)
neither true c e = absurd cc
neither false c e = (refl, e)

agrees_more : (ks : Fields) (m : Utf8) (w : Form) (fs : Fields) → Agrees ks fs → has ks m ≡ false → Agrees ks (field m w fs)
agrees_more no_fields m w fs h e = tt
agrees_more (field n x ks) m w fs h e =
    let d = neither (bytes_eq n m) (has ks m) e in
    (ap (λ b. cond b (Some w) (form_of fs n)) (unlike_swap n m d.0) ∙ h.0, agrees_more ks m w fs h.1 d.1)

pub agrees_all : (fs : Fields) → AreJoined fs → Agrees fs fs
agrees_all no_fields p = tt
agrees_all (field n x fs) p = (ap (λ b. cond b (Some x) (form_of fs n)) (bytes_eq-refl n), agrees_more fs n x fs (agrees_all fs p.3) p.0)

named_agrees : (ks fs : Fields) → Agrees ks fs → NamedIn ks fs
named_agrees no_fields fs h = tt
named_agrees (field n x ks) fs h = (has_some fs n x h.0, named_agrees ks fs h.1)

bare_is : (x : Form) → IsBare x → bare x ≡ x
bare_is (optional x) h = absurd h
bare_is x h = refl

mutual
  pub above_itself : (a : Form) → IsJoined a → Above a a
  above_itself (optional x) p = inr (above_itself x p.2)
  above_itself (leaf l) p = lies_within l l (inl refl)
  above_itself (sequence x) p = above_itself x p
  above_itself (structure dropped n fs) p = (fields_itself fs fs p.1 (agrees_all fs p.1), named_agrees fs fs (agrees_all fs p.1))
  above_itself a p = p

  fields_itself : (ks fs : Fields) → AreJoined ks → Agrees ks fs → FieldsAbove ks fs
  fields_itself no_fields fs p h = tt
  fields_itself (field n x ks) fs p h = (subst (FieldAbove (Above x) x) (sym h.0) (above_itself x p.2), fields_itself ks fs p.3 h.1)

-- ---- options

opt_up : (s b : Form) → Above s b → Above (opt s) b
opt_up (optional s) b e = e
opt_up s b e = bare_above s b e

opt_over : (s x : Form) → IsBare x → Above s x → Above (opt s) (optional x)
opt_over (optional z) x h e = subst (λ y. (is_unit y ≡ true) ⊎ Above z y) (bare_is x h) e
opt_over s x h e = inr e

unit_under : (x b : Form) → is_unit b ≡ true → Above (optional x) b
unit_under x b u = subst (Above (optional x)) (sym (unit_is b u)) (inl refl)

null_under : (x b : Form) → (is_nothing b || is_unit b) ≡ true → Above (optional x) b
null_under x b e = by_name (is_nothing b) (is_unit b) e (λ n. nothing_under (optional x) b n) (λ u. unit_under x b u)

opt_optional : (x : Form) → IsOptional (opt x)
opt_optional (optional x) = tt
opt_optional x = tt

-- an option joined with a form that is none
option_joins : (x b : Form) → IsBare x → IsJoined x → Above (join x b) x × Above (join x b) b
    → (c : Bool) → (is_nothing b || is_unit b) ≡ c → Above (cond c (optional x) (opt (join x b))) (optional x) × Above (cond c (optional x) (opt (join x b))) b
option_joins x b h p r true e = (inr (above_itself x p), null_under x b e)
option_joins x b h p r false e = (opt_over (join x b) x h r.0, opt_up (join x b) b r.1)

joins_option : (a y : Form) → IsBare y → IsJoined y → Above (join a y) a × Above (join a y) y
    → (c : Bool) → (is_nothing a || is_unit a) ≡ c → Above (cond c (optional y) (opt (join a y))) a × Above (cond c (optional y) (opt (join a y))) (optional y)
joins_option a y h p r true e = (null_under y a e, inr (above_itself y p))
joins_option a y h p r false e = (opt_up (join a y) a r.0, opt_over (join a y) y h r.1)

-- ---- forms that are unlike

unlike_joins : (a b : Form) → IsBare a → IsBare b → IsJoined a → IsJoined b → (na nb ua ub : Bool) → is_nothing a ≡ na → is_nothing b ≡ nb → is_unit a ≡ ua → is_unit b ≡ ub
    → Above (cond na b (cond nb a (cond ua (optional b) (cond ub (optional a) (leaf Bson))))) a
    × Above (cond na b (cond nb a (cond ua (optional b) (cond ub (optional a) (leaf Bson))))) b
unlike_joins a b h k p q true nb ua ub e f u v = (nothing_under b a e, above_itself b q)
unlike_joins a b h k p q false true ua ub e f u v = (above_itself a p, nothing_under a b f)
unlike_joins a b h k p q false false true ub e f u v = (unit_under b a u, inr (subst (Above b) (sym (bare_is b k)) (above_itself b q)))
unlike_joins a b h k p q false false false true e f u v = (inr (subst (Above a) (sym (bare_is a h)) (above_itself a p)), unit_under a b v)
unlike_joins a b h k p q false false false false e f u v = (bson_over Bson a refl h, bson_over Bson b refl k)

unlike : (a b : Form) → IsBare a → IsBare b → IsJoined a → IsJoined b → Above (join_unlike a b) a × Above (join_unlike a b) b
unlike a b h k p q = unlike_joins a b h k p q (is_nothing a) (is_nothing b) (is_unit a) (is_unit b) refl refl refl refl

leaves_join : (l m : Leaf) (c d : Bool) → within m l ≡ c → within l m ≡ d
    → Above (cond c (leaf l) (cond d (leaf m) (join_unlike (leaf l) (leaf m)))) (leaf l) × Above (cond c (leaf l) (cond d (leaf m) (join_unlike (leaf l) (leaf m)))) (leaf m)
leaves_join l m true d e f = (lies_within l l (inl refl), e)
leaves_join l m false true e f = (f, lies_within m m (inl refl))
leaves_join l m false false e f = unlike (leaf l) (leaf m) tt tt tt tt

-- ---- fields

pub joined_at : (gs : Fields) (n : Utf8) (y : Form) → AreJoined gs → form_of gs n ≡ Some y → IsJoined y
joined_at no_fields n y p e = absurd (no_some e)
joined_at (field m x gs) n y p e = by_first (bytes_eq m n) x y (form_of gs n) e (λ is same. subst IsJoined same p.2) (λ e'. joined_at gs n y p.3 e')

fields_both : (ks bs fs : Fields) → FieldsAbove ks fs → FieldsAbove bs fs → FieldsAbove (joined ks bs) fs
fields_both no_fields bs fs e f = f
fields_both (field n x ks) bs fs e f = (e.0, fields_both ks bs fs e.1 f)

-- a field of the first list, joined with that of its name in the second
field_joins : (x : Form) (o : Option Form) → IsJoined x → ((y : Form) → o ≡ Some y → Above (join x y) x × Above (join x y) y)
    → Above (join_at (join x) x o) x × FieldAbove (Above (join_at (join x) x o)) (join_at (join x) x o) o
field_joins x None p t = (opt_up x x (above_itself x p), opt_optional x)
field_joins x (Some y) p t = t y refl

new_by : (c : Bool) (n : Utf8) (w : Form) (rest fs : Fields) → FieldsAbove rest fs → (c ≡ false → FieldAbove (Above w) w (form_of fs n)) → FieldsAbove (cond c rest (field n w rest)) fs
new_by true n w rest fs h t = h
new_by false n w rest fs h t = (t refl, h)

lacks : (fs : Fields) (n : Utf8) (o : Option Form) → form_of fs n ≡ o → has fs n ≡ false → o ≡ None
lacks fs n None e h = refl
lacks fs n (Some x) e h = absurd (let both : true ≡ false = sym (has_some fs n x e) ∙ h in cc)

new_left : (fs ks : Fields) → FieldsAbove (new_fields fs ks) fs
new_left fs no_fields = tt
new_left fs (field n y ks) =
    new_by (has fs n) n (opt y) (new_fields fs ks) fs (new_left fs ks) (λ h. subst (FieldAbove (Above (opt y)) (opt y)) (sym (lacks fs n (form_of fs n) refl h)) (opt_optional y))

new_right : (fs ks gs : Fields) → AreJoined ks → Agrees ks gs → FieldsAbove (new_fields fs ks) gs
new_right fs no_fields gs p h = tt
new_right fs (field n y ks) gs p h =
    new_by (has fs n) n (opt y) (new_fields fs ks) gs (new_right fs ks gs p.3 h.1) (λ e. subst (FieldAbove (Above (opt y)) (opt y)) (sym h.0) (opt_up y y (above_itself y p.2)))

-- ---- names

pub has_joined : (ks bs : Fields) (m : Utf8) → has (joined ks bs) m ≡ (has ks m || has bs m)
has_joined no_fields bs m = refl
has_joined (field n x ks) bs m = ap (λ b. bytes_eq n m || b) (has_joined ks bs m) ∙ again (bytes_eq n m) (has ks m) (has bs m)
  where
    again : (a b c : Bool) → (a || (b || c)) ≡ ((a || b) || c)
    again true b c = refl
    again false b c = refl

pub has_join : (fs gs : Fields) (m : Utf8) → has (join_fields fs gs) m ≡ has fs m
has_join no_fields gs m = refl
has_join (field n x fs) gs m = ap (λ b. bytes_eq n m || b) (has_join fs gs m)

new_has_by : (c : Bool) (n m : Utf8) (w : Form) (rest : Fields) → (bytes_eq n m ≡ true → c ≡ false) → (bytes_eq n m || has rest m) ≡ true → has (cond c rest (field n w rest)) m ≡ true
new_has_by true n m w rest t e = by_name (bytes_eq n m) (has rest m) e (λ is. absurd (let both : true ≡ false = t is in cc)) (λ h. h)
new_has_by false n m w rest t e = e

new_has : (fs ks : Fields) (m : Utf8) → has ks m ≡ true → has fs m ≡ false → has (new_fields fs ks) m ≡ true
new_has fs no_fields m e h = absurd cc
new_has fs (field n y ks) m e h =
    new_has_by (has fs n) n m (opt y) (new_fields fs ks) (λ is. ap (has fs) (name_is n m is) ∙ h)
    (by_name (bytes_eq n m) (has ks m) e (λ is. or_left _ _ is) (λ k. or_right _ _ (new_has fs ks m k h)))

-- the fields of a join
abbrev pub both : Fields → Fields → Fields
both fs gs = joined (join_fields fs gs) (new_fields fs gs)

left_has : (fs gs : Fields) (m : Utf8) → has fs m ≡ true → has (both fs gs) m ≡ true
left_has fs gs m e = has_joined (join_fields fs gs) (new_fields fs gs) m ∙ or_left _ _ (has_join fs gs m ∙ e)

right_has : (fs gs : Fields) (m : Utf8) (b : Bool) → has fs m ≡ b → has gs m ≡ true → has (both fs gs) m ≡ true
right_has fs gs m true h e = left_has fs gs m h
right_has fs gs m false h e = has_joined (join_fields fs gs) (new_fields fs gs) m ∙ or_right _ _ (new_has fs gs m e h)

left_named : (ks fs gs : Fields) → Agrees ks fs → NamedIn ks (both fs gs)
left_named no_fields fs gs h = tt
left_named (field n x ks) fs gs h = (left_has fs gs n (has_some fs n x h.0), left_named ks fs gs h.1)

right_named : (ks fs gs : Fields) → Agrees ks gs → NamedIn ks (both fs gs)
right_named no_fields fs gs h = tt
right_named (field n y ks) fs gs h = (right_has fs gs n (has fs n) refl (has_some gs n y h.0), right_named ks fs gs h.1)

-- ---- all forms

mutual
  pub joins : (a b : Form) → IsJoined a → IsJoined b → Above (join a b) a × Above (join a b) b
  joins (optional x) (optional y) p q = let r = joins x y p.2 q.2 in (opt_over (join x y) x p.0 r.0, opt_over (join x y) y q.0 r.1)
  joins (optional x) b p q = option_joins x b p.0 p.2 (joins x b p.2 q) (is_nothing b || is_unit b) refl
  joins a (optional y) p q = joins_option a y q.0 q.2 (joins a y p q.2) (is_nothing a || is_unit a) refl
  joins (leaf l) (leaf m) p q = leaves_join l m (within m l) (within l m) refl refl
  joins (sequence x) (sequence y) p q = joins x y p q
  joins (structure dropped n fs) (structure dropped m gs) p q =
      let r = fields_join fs fs gs p.1 q.1 (agrees_all fs p.1) in (
        (fields_both (join_fields fs gs) (new_fields fs gs) fs r.0 (new_left fs gs), left_named fs fs gs (agrees_all fs p.1)),
        (fields_both (join_fields fs gs) (new_fields fs gs) gs r.1 (new_right fs gs gs q.1 (agrees_all gs q.1)), right_named gs fs gs (agrees_all gs q.1)),
      )
  joins a b p q = unlike a b tt tt p q

  fields_join : (ks fs gs : Fields) → AreJoined ks → AreJoined gs → Agrees ks fs → FieldsAbove (join_fields ks gs) fs × FieldsAbove (join_fields ks gs) gs
  fields_join no_fields fs gs p q h = (tt, tt)
  fields_join (field n x ks) fs gs p q h =
      let r = fields_join ks fs gs p.3 q h.1 in
      let f = field_joins x (form_of gs n) p.2 (λ y e. joins x y p.2 (joined_at gs n y q e)) in
      ((subst (FieldAbove (Above (join_at (join x) x (form_of gs n))) (join_at (join x) x (form_of gs n))) (sym h.0) f.0, r.0), (f.1, r.1))
