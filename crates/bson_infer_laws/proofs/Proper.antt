-- A join of joined forms is one.
use Rattle.std.proofs.Common.{◌≡◌, Bool, true, false, cond, Option, Some, None, refl, ap, sym, ◌∙◌}
use Rattle.std.specs.Prelude.{◌||◌, ◌&&◌}
use Rattle.std.specs.Str.{bytes_eq}
use Rattle.bson_kinds.specs.Text.{Utf8}
use Rattle.bson_shape.specs.Form.{dropped, Form, leaf, optional, sequence, structure, Fields, no_fields, field, joined}
use Rattle.bson_shape.specs.declared.leaf.Leaf.TheVariants.{Bson}
use Rattle.bson_laws.specs.Named.{form_of, has}
use Rattle.bson_infer_laws.specs.Join.{is_nothing, is_unit, opt, within, join_unlike, join_at, new_fields, join, join_fields}
use Rattle.bson_infer_laws.specs.Above.{IsBare, IsJoined, AreJoined}
use Rattle.bson_laws.proofs.Fitted.{bytes_eq-refl}
use Rattle.bson_infer_laws.proofs.Above.{or_left, or_right, name_is}
use Rattle.bson_infer_laws.proofs.Joins.{joined_at, has_joined, has_join}

pub opt_joined : (s : Form) → IsJoined s → is_nothing s ≡ false → IsJoined (opt s)
opt_joined (optional s) p n = p
opt_joined s p n = (tt, n, p)

pub opt_solid : (s : Form) → is_nothing (opt s) ≡ false
opt_solid (optional s) = refl
opt_solid s = refl

cond_joined : (c : Bool) (x y : Form) → IsJoined x → IsJoined y → IsJoined (cond c x y)
cond_joined true x y p q = p
cond_joined false x y p q = q

cond_solid : (c : Bool) (x y : Form) → is_nothing x ≡ false → is_nothing y ≡ false → is_nothing (cond c x y) ≡ false
cond_solid true x y p q = p
cond_solid false x y p q = q

-- ---- a join is nothing only where both are

unlike_solid : (a b : Form) (na nb ua ub : Bool) → is_nothing a ≡ na → is_nothing b ≡ nb → (na && nb) ≡ false
    → is_nothing (cond na b (cond nb a (cond ua (optional b) (cond ub (optional a) (leaf Bson))))) ≡ false
unlike_solid a b true nb ua ub e f h = f ∙ h
unlike_solid a b false true ua ub e f h = e
unlike_solid a b false false true ub e f h = refl
unlike_solid a b false false false true e f h = refl
unlike_solid a b false false false false e f h = refl

unlike_is_solid : (a b : Form) → (is_nothing a && is_nothing b) ≡ false → is_nothing (join_unlike a b) ≡ false
unlike_is_solid a b h = unlike_solid a b (is_nothing a) (is_nothing b) (is_unit a) (is_unit b) refl refl h

pub solid : (a b : Form) → (is_nothing a && is_nothing b) ≡ false → is_nothing (join a b) ≡ false
solid (optional x) (optional y) h = opt_solid (join x y)
solid (optional x) b h = cond_solid (is_nothing b || is_unit b) (optional x) (opt (join x b)) refl (opt_solid (join x b))
solid a (optional y) h = cond_solid (is_nothing a || is_unit a) (optional y) (opt (join a y)) refl (opt_solid (join a y))
solid (leaf l) (leaf m) h = cond_solid (within m l) (leaf l) (cond (within l m) (leaf m) (join_unlike (leaf l) (leaf m))) refl (cond_solid (within l m) (leaf m) (join_unlike (leaf l) (leaf m)) refl (unlike_is_solid (leaf l) (leaf m) refl))
solid (sequence x) (sequence y) h = refl
solid (structure dropped n fs) (structure dropped m gs) h = refl
solid a b h = unlike_is_solid a b h

both_something : (b c : Bool) → b ≡ false → (b && c) ≡ false
both_something true c e = absurd cc
both_something false c e = refl

other_something : (b c : Bool) → c ≡ false → (b && c) ≡ false
other_something true c e = e
other_something false c e = refl

pub solid_left : (a b : Form) → is_nothing a ≡ false → is_nothing (join a b) ≡ false
solid_left a b e = solid a b (both_something _ _ e)

pub solid_right : (a b : Form) → is_nothing b ≡ false → is_nothing (join a b) ≡ false
solid_right a b e = solid a b (other_something _ _ e)

-- ---- unlike forms

unlike_by : (a b : Form) → IsBare a → IsBare b → IsJoined a → IsJoined b → (na nb ua ub : Bool) → is_nothing a ≡ na → is_nothing b ≡ nb
    → IsJoined (cond na b (cond nb a (cond ua (optional b) (cond ub (optional a) (leaf Bson)))))
unlike_by a b h k p q true nb ua ub e f = q
unlike_by a b h k p q false true ua ub e f = p
unlike_by a b h k p q false false true ub e f = (k, f, q)
unlike_by a b h k p q false false false true e f = (h, e, p)
unlike_by a b h k p q false false false false e f = tt

pub unlike_joined : (a b : Form) → IsBare a → IsBare b → IsJoined a → IsJoined b → IsJoined (join_unlike a b)
unlike_joined a b h k p q = unlike_by a b h k p q (is_nothing a) (is_nothing b) (is_unit a) (is_unit b) refl refl

-- ---- fields

-- no name of the first list is in the second
abbrev Apart : Fields → Fields → Type 0
Apart no_fields bs = Unit {0}
Apart (field n x ks) bs = (has bs n ≡ false) × Apart ks bs

or_false : (a b : Bool) → a ≡ false → b ≡ false → (a || b) ≡ false
or_false true b e f = absurd cc
or_false false b e f = f

are_both : (ks bs : Fields) → AreJoined ks → AreJoined bs → Apart ks bs → AreJoined (joined ks bs)
are_both no_fields bs p q h = q
are_both (field n x ks) bs p q h = (has_joined ks bs n ∙ or_false (has ks n) (has bs n) p.0 h.0, p.1, p.2, are_both ks bs p.3 q h.1)

new_less_by : (c : Bool) (n m : Utf8) (w : Form) (rest : Fields) → (c ≡ false → bytes_eq n m ≡ false) → has rest m ≡ false → has (cond c rest (field n w rest)) m ≡ false
new_less_by true n m w rest t e = e
new_less_by false n m w rest t e = or_false _ _ (t refl) e

parts_false : (a b : Bool) → (a || b) ≡ false → (a ≡ false) × (b ≡ false)
parts_false true b e = absurd cc
parts_false false b e = (refl, e)

new_less : (fs ks : Fields) (m : Utf8) → has ks m ≡ false → has (new_fields fs ks) m ≡ false
new_less fs no_fields m e = refl
new_less fs (field n y ks) m e = let d = parts_false (bytes_eq n m) (has ks m) e in new_less_by (has fs n) n m (opt y) (new_fields fs ks) (λ c. d.0) (new_less fs ks m d.1)

unlike_name : (fs : Fields) (n m : Utf8) (b : Bool) → bytes_eq n m ≡ b → has fs m ≡ true → has fs n ≡ false → b ≡ false
unlike_name fs n m true e h k = absurd (let same : true ≡ false = sym h ∙ ap (has fs) (sym (name_is n m e)) ∙ k in cc)
unlike_name fs n m false e h k = refl

new_lacks : (fs ks : Fields) (m : Utf8) → has fs m ≡ true → has (new_fields fs ks) m ≡ false
new_lacks fs no_fields m h = refl
new_lacks fs (field n y ks) m h = new_less_by (has fs n) n m (opt y) (new_fields fs ks) (λ c. unlike_name fs n m (bytes_eq n m) refl h c) (new_lacks fs ks m h)

new_by : (c : Bool) (n : Utf8) (w : Form) (rest : Fields) → has rest n ≡ false → is_nothing w ≡ false → IsJoined w → AreJoined rest → AreJoined (cond c rest (field n w rest))
new_by true n w rest h s p q = q
new_by false n w rest h s p q = (h, s, p, q)

are_new : (fs ks : Fields) → AreJoined ks → AreJoined (new_fields fs ks)
are_new fs no_fields p = tt
are_new fs (field n y ks) p = new_by (has fs n) n (opt y) (new_fields fs ks) (new_less fs ks n p.0) (opt_solid y) (opt_joined y p.2 p.1) (are_new fs ks p.3)

apart : (ks fs gs bs : Fields) → ((m : Utf8) → has ks m ≡ true → has bs m ≡ false) → Apart (join_fields ks gs) bs
apart no_fields fs gs bs t = tt
apart (field n x ks) fs gs bs t = (t n (or_left _ _ (same n)), apart ks fs gs bs (λ m h. t m (or_right _ _ h)))
  where
    same : (n : Utf8) → bytes_eq n n ≡ true
    same n = bytes_eq-refl n

field_solid : (x : Form) (o : Option Form) → is_nothing x ≡ false → is_nothing (join_at (join x) x o) ≡ false
field_solid x None n = opt_solid x
field_solid x (Some y) n = solid_left x y n

field_joined : (x : Form) (o : Option Form) → IsJoined x → is_nothing x ≡ false → ((y : Form) → o ≡ Some y → IsJoined (join x y)) → IsJoined (join_at (join x) x o)
field_joined x None p n t = opt_joined x p n
field_joined x (Some y) p n t = t y refl

mutual
  pub join_joined : (a b : Form) → IsJoined a → IsJoined b → IsJoined (join a b)
  join_joined (optional x) (optional y) p q = opt_joined (join x y) (join_joined x y p.2 q.2) (solid_left x y p.1)
  join_joined (optional x) b p q = cond_joined (is_nothing b || is_unit b) (optional x) (opt (join x b)) p (opt_joined (join x b) (join_joined x b p.2 q) (solid_left x b p.1))
  join_joined a (optional y) p q = cond_joined (is_nothing a || is_unit a) (optional y) (opt (join a y)) q (opt_joined (join a y) (join_joined a y p q.2) (solid_right a y q.1))
  join_joined (leaf l) (leaf m) p q =
      cond_joined (within m l) (leaf l) (cond (within l m) (leaf m) (join_unlike (leaf l) (leaf m))) tt
      (cond_joined (within l m) (leaf m) (join_unlike (leaf l) (leaf m)) tt (unlike_joined (leaf l) (leaf m) tt tt tt tt))
  join_joined (sequence x) (sequence y) p q = join_joined x y p q
  join_joined (structure dropped n fs) (structure dropped m gs) p q =
      (refl, are_both (join_fields fs gs) (new_fields fs gs) (are_join fs gs p.1 q.1) (are_new fs gs q.1) (apart fs fs gs (new_fields fs gs) (λ m h. new_lacks fs gs m h)))
  join_joined a b p q = unlike_joined a b tt tt p q

  are_join : (ks gs : Fields) → AreJoined ks → AreJoined gs → AreJoined (join_fields ks gs)
  are_join no_fields gs p q = tt
  are_join (field n x ks) gs p q =
      (has_join ks gs n ∙ p.0, field_solid x (form_of gs n) p.1, field_joined x (form_of gs n) p.2 p.1 (λ y e. join_joined x y p.2 (joined_at gs n y q e)), are_join ks gs p.3 q)
