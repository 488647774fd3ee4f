-- The pairs that were met, by the numbers of their parts.
use Rattle.std.proofs.Common.{◌≡◌, ◌<◌, Bool, true, false, cond, not, List, [], ◌∷◌, length, refl, ap, sym, subst, ◌∙◌, ◌⊎◌, inl, inr, arith}
use Rattle.std.specs.BTreeMap.{is_at}
use Rattle.std.specs.BTreeSet.{BTreeSet, contains, IsEmpty}
use Rattle.std.specs.List.{list_any}
use Rattle.std.specs.Ordering.{is_eq, nat_cmp}
use Rattle.bson_evolve_laws.specs.First.{is_met, Pair}
use Rattle.bson_evolve_laws.specs.Placed.{Placed}
use Rattle.bson_evolve_laws.proofs.Searched.{In, met_in, in_met}
use Rattle.bson_evolve_check.specs.Meeting.{PairKey, pair_cmp, AreNumbered, Holds, IsMeeting, IsPairKey}
use Rattle.bson_evolve_check.specs.Placing.{AreDifferent, IsAt, IsMore}
use Rattle.bson_evolve_check.proofs.Found.{same_bool}
use Rattle.bson_evolve_check.proofs.Numbers.{both_then, number_same, same_number, then_both}
use Rattle.bson_evolve_check.proofs.Placings.{at_before, at_more, at_one, at_within, many_more}

module _ (parts : List Placed) (d : AreDifferent parts) where
  key_parts : (k l : PairKey) → is_eq (pair_cmp k l) ≡ true → (k.0 ≡ l.0) × (k.1 ≡ l.1)
  key_parts k l e = let r = then_both (nat_cmp k.0 l.0) (nat_cmp k.1 l.1) e in (same_number k.0 l.0 r.0, same_number k.1 l.1 r.1)

  key_pair : (k l : PairKey) (p q : Pair) → IsPairKey parts k p → IsPairKey parts l q → is_eq (pair_cmp k l) ≡ true → p ≡ q
  key_pair k l p q a b e =
      let r = key_parts k l e in
      let old : p.old ≡ q.old = at_one parts l.0 p.old q.old (subst (λ n. IsAt parts n p.old) r.0 a.old) b.old in
      let new : p.new ≡ q.new = at_one parts l.1 p.new q.new (subst (λ n. IsAt parts n p.new) r.1 a.new) b.new in
      λ i. record { old = old i; new = new i }

  pair_key : (k l : PairKey) (p q : Pair) → IsPairKey parts k p → IsPairKey parts l q → p ≡ q → is_eq (pair_cmp k l) ≡ true
  pair_key k l p q a b e =
      let c : IsPairKey parts k q = subst (IsPairKey parts k) e a in
      both_then (nat_cmp k.0 l.0) (nat_cmp k.1 l.1) (number_same k.0 l.0 (d k.0 l.0 q.old c.old b.old)) (number_same k.1 l.1 (d k.1 l.1 q.new c.new b.new))

  -- ---- one more pair

  module _ (met more : BTreeSet PairKey) (pairs : List Pair) (h : Holds parts met pairs) (k : PairKey) (p : Pair) (key : IsPairKey parts k p)
      (updates : (l : PairKey) → contains pair_cmp more l ≡ cond (is_eq (pair_cmp k l)) true (contains pair_cmp met l)) where
    either : (l : PairKey) → contains pair_cmp more l ≡ true → (is_eq (pair_cmp k l) ≡ true) ⊎ (contains pair_cmp met l ≡ true)
    either l e = by_case (is_eq (pair_cmp k l)) refl (sym (updates l) ∙ e) where
      by_case : (b : Bool) → is_eq (pair_cmp k l) ≡ b → cond b true (contains pair_cmp met l) ≡ true → (is_eq (pair_cmp k l) ≡ true) ⊎ (contains pair_cmp met l ≡ true)
      by_case true is q = inl is
      by_case false is q = inr q

    by_key : (l : PairKey) → is_eq (pair_cmp k l) ≡ true → contains pair_cmp more l ≡ true
    by_key l e = updates l ∙ ap (λ b. cond b true (contains pair_cmp met l)) e

    cond_true : (b c : Bool) → c ≡ true → cond b true c ≡ true
    cond_true true c e = refl
    cond_true false c e = e

    by_old : (l : PairKey) → contains pair_cmp met l ≡ true → contains pair_cmp more l ≡ true
    by_old l e = updates l ∙ cond_true (is_eq (pair_cmp k l)) (contains pair_cmp met l) e

    known_more : (l : PairKey) → contains pair_cmp more l ≡ true → (l.0 < length parts) × (l.1 < length parts)
    known_more l e = by_either (either l e) where
      by_either : (is_eq (pair_cmp k l) ≡ true) ⊎ (contains pair_cmp met l ≡ true) → (l.0 < length parts) × (l.1 < length parts)
      by_either (inl q) =
          let r = key_parts k l q in
          (subst (λ n. n < length parts) r.0 (at_within parts k.0 p.old key.old), subst (λ n. n < length parts) r.1 (at_within parts k.1 p.new key.new))
      by_either (inr q) = h.known l q

    pub holds_new : Holds parts more (p ∷ pairs)
    holds_new = record {
      numbered = λ q e. by_in q (met_in (p ∷ pairs) q e);
      known = known_more;
      is = λ l q c. same_bool (contains pair_cmp more l) (is_met (p ∷ pairs) q) (λ e. here l q c (either l e)) (λ e. there l q c (met_in (p ∷ pairs) q e));
    } where
      by_in : (q : Pair) → In q (p ∷ pairs) → AreNumbered parts q
      by_in q (inl e) = subst (AreNumbered parts) (sym e) (record { old = (k.0, key.old); new = (k.1, key.new) })
      by_in q (inr i) = h.numbered q (in_met pairs q i)

      here : (l : PairKey) (q : Pair) → IsPairKey parts l q → (is_eq (pair_cmp k l) ≡ true) ⊎ (contains pair_cmp met l ≡ true) → is_met (p ∷ pairs) q ≡ true
      here l q c (inl e) = in_met (p ∷ pairs) q (inl (sym (key_pair k l p q key c e)))
      here l q c (inr e) = in_met (p ∷ pairs) q (inr (met_in pairs q (sym (h.is l q c) ∙ e)))

      there : (l : PairKey) (q : Pair) → IsPairKey parts l q → In q (p ∷ pairs) → contains pair_cmp more l ≡ true
      there l q c (inl e) = by_key l (pair_key k l p q key c (sym e))
      there l q c (inr i) = by_old l (h.is l q c ∙ in_met pairs q i)

    pub holds_old : is_met pairs p ≡ true → Holds parts more pairs
    holds_old met_already = record {
      numbered = h.numbered;
      known = known_more;
      is = λ l q c. same_bool (contains pair_cmp more l) (is_met pairs q) (λ e. here l q c (either l e)) (λ e. by_old l (h.is l q c ∙ e));
    } where
      here : (l : PairKey) (q : Pair) → IsPairKey parts l q → (is_eq (pair_cmp k l) ≡ true) ⊎ (contains pair_cmp met l ≡ true) → is_met pairs q ≡ true
      here l q c (inl e) = subst (λ z. is_met pairs z ≡ true) (key_pair k l p q key c e) met_already
      here l q c (inr e) = sym (h.is l q c) ∙ e

    pub meeting : (added : Bool) → added ≡ not (contains pair_cmp met k) → IsMeeting parts more pairs p added
    meeting added e = by_case added (contains pair_cmp met k) e (h.is k p key) where
      by_case : (a b : Bool) → a ≡ not b → b ≡ is_met pairs p → IsMeeting parts more pairs p a
      by_case true true q is = absurd (let none : true ≡ false = q in cc)
      by_case true false q is = record { test = ap not is; holds = holds_new }
      by_case false true q is = record { test = ap not is; holds = holds_old (sym is) }
      by_case false false q is = absurd (let none : false ≡ true = q in cc)

-- ---- more parts with numbers

module _ (parts more : List Placed) (m : IsMore parts more) where
  key_before : (k : PairKey) (p : Pair) → k.0 < length parts → k.1 < length parts → IsPairKey more k p → IsPairKey parts k p
  key_before k p l n c = record { old = at_before parts more k.0 p.old m l c.old; new = at_before parts more k.1 p.new m n c.new }

  key_back : (k : PairKey) (p : Pair) → AreNumbered parts p → IsPairKey more k p → IsPairKey parts k p
  key_back k p a c =
      let old : a.old.0 ≡ k.0 = m.different a.old.0 k.0 p.old (at_more parts more a.old.0 p.old m a.old.1) c.old in
      let new : a.new.0 ≡ k.1 = m.different a.new.0 k.1 p.new (at_more parts more a.new.0 p.new m a.new.1) c.new in
      record { old = subst (λ n. IsAt parts n p.old) old a.old.1; new = subst (λ n. IsAt parts n p.new) new a.new.1 }

  pub holds_more : (met : BTreeSet PairKey) (pairs : List Pair) → Holds parts met pairs → Holds more met pairs
  holds_more met pairs h = record {
    numbered = λ p e. wider p (h.numbered p e);
    known = λ k e. let r = h.known k e in let l = many_more parts more m in (omega (arith, r.0, l), omega (arith, r.1, l));
    is = λ k p c. same_bool (contains pair_cmp met k) (is_met pairs p) (λ e. let r = h.known k e in sym (h.is k p (key_before k p r.0 r.1 c)) ∙ e) (λ e. h.is k p (key_back k p (h.numbered p e) c) ∙ e);
  } where
    wider : (p : Pair) → AreNumbered parts p → AreNumbered more p
    wider p r = record { old = (r.old.0, at_more parts more r.old.0 p.old m r.old.1); new = (r.new.0, at_more parts more r.new.0 p.new m r.new.1) }

-- no pair was met yet
pub holds_none : (parts : List Placed) (met : BTreeSet PairKey) → ((k : PairKey) → contains pair_cmp met k ≡ false) → Holds parts met []
holds_none parts met none = record {
  numbered = λ p e. absurd (let both : false ≡ true = e in cc);
  known = λ k e. absurd (let both : false ≡ true = sym (none k) ∙ e in cc);
  is = λ k p c. none k;
}

pub contains_none : (met : BTreeSet PairKey) → IsEmpty met → (k : PairKey) → contains pair_cmp met k ≡ false
contains_none met none k = ap (λ ks. list_any (is_at (pair_cmp k)) ks) none
