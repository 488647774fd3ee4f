-- The keys of a document that were met, one by one.
use Rattle.std.proofs.Common.{◌≡◌, ℕ, eqb, ◌≤◌, [], ◌∷◌, ◌++◌, List, length, map, true, Bor, inl, inr, refl, ap, sym, subst, ◌∙◌, arith}
use Rattle.std.specs.List.{IsDistinct}
use Rattle.std.specs.Map.Iter.{deref}
use Rattle.std.specs.Str.{bytes_eq}
use Rattle.std.proofs.lemmas.Bool.{eqb-true}
use Rattle.std.proofs.lemmas.List.{map-append, length-append}
use Rattle.bson_kinds.specs.Text.{Utf8}
use Rattle.bson_keys.specs.Met.{HasKeys}
use Rattle.bson_keys.specs.New.{is_new}
use Rattle.bson_keys.specs.declared.met.MetKeys.{MetKeys}
use Rattle.bson_keys.proofs.Distinct.{distinct_more, distinct_none}

pub no_items : {A : Type 0} (xs : List A) (len : ℕ) → length xs ≡ len → true ≡ eqb len 0 → xs ≡ []
no_items [] len is e = refl
no_items (x ∷ xs) len is e = absurd (omega (arith, eqb-true len 0 (sym e), is))

pub none_met : (m : MetKeys) → m.many.items ≡ [] → m.few.items ≡ [] → HasKeys m []
none_met m none few = inl (record { none = none; few = ap (map deref) few; different = distinct_none })

-- a key that none of the few is
pub few_more : (m n : MetKeys) (key : Bor Utf8) → n.many.items ≡ [] → m.many.items ≡ [] → n.few.items ≡ m.few.items ++ key ∷ [] → is_new key.now (map deref m.few.items) ≡ true
    → (keys : List Utf8) → HasKeys m keys → HasKeys n (keys ++ key.now ∷ [])
few_more m n key none empty more new keys (inl f) =
    inl
    (record {
      none = none;
      few = ap (map deref) more ∙ map-append deref m.few.items (key ∷ []) ∙ ap (λ ks. ks ++ key.now ∷ []) f.few;
      different = distinct_more keys key.now (subst (λ ks. is_new key.now ks ≡ true) f.few new) f.different;
    })
few_more m n key none empty more new keys (inr h) = absurd (omega (arith, h.some, ap length empty))

-- a key behind these
abbrev many_more : (n : MetKeys) (before : List (Bor Utf8)) (key : Bor Utf8) (keys : List Utf8) → n.many.items ≡ before ++ key ∷ [] → map deref before ≡ keys → HasKeys n (keys ++ key.now ∷ [])
many_more n before key keys more all =
    inr
    (record {
      some = omega (arith, ap length more, length-append before (key ∷ []));
      all = ap (map deref) more ∙ map-append deref before (key ∷ []) ∙ ap (λ ks. ks ++ key.now ∷ []) all;
    })

-- a key behind the few, and behind many
pub few_kept : (m n : MetKeys) (key : Bor Utf8) → m.many.items ≡ [] → n.many.items ≡ m.few.items ++ key ∷ [] → (keys : List Utf8) → HasKeys m keys → HasKeys n (keys ++ key.now ∷ [])
few_kept m n key empty more keys (inl f) = many_more n m.few.items key keys more f.few
few_kept m n key empty more keys (inr h) = absurd (omega (arith, h.some, ap length empty))

pub many_kept : (m n : MetKeys) (key : Bor Utf8) → 1 ≤ length m.many.items → n.many.items ≡ m.many.items ++ key ∷ [] → (keys : List Utf8) → HasKeys m keys → HasKeys n (keys ++ key.now ∷ [])
many_kept m n key some more keys (inl f) = absurd (omega (arith, some, ap length f.none))
many_kept m n key some more keys (inr h) = many_more n m.many.items key keys more h.all

-- they are different
pub different_few : (m : MetKeys) → m.many.items ≡ [] → (keys : List Utf8) → HasKeys m keys → IsDistinct bytes_eq keys
different_few m empty keys (inl f) = f.different
different_few m empty keys (inr h) = absurd (omega (arith, h.some, ap length empty))

pub different_many : (m : MetKeys) → IsDistinct bytes_eq (map deref m.many.items) → (keys : List Utf8) → HasKeys m keys → IsDistinct bytes_eq keys
different_many m different keys (inl f) = f.different
different_many m different keys (inr h) = subst (IsDistinct bytes_eq) h.all different
