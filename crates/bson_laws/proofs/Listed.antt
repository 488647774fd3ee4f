-- What a struct is accepted as whose list is known: code with a scope is written as its scope is.
use Rattle.std.proofs.Common.{◌≡◌, ℕ, List, [], Bool, Option, Some, None, refl, ap, sym, ◌∙◌}
use Rattle.bson_kinds.specs.Text.{Utf8}
use Rattle.bson_base.specs.Tree.{Tree}
use Rattle.bson_values.specs.Value.{Value, structure, mode, FieldValues, no_field_values, field_value}
use Rattle.bson_laws.specs.Unwrap.{Part, listed, listed_part, scoped_code}
use Rattle.bson_laws.specs.Spell.{Writing, spell_as, spell_list, spell_part, size_as, size_list, size_part}
use Rattle.bson_laws.proofs.Alike.{AreAlike, Both, SameScope, scopes_alike}
use Rattle.bson_kinds.proofs.Apart.{no_some, some_no}

-- the value itself, and what a function makes of it
abbrev IsMade : {S : Type 0} → (Value → S) → Value → Value → S → Type 0
IsMade f v w s = (w ≡ v) × (s ≡ f v)

module _ (r : Bool) (levels : ℕ) where
  abbrev spelled : Value → Writing Tree
  spelled v = spell_as r v levels

  mutual
    list_spelled : (fs : FieldValues) (xs : List (Part Value)) (ys : List (Part (Writing Tree))) → AreAlike (IsMade spelled) xs ys → AreAlike (IsMade spelled) (listed fs xs) (spell_list r fs levels ys)
    list_spelled no_field_values xs ys h = h
    list_spelled (field_value name v fs) xs ys h = (refl, part_spelled v (listed fs xs) (spell_list r fs levels ys) (list_spelled fs xs ys h))

    part_spelled : (v : Value) (xs : List (Part Value)) (ys : List (Part (Writing Tree))) → AreAlike (IsMade spelled) xs ys → AreAlike (IsMade spelled) (listed_part v xs) (spell_part r v levels (spell_as r v levels) ys)
    part_spelled (structure name fs) xs ys h = list_spelled fs xs ys h
    part_spelled (mode v w) xs ys h = part_spelled w xs ys h
    part_spelled v xs ys h = (refl, (refl, refl), h)

mutual
  list_sized : (r : Bool) (fs : FieldValues) (xs : List (Part Value)) (ys : List (Part ℕ)) → AreAlike (IsMade (size_as r)) xs ys → AreAlike (IsMade (size_as r)) (listed fs xs) (size_list r fs ys)
  list_sized r no_field_values xs ys h = h
  list_sized r (field_value name v fs) xs ys h = (refl, part_sized r v (listed fs xs) (size_list r fs ys) (list_sized r fs xs ys h))

  part_sized : (r : Bool) (v : Value) (xs : List (Part Value)) (ys : List (Part ℕ)) → AreAlike (IsMade (size_as r)) xs ys → AreAlike (IsMade (size_as r)) (listed_part v xs) (size_part r v (size_as r v) ys)
  part_sized r (structure name fs) xs ys h = list_sized r fs xs ys h
  part_sized r (mode v w) xs ys h = part_sized r w xs ys h
  part_sized r v xs ys h = (refl, (refl, refl), h)

-- code and the value that is its scope
scope_made : {S : Type 0} (f : Value → S) (o : Option (Utf8 × Value)) (q : Option (Utf8 × S)) (c : Utf8) (v : Value) → Both (SameScope (IsMade f)) o q → o ≡ Some (c, v) → q ≡ Some (c, f v)
scope_made f (Some p) (Some q) c v h e =
    let same : p ≡ (c, v) = pair_is p (c, v) e in
    λ i. Some ((sym h.0 ∙ ap (λ x. x.0) same) i, (h.1.2.1 ∙ ap f (sym h.1.2.0 ∙ ap (λ x. x.1) same)) i)
  where
    pair_is : (x y : Utf8 × Value) → Some x ≡ Some y → x ≡ y
    pair_is x y e = cc
scope_made f (Some p) None c v h e = absurd h
scope_made f None q c v h e = absurd (no_some e)

none_made : {S : Type 0} (f : Value → S) (o : Option (Utf8 × Value)) (q : Option (Utf8 × S)) → Both (SameScope (IsMade f)) o q → o ≡ None → q ≡ None
none_made f None None h e = refl
none_made f None (Some q) h e = absurd h
none_made f (Some p) q h e = absurd (some_no e)

pub scope_spelled : (r : Bool) (fs : FieldValues) (levels : ℕ) (c : Utf8) (v : Value) → scoped_code (listed fs []) ≡ Some (c, v) → scoped_code (spell_list r fs levels []) ≡ Some (c, spell_as r v levels)
scope_spelled r fs levels c v e =
    scope_made (λ w. spell_as r w levels) (scoped_code (listed fs [])) (scoped_code (spell_list r fs levels [])) c v (scopes_alike (IsMade (λ w. spell_as r w levels)) (listed fs []) (spell_list r fs levels []) (list_spelled r levels fs [] [] tt)) e

pub no_scope_spelled : (r : Bool) (fs : FieldValues) (levels : ℕ) → scoped_code (listed fs []) ≡ None → scoped_code (spell_list r fs levels []) ≡ None
no_scope_spelled r fs levels e =
    none_made (λ w. spell_as r w levels) (scoped_code (listed fs [])) (scoped_code (spell_list r fs levels [])) (scopes_alike (IsMade (λ w. spell_as r w levels)) (listed fs []) (spell_list r fs levels []) (list_spelled r levels fs [] [] tt)) e

pub scope_sized : (r : Bool) (fs : FieldValues) (c : Utf8) (v : Value) → scoped_code (listed fs []) ≡ Some (c, v) → scoped_code (size_list r fs []) ≡ Some (c, size_as r v)
scope_sized r fs c v e = scope_made (size_as r) (scoped_code (listed fs [])) (scoped_code (size_list r fs [])) c v (scopes_alike (IsMade (size_as r)) (listed fs []) (size_list r fs []) (list_sized r fs [] [] tt)) e
