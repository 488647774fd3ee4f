-- `KeyMap` as a type that may hold the type that holds it, by its values. The prover asks for it; nothing here says what anything means.
use mathlib.Core.HLevel.{×_prop}
use mathlib.Core.Path.{◌≡◌, refl, sym, ap, subst, ◌∙◌}
use mathlib.Core.List.{List, [], ◌∷◌, map}
use mathlib.Core.Former.{Former, this, const, pair, list, via, children}
use base.Stored.{code_map, gcons, Coded-set, coded_list, coded_ℕ}
use denote.RattleType.{RattleType}
use denote.HoleLaws.{Alike}
use denote.HolePlaces.{Recodes, struct_places, laid, stays}
use denote.Hole.Carrier.{listed}
use denote.Hole.Fix.{over}
use denote.Param.Weighed.{Weighed, w_list, w_pair, w_const}
use denote.Model.Placed.{view_places}
use Rattle.std.specs.Prelude.{Option, Some, None, string_bytes}
use Rattle.std.specs.formers.vec.Vec as vec
use Rattle.std.specs.List.{IsDistinct, IsDistinct-prop}
use Rattle.std.specs.Str.{bytes_eq}
use Rattle.std.specs.declared.alloc.Global.{Global}
use Rattle.std.specs.contracts.alloc.Global as heap
use Rattle.std.specs.contracts.string.String as string
use Rattle.std.specs.contracts.impls.GlobalAllocator.TheImpl.{ghosts}
use Rattle.bson_kinds.specs.Text.{Utf8}
use Rattle.bson_key_map.specs.Prover.Codes.{key_coded, pair_coded}
use Rattle.bson_key_map.specs.Keys.{Key, key_texts}
use Rattle.bson_key_map.specs.Stored.{IsTableOf}
use Rattle.bson_key_map.specs.declared.key_seed.KeySeed.{KeySeed}
use Rattle.bson_key_map.specs.declared.pair.Pair.{Pair}
use Rattle.bson_key_map.specs.declared.key_map.KeyMap.TheInside.{Inside}
use Rattle.bson_key_map.specs.declared.key_map.KeyMap.TheView.{view, invariant}
use Rattle.bson_key_map.specs.contracts.pair.Pair as P
use Rattle.bson_key_map.specs.contracts.key_map.KeyMap as C
use Rattle.bson_key_map.specs.contracts.key_map.KeyMap.TheInside as I

-- a pair of a key and one of g's values
abbrev pair_former : Former {0} → Former {0}
pair_former g = via (pair (const Key) g) (λ X. Pair (g.Of X)) (λ X p. (p.key, p.value)) (λ X v. record { key = v.0; value = v.1 }) (λ X a. refl) (λ X v. refl)

abbrev on_value : {X Y : Type 0} → (X → Y) → Pair X → Pair Y
on_value h p = record { key = p.key; value = h p.value }

texts_kept : {X Y : Type 0} (h : X → Y) (ps : List (Pair X)) → key_texts (map (on_value h) ps) ≡ key_texts ps
texts_kept h [] = refl
texts_kept h (p ∷ ps) = ap (λ ts. string_bytes p.key ∷ ts) (texts_kept h ps)

-- the invariant is a proposition, and the same along `map`
IsTableOf-prop : {X : Type 0} (t : Option (List Utf8)) (ps : List (Pair X)) → IsProp (IsTableOf t ps)
IsTableOf-prop None ps = λ p q. refl
IsTableOf-prop (Some texts) ps = Coded-set (coded_list (coded_list coded_ℕ)) texts (key_texts ps)

IsTableOf-to : {X Y : Type 0} (h : X → Y) (t : Option (List Utf8)) (ps : List (Pair X)) → IsTableOf t ps → IsTableOf t (map (on_value h) ps)
IsTableOf-to h None ps e = tt
IsTableOf-to h (Some texts) ps e = e ∙ sym (texts_kept h ps)

IsTableOf-from : {X Y : Type 0} (h : X → Y) (t : Option (List Utf8)) (ps : List (Pair X)) → IsTableOf t (map (on_value h) ps) → IsTableOf t ps
IsTableOf-from h None ps e = tt
IsTableOf-from h (Some texts) ps e = e ∙ texts_kept h ps

abbrev pub the_former : Former {0} → Former {0}
the_former g = list (pair_former g)

abbrev pair_weighed : {g : Former {0}} → Weighed g → Weighed (pair_former g)
pair_weighed w = record { weight = λ X μ p. (w_pair (w_const Key) w).weight X μ (p.key, p.value); puts = λ X μ p. (w_pair (w_const Key) w).puts X μ (p.key, p.value) }

abbrev pub the_weighed : {g : Former {0}} → Weighed g → Weighed (the_former g)
the_weighed w = w_list (pair_weighed w)

pub the_empty : List (Pair ⊥)
the_empty = []

abbrev pub the_items : (X : Type 0) → List (Pair X) → List X
the_items X d = map (λ p. p.value) d

pub the_items_listed : (X : Type 0) (d : List (Pair X)) → listed _ (children (the_former this) X d) ≡ the_items X d
the_items_listed X [] = refl
the_items_listed X (p ∷ d) = ap (λ l. p.value ∷ l) (the_items_listed X d)

abbrev fields : Former {0}
fields = via (pair (const KeySeed) (pair (vec.the_former (pair_former this) Global) (const (Option (List Utf8))))) Inside (λ X a. (a.seed, (a.pairs, a.table))) (λ X v. record { seed = v.0; pairs = v.1.0; table = v.1.1 }) (λ X a. refl) (λ X v. refl)

module _ (R S : RattleType) (h : R.Denot → S.Denot) where
  pair_places : Alike R S h → Alike (P.the_row R) (P.the_row S) (on_value h)
  pair_places a = struct_places (P.the_type R) (P.the_type S) ((λ k. k), (h, tt)) _ (λ d. refl) refl (stays (string.the_row heap.the_row ghosts), (laid _ _ _ a, tt))

  pub the_places : Alike R S h → Alike (C.the_row R) (C.the_row S) ((the_former this).map R.Denot S.Denot h)
  the_places a = view_places fields (the_former this) view (λ X Y k u. refl) (λ X u. refl) R.Denot S.Denot h (C.the_row R).coded (C.the_row S).coded
      (invariant R.Denot) (invariant S.Denot)
      (λ u. ×_prop (IsDistinct-prop _ _) (IsTableOf-prop u.table u.pairs.items)) (λ u. ×_prop (IsDistinct-prop _ _) (IsTableOf-prop u.table u.pairs.items))
      (λ u e. (subst (IsDistinct bytes_eq) (sym (texts_kept h u.pairs.items)) e.0, IsTableOf-to h u.table u.pairs.items e.1))
      (λ u e. (subst (IsDistinct bytes_eq) (texts_kept h u.pairs.items) e.0, IsTableOf-from h u.table u.pairs.items e.1))
      (over (I.the_row R)) (over (I.the_row S))
      (struct_places (I.the_type R) (I.the_type S) ((λ s. s), (vec.mapped (on_value h), ((λ t. t), tt))) _ (λ d. refl) refl
      ((refl, (λ n. refl, λ n. refl)), (laid _ _ _ (vec.the_places heap.the_row ghosts (P.the_row R) (P.the_row S) (on_value h) (pair_places a)), ((refl, (λ n. refl, λ n. refl)), tt))))

  pub the_codes_placed : Recodes R S h → Recodes (C.the_row R) (C.the_row S) ((the_former this).map R.Denot S.Denot h)
  the_codes_placed e d = sym (code_map (pair_coded R.coded).code (pair_coded S.coded).code (on_value h) (λ x i. gcons (key_coded.code x.key) (sym (e x.value) i)) d)
