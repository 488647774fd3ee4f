-- A value that is spelled as a tree without keys that begin with `$` has none itself.
use Rattle.std.proofs.Common.{◌≡◌, ℕ, suc, [], Bool, true, false, cond, Option, Some, None, Ok, sym, subst}
use Rattle.std.specs.Str.{bytes_eq}
use Rattle.bson_kinds.specs.Outcome.{◌>>=◌}
use Rattle.bson_kinds.specs.Reserved.{reserved_kind}
use Rattle.bson_base.specs.Tree as tree
use Rattle.bson_base.specs.Tree.{Tree, document, array, Pairs, pair, Trees}
use Rattle.bson_kinds.specs.declared.element_type.ElementType.{ElementType}
use Rattle.bson_kinds.proofs.Outcomes.{bind_ok}
use Rattle.bson_values.specs.Refusal.{at_index, under, under_index}
use Rattle.bson_values.specs.Value as value
use Rattle.bson_values.specs.Value.{Value, Items, Entries, FieldValues, uuid_newtype, readable_inside}
use Rattle.bson_laws.specs.Unwrap.{unwrap, scoped_code}
use Rattle.bson_laws.specs.UuidBytes.{uuid_bytes}
use Rattle.bson_laws.specs.Spell.{Writing, spell_uuid, spell_key, named, enclosed_at, struct_at, reserved_at, spell_as, spell_items_as, spell_entries_as, spell_fields_as, spell_list}
use Rattle.bson_laws.proofs.Sizes.{ok_is, enclosed_ok, variant_ok, inside_ok, under_ok, named_ok, spell_key_ok}
use Rattle.bson_ways_laws.specs.Ways.{HasCommonKeys, PairsHaveCommonKeys, TreesHaveCommonKeys}
use Rattle.bson_ways_laws.proofs.BothWays.{KeyFree, IsFree, ItemsFree, EntriesFree, FieldsFree, UnlessUuid, UnlessReserved}

unless_uuid : (b : Bool) (r q : Writing Tree) (u : Tree) (P : Type 0) → (q ≡ Ok u → P) → cond b r q ≡ Ok u → UnlessUuid b P
unless_uuid true r q u P h e = tt
unless_uuid false r q u P h e = h e

unless_reserved : (o : Option ElementType) (levels : ℕ) (pairs : ℕ → Writing Pairs) (reserved : ElementType → Writing Tree) (u : Tree) (P : Type 0) → ((n : ℕ) (ps : Pairs) → pairs n ≡ Ok ps → document ps ≡ u → P)
    → struct_at o levels pairs reserved ≡ Ok u → UnlessReserved o P
unless_reserved None levels pairs reserved u P h e = let m = enclosed_ok document levels pairs u e in h m.0 m.2.0 m.2.1 m.2.2
unless_reserved (Some k) levels pairs reserved u P h e = tt

mutual
  pub spelled_free : (r : Bool) (v : Value) (levels : ℕ) (u : Tree) → spell_as r v levels ≡ Ok u → HasCommonKeys u → IsFree v
  spelled_free r (value.some v) levels u e c = spelled_free r v levels u e c
  spelled_free r (value.newtype name v) levels u e c =
      unless_uuid (bytes_eq name uuid_newtype) (spell_uuid (uuid_bytes r v)) (spell_as (readable_inside r name) v levels) u (IsFree v) (λ q. spelled_free (readable_inside r name) v levels u q c) e
  spelled_free r (value.newtype_variant name v) levels u e c = let m = variant_ok name levels (spell_as r v) u e in spelled_free r v m.0 m.2.0 m.2.1 (subst HasCommonKeys (sym m.2.2) c).1
  spelled_free r (value.sequence vs) levels u e c = let m = enclosed_ok array levels (spell_items_as r 0 vs) u e in items_free r 0 vs m.0 m.2.0 m.2.1 (subst HasCommonKeys (sym m.2.2) c)
  spelled_free r (value.tuple vs) levels u e c = let m = enclosed_ok array levels (spell_items_as r 0 vs) u e in items_free r 0 vs m.0 m.2.0 m.2.1 (subst HasCommonKeys (sym m.2.2) c)
  spelled_free r (value.tuple_structure name vs) levels u e c = let m = enclosed_ok array levels (spell_items_as r 0 vs) u e in items_free r 0 vs m.0 m.2.0 m.2.1 (subst HasCommonKeys (sym m.2.2) c)
  spelled_free r (value.tuple_variant name vs) levels u e c =
      let w = variant_ok name levels (λ inside. enclosed_at array inside (spell_items_as r 0 vs)) u e in
      let m = enclosed_ok array w.0 (spell_items_as r 0 vs) w.2.0 w.2.1 in
      items_free r 0 vs m.0 m.2.0 m.2.1 (subst HasCommonKeys (sym m.2.2) (subst HasCommonKeys (sym w.2.2) c).1)
  spelled_free r (value.map es) levels u e c = let m = enclosed_ok document levels (spell_entries_as r es) u e in entries_free r es m.0 m.2.0 m.2.1 (subst HasCommonKeys (sym m.2.2) c)
  spelled_free r (value.structure name fs) levels u e c =
      unless_reserved (reserved_kind name) levels (spell_fields_as r fs) (λ k. reserved_at k (unwrap k fs) (scoped_code (spell_list r fs levels []))) u (FieldsFree fs)
      (λ n ps q is. fields_free r fs n ps q (subst HasCommonKeys (sym is) c)) e
  spelled_free r (value.structure_variant name fs) levels u e c =
      let w = variant_ok name levels (λ inside. enclosed_at document inside (spell_fields_as r fs)) u e in
      let m = enclosed_ok document w.0 (spell_fields_as r fs) w.2.0 w.2.1 in
      fields_free r fs m.0 m.2.0 m.2.1 (subst HasCommonKeys (sym m.2.2) (subst HasCommonKeys (sym w.2.2) c).1)
  spelled_free r v levels u e c = tt

  items_free : (r : Bool) (i : ℕ) (vs : Items) (levels : ℕ) (ts : Trees) → spell_items_as r i vs levels ≡ Ok ts → TreesHaveCommonKeys ts → ItemsFree vs
  items_free r i value.no_items levels ts e c = tt
  items_free r i (value.item v vs) levels ts e c =
      let b = bind_ok (under_index i (spell_as r v levels)) (λ t. spell_items_as r (suc i) vs levels >>= λ us. Ok (tree.tree t us)) ts e in
      let d = bind_ok (spell_items_as r (suc i) vs levels) (λ us. Ok (tree.tree b.0 us)) ts b.2 in
      let free : TreesHaveCommonKeys (tree.tree b.0 d.0) = subst TreesHaveCommonKeys (sym (ok_is (tree.tree b.0 d.0) ts d.2)) c in
      (spelled_free r v levels b.0 (inside_ok (at_index i) (spell_as r v levels) b.0 b.1) free.0, items_free r (suc i) vs levels d.0 d.1 free.1)

  entries_free : (r : Bool) (es : Entries) (levels : ℕ) (ps : Pairs) → spell_entries_as r es levels ≡ Ok ps → PairsHaveCommonKeys ps → EntriesFree es
  entries_free r value.no_entries levels ps e c = tt
  entries_free r (value.entry k v es) levels ps e c =
      let x = bind_ok (spell_key k) (λ key. under key (spell_as r v levels) >>= λ t. spell_entries_as r es levels >>= λ qs. Ok (pair key t qs)) ps e in
      let b = bind_ok (under x.0 (spell_as r v levels)) (λ t. spell_entries_as r es levels >>= λ qs. Ok (pair x.0 t qs)) ps x.2 in
      let d = bind_ok (spell_entries_as r es levels) (λ qs. Ok (pair x.0 b.0 qs)) ps b.2 in
      let free : PairsHaveCommonKeys (pair x.0 b.0 d.0) = subst PairsHaveCommonKeys (sym (ok_is (pair x.0 b.0 d.0) ps d.2)) c in
      (subst KeyFree (sym (spell_key_ok k x.0 x.1).0) free.0, spelled_free r v levels b.0 (under_ok x.0 (spell_as r v levels) b.0 b.1) free.1, entries_free r es levels d.0 d.1 free.2)

  fields_free : (r : Bool) (fs : FieldValues) (levels : ℕ) (ps : Pairs) → spell_fields_as r fs levels ≡ Ok ps → PairsHaveCommonKeys ps → FieldsFree fs
  fields_free r value.no_field_values levels ps e c = tt
  fields_free r (value.field_value name v fs) levels ps e c =
      let a = bind_ok (named name (spell_as r v levels)) (λ t. spell_fields_as r fs levels >>= λ qs. Ok (pair name t qs)) ps e in
      let b = bind_ok (spell_fields_as r fs levels) (λ qs. Ok (pair name a.0 qs)) ps a.2 in
      let free : PairsHaveCommonKeys (pair name a.0 b.0) = subst PairsHaveCommonKeys (sym (ok_is (pair name a.0 b.0) ps b.2)) c in
      (spelled_free r v levels a.0 (named_ok name (spell_as r v levels) a.0 a.1).1 free.1, fields_free r fs levels b.0 b.1 free.2)
