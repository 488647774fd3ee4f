-- Values of structs, sequences, integers, booleans and strings: what is made into a tree that has bytes is spelled as it, and the other way round.
use Rattle.std.proofs.Common.{◌≡◌, ℕ, ℤ, suc, Bool, true, false, cond, Option, Some, None, Ok, Err, refl, ap, sym, subst, ◌∙◌}
use Rattle.std.specs.Prelude.{◌||◌, is_some}
use Rattle.std.specs.Str.{bytes_eq}
use Rattle.bson_base.specs.Encoded.{EncodeFault, key_zero, zero_fault, encode_fault, pairs_encode_fault, trees_encode_fault}
use Rattle.bson_kinds.specs.Outcome.{◌>>=◌, result_map, or_else}
use Rattle.bson_base.specs.Pairs.{put}
use Rattle.bson_kinds.specs.Reserved.{reserved_kind}
use Rattle.bson_base.specs.Sound.{Lacks}
use Rattle.bson_kinds.specs.Text.{Utf8, has_zero}
use Rattle.bson_base.specs.Tree as tree
use Rattle.bson_base.specs.Tree.{Tree, document, array, Pairs, no_pairs, pair, Trees, no_trees}
use Rattle.bson_kinds.specs.declared.element_type.ElementType.{ElementType}
use Rattle.bson_kinds.specs.declared.element_type.ElementType.TheVariants.{Int32}
use Rattle.bson_kinds.proofs.Outcomes.{bind_ok}
use Rattle.bson_rawdoc.specs.Node.{Sight}
use Rattle.bson_tree_laws.proofs.Wraps.{kept}
use Rattle.bson_shape.specs.Form.{Form, leaf, sequence, structure, reference, definitions, Fields, no_fields, field}
use Rattle.bson_shape.specs.Makers.{has_name, field_names, repeats}
use Rattle.bson_values.specs.Refusal.{here, invalid_cstring, at_index, under, under_index}
use Rattle.bson_values.specs.Value as value
use Rattle.bson_values.specs.Value.{Value, Items, FieldValues, written_as}
use Rattle.bson_laws.specs.Leaves.{LeafKind, booleans, numbers, texts, leaf_kind}
use Rattle.bson_laws.specs.Spell.{spell_number, named, enclosed_at, spell, spell_items, spell_fields}
use Rattle.bson_laws.proofs.Free.{free_struct}
use Rattle.bson_laws.proofs.Given.{IsGivenLeaf, IsGiven, ItemsGiven, FieldsGiven, given_leaf, given_body}
use Rattle.bson_laws.proofs.Judged.{IsNotRaw}
use Rattle.bson_laws.proofs.ShapeForms.{IsShape, AreShapes}
use Rattle.bson_laws.proofs.Sizes.{ok_is, enclosed_ok, inside_ok, under_ok, named_ok}
use Rattle.bson_tree_laws.specs.Alike.{HasFreeKeys, PairsHaveFreeKeys, TreesHaveFreeKeys}
use Rattle.bson_base.specs.Folded.{fold}
use Rattle.bson_tree_laws.specs.TreeSpell.{tree_struct, tree_spell, tree_items, tree_fields}
use Rattle.bson_ways_laws.specs.Ways.{IsCommon, HasCommonKeys, PairsHaveCommonKeys, TreesHaveCommonKeys}
use Rattle.bson_tree_laws.proofs.Puts.{put_all, put_free, fold_free}
use Rattle.bson_ways_laws.proofs.GivenAlike.{number_free}
use Rattle.bson_ways_laws.specs.Simple.{IsSimpleLeaf, IsSimple, AreSimple}

-- a tree has bytes
abbrev pub HasNoFault : Tree → Type 0
HasNoFault u = encode_fault u ≡ None

abbrev PairsHaveNoFault : Pairs → Type 0
PairsHaveNoFault ps = pairs_encode_fault ps ≡ None

abbrev TreesHaveNoFault : Trees → Type 0
TreesHaveNoFault ts = trees_encode_fault ts ≡ None

-- what is made into a tree has free keys, and is spelled as the tree where that has bytes
abbrev Back : ℕ → Value → Tree → Type 0
Back levels v u = HasFreeKeys u × (HasNoFault u → spell v levels ≡ Ok u)

abbrev ItemsBack : ℕ → ℕ → Items → Trees → Type 0
ItemsBack i levels vs ts = TreesHaveFreeKeys ts × (TreesHaveNoFault ts → spell_items i vs levels ≡ Ok ts)

-- the pairs that the fields put after those before them
abbrev FieldsBack : ℕ → FieldValues → Fields → Pairs → Pairs → Type 0
FieldsBack levels vs fs done ps =
    (qs : Pairs) × (put_all qs done ≡ ps) × PairsHaveFreeKeys qs × ((name : Utf8) → has_name name (field_names fs) ≡ false → Lacks name qs) × (PairsHaveNoFault qs → spell_fields vs levels ≡ Ok qs)

-- ---- faults of parts

neither_fault : (o p : Option EncodeFault) → or_else o p ≡ None → (o ≡ None) × (p ≡ None)
neither_fault None p e = (refl, e)
neither_fault (Some f) p e = absurd cc

first_whole : (o p : Option EncodeFault) → o ≡ None → p ≡ None → or_else o p ≡ None
first_whole None p e f = f
first_whole (Some x) p e f = absurd cc

zero_none : (k : Utf8) (b : Bool) → cond b (Some (key_zero k)) None ≡ None → b ≡ false
zero_none k true e = absurd cc
zero_none k false e = refl

pair_parts : (k : Utf8) (t : Tree) (ps : Pairs) → PairsHaveNoFault (pair k t ps) → (has_zero k ≡ false) × HasNoFault t × PairsHaveNoFault ps
pair_parts k t ps e =
    let first = neither_fault (zero_fault k) (or_else (encode_fault t) (pairs_encode_fault ps)) e in
    let rest = neither_fault (encode_fault t) (pairs_encode_fault ps) first.1 in
    (zero_none k (has_zero k) first.0, rest.0, rest.1)

pair_whole : (k : Utf8) (t : Tree) (ps : Pairs) → has_zero k ≡ false → HasNoFault t → PairsHaveNoFault ps → PairsHaveNoFault (pair k t ps)
pair_whole k t ps z e f =
    first_whole (zero_fault k) (or_else (encode_fault t) (pairs_encode_fault ps)) (ap (λ b. cond b (Some (key_zero k)) None) z) (first_whole (encode_fault t) (pairs_encode_fault ps) e f)

-- ---- what is made into a tree

neither : (a b : Bool) → (a || b) ≡ false → (a ≡ false) × (b ≡ false)
neither true b e = absurd cc
neither false b e = (refl, e)

leaf_back : (k : LeafKind) → IsSimpleLeaf k → (v : Value) → IsGivenLeaf k v → (levels : ℕ) (u : Tree) → tree_spell false false v levels ≡ Ok u → Back levels v u
leaf_back booleans c (value.boolean b) g levels u e = (subst HasFreeKeys (ok_is (tree.boolean b) u e) tt, λ _. e)
leaf_back (numbers type) c (value.integer t n) g levels u e = (number_free (written_as t) n u e, λ _. e)
leaf_back texts c (value.str t) g levels u e = (subst HasFreeKeys (ok_is (tree.string t) u e) tt, λ _. e)
leaf_back booleans c v g levels u e = absurd g
leaf_back (numbers type) c v g levels u e = absurd g
leaf_back texts c v g levels u e = absurd g
leaf_back k c v g levels u e = absurd c

mutual
  pub back : (at : Sight) (v : Value) (s : Form) → IsShape s → IsSimple s → IsGiven at v s → (levels : ℕ) (u : Tree) → tree_spell false false v levels ≡ Ok u → Back levels v u
  back at v (leaf l) p c g levels u e = leaf_back (leaf_kind l) c.0 v (given_leaf at v l g).0 levels u e
  back at v (definitions t s) p c g levels u e = back at v s p c.1 (given_body at v t s g) levels u e
  back at (value.sequence vs) (sequence s) p c g levels u e =
      let m = enclosed_ok array levels (tree_items false 0 vs) u e in
      let b = items_back at 0 vs s p c g m.0 m.2.0 m.2.1 in
      (subst HasFreeKeys m.2.2 b.0, λ z. ap (λ n. enclosed_at array n (spell_items 0 vs)) m.1 ∙ ap (result_map array) (b.1 (subst HasNoFault (sym m.2.2) z)) ∙ ap Ok m.2.2)
  back at (value.structure m vs) (structure w n fs) p c g levels u e =
      let none = ap reserved_kind g.0 ∙ p.0.free in
      let e' : enclosed_at fold levels (tree_fields false false vs no_pairs) ≡ Ok u = ap (λ o. tree_struct (false || is_some o) levels (tree_fields false (false || is_some o) vs no_pairs)) (sym none) ∙ e in
      let q = enclosed_ok fold levels (tree_fields false false vs no_pairs) u e' in
      let b = fields_back at vs fs p.0.distinct p.1 c.1 g.1 q.0 no_pairs q.2.0 q.2.1 in
      let is : document b.0 ≡ u = sym (fold_free b.0 b.2) ∙ ap fold (sym (put_free b.0 b.2) ∙ b.1) ∙ q.2.2 in
      (subst HasFreeKeys is b.2, λ z. free_struct m vs levels none ∙ ap (λ k. enclosed_at document k (spell_fields vs)) q.1 ∙ ap (result_map document) (b.4 (subst HasNoFault (sym is) z)) ∙ ap Ok is)
  back at (value.sequence vs) (structure w n fs) p c g levels u e = absurd g
  back at (value.structure m vs) (sequence s) p c g levels u e = absurd g
  back at v (sequence s) p c g levels u e = absurd g
  back at v (structure w n fs) p c g levels u e = absurd g
  back at v (reference name) p c g levels u e = absurd g
  back at v s p c g levels u e = absurd c

  items_back : (at : Sight) (i : ℕ) (vs : Items) (s : Form) → IsShape s → IsSimple s → ItemsGiven at vs s → (levels : ℕ) (ts : Trees) → tree_items false i vs levels ≡ Ok ts → ItemsBack i levels vs ts
  items_back at i value.no_items s p c g levels ts e = (subst TreesHaveFreeKeys (ok_is no_trees ts e) tt, λ _. e)
  items_back at i (value.item v vs) s p c g levels ts e =
      let a = bind_ok (under_index i (tree_spell false false v levels)) (λ t. tree_items false (suc i) vs levels >>= λ us. Ok (tree.tree t us)) ts e in
      let b = bind_ok (tree_items false (suc i) vs levels) (λ us. Ok (tree.tree a.0 us)) ts a.2 in
      let is = ok_is (tree.tree a.0 b.0) ts b.2 in
      let first = back at v s p c g.0 levels a.0 (inside_ok (at_index i) (tree_spell false false v levels) a.0 a.1) in
      let rest = items_back at (suc i) vs s p c g.1 levels b.0 b.1 in (
        subst TreesHaveFreeKeys is (first.0, rest.0),
        λ z.
            let y = neither_fault (encode_fault a.0) (trees_encode_fault b.0) (subst TreesHaveNoFault (sym is) z) in
            ap (λ r. under_index i r >>= λ t. spell_items (suc i) vs levels >>= λ us. Ok (tree.tree t us)) (first.1 y.0) ∙ ap (λ r. r >>= λ us. Ok (tree.tree a.0 us)) (rest.1 y.1) ∙ ap Ok is,
      )

  fields_back : (at : Sight) (vs : FieldValues) (fs : Fields) → repeats fs ≡ false → AreShapes fs → AreSimple fs → FieldsGiven at vs fs → (levels : ℕ) (done ps : Pairs) → tree_fields false false vs done levels ≡ Ok ps → FieldsBack levels vs fs done ps
  fields_back at value.no_field_values no_fields d p c g levels done ps e = (no_pairs, ok_is done ps e, tt, λ name n. tt, λ _. refl)
  fields_back at (value.field_value m v vs) (field n s fs) d p c g levels done ps e =
      let a = bind_ok (under m (tree_spell false false v levels)) (λ t. tree_fields false false vs (put m t done) levels) ps e in
      let x = neither (has_name n (field_names fs)) (repeats fs) d in
      let first = back at v s p.1 c.1 g.1 levels a.0 (under_ok m (tree_spell false false v levels) a.0 a.1) in
      let rest = fields_back at vs fs x.1 p.2 c.2 g.2 levels (put m a.0 done) ps a.2 in (
        pair m a.0 rest.0,
        rest.1,
        (subst IsCommon (sym g.0) c.0, rest.3 m (ap (λ y. has_name y (field_names fs)) g.0 ∙ x.0), first.0, rest.2),
        λ name h. let y = neither (bytes_eq name n) (has_name name (field_names fs)) h in (ap (bytes_eq name) g.0 ∙ y.0, rest.3 name y.1),
        λ z.
            let w = pair_parts m a.0 rest.0 z in
            ap (λ b. cond b (Err (here (invalid_cstring m))) (under m (spell v levels)) >>= λ t. spell_fields vs levels >>= λ qs. Ok (pair m t qs)) w.0
            ∙ ap (λ r. under m r >>= λ t. spell_fields vs levels >>= λ qs. Ok (pair m t qs)) (first.1 w.1)
            ∙ ap (λ r. r >>= λ qs. Ok (pair m a.0 qs)) (rest.4 w.2),
      )
  fields_back at vs fs d p c g levels done ps e = absurd g

-- ---- what is spelled has common keys, and bytes, and is not given by its bytes

abbrev Forth : Tree → Type 0
Forth u = HasCommonKeys u × HasNoFault u × IsNotRaw u

number_forth : (k : ElementType) (n : ℤ) (u : Tree) → spell_number k n ≡ Ok u → Forth u
number_forth Int32 n u e = subst Forth (ok_is (tree.int32 n) u e) (tt, refl, tt)
number_forth k n u e = subst Forth (kept _ _ (tree.int64 n) u e) (tt, refl, tt)

leaf_forth : (k : LeafKind) → IsSimpleLeaf k → (v : Value) → IsGivenLeaf k v → (levels : ℕ) (u : Tree) → spell v levels ≡ Ok u → Forth u
leaf_forth booleans c (value.boolean b) g levels u e = subst Forth (ok_is (tree.boolean b) u e) (tt, refl, tt)
leaf_forth (numbers type) c (value.integer t n) g levels u e = number_forth (written_as t) n u e
leaf_forth texts c (value.str t) g levels u e = subst Forth (ok_is (tree.string t) u e) (tt, refl, tt)
leaf_forth booleans c v g levels u e = absurd g
leaf_forth (numbers type) c v g levels u e = absurd g
leaf_forth texts c v g levels u e = absurd g
leaf_forth k c v g levels u e = absurd c

mutual
  pub forth : (at : Sight) (v : Value) (s : Form) → IsShape s → IsSimple s → IsGiven at v s → (levels : ℕ) (u : Tree) → spell v levels ≡ Ok u → Forth u
  forth at v (leaf l) p c g levels u e = leaf_forth (leaf_kind l) c.0 v (given_leaf at v l g).0 levels u e
  forth at v (definitions t s) p c g levels u e = forth at v s p c.1 (given_body at v t s g) levels u e
  forth at (value.sequence vs) (sequence s) p c g levels u e =
      let m = enclosed_ok array levels (spell_items 0 vs) u e in
      let r = items_forth at 0 vs s p c g m.0 m.2.0 m.2.1 in
      subst Forth m.2.2 (r.0, r.1, tt)
  forth at (value.structure m vs) (structure w n fs) p c g levels u e =
      let q = enclosed_ok document levels (spell_fields vs) u (sym (free_struct m vs levels (ap reserved_kind g.0 ∙ p.0.free)) ∙ e) in
      let r = fields_forth at vs fs p.1 c.1 g.1 q.0 q.2.0 q.2.1 in
      subst Forth q.2.2 (r.0, r.1, tt)
  forth at (value.sequence vs) (structure w n fs) p c g levels u e = absurd g
  forth at (value.structure m vs) (sequence s) p c g levels u e = absurd g
  forth at v (sequence s) p c g levels u e = absurd g
  forth at v (structure w n fs) p c g levels u e = absurd g
  forth at v (reference name) p c g levels u e = absurd g
  forth at v s p c g levels u e = absurd c

  items_forth : (at : Sight) (i : ℕ) (vs : Items) (s : Form) → IsShape s → IsSimple s → ItemsGiven at vs s → (levels : ℕ) (ts : Trees) → spell_items i vs levels ≡ Ok ts → TreesHaveCommonKeys ts × TreesHaveNoFault ts
  items_forth at i value.no_items s p c g levels ts e = subst (λ us. TreesHaveCommonKeys us × TreesHaveNoFault us) (ok_is no_trees ts e) (tt, refl)
  items_forth at i (value.item v vs) s p c g levels ts e =
      let a = bind_ok (under_index i (spell v levels)) (λ t. spell_items (suc i) vs levels >>= λ us. Ok (tree.tree t us)) ts e in
      let b = bind_ok (spell_items (suc i) vs levels) (λ us. Ok (tree.tree a.0 us)) ts a.2 in
      let first = forth at v s p c g.0 levels a.0 (inside_ok (at_index i) (spell v levels) a.0 a.1) in
      let rest = items_forth at (suc i) vs s p c g.1 levels b.0 b.1 in
      subst (λ us. TreesHaveCommonKeys us × TreesHaveNoFault us) (ok_is (tree.tree a.0 b.0) ts b.2) ((first.0, rest.0), first_whole (encode_fault a.0) (trees_encode_fault b.0) first.1 rest.1)

  fields_forth : (at : Sight) (vs : FieldValues) (fs : Fields) → AreShapes fs → AreSimple fs → FieldsGiven at vs fs → (levels : ℕ) (ps : Pairs) → spell_fields vs levels ≡ Ok ps → PairsHaveCommonKeys ps × PairsHaveNoFault ps
  fields_forth at value.no_field_values no_fields p c g levels ps e = subst (λ qs. PairsHaveCommonKeys qs × PairsHaveNoFault qs) (ok_is no_pairs ps e) (tt, refl)
  fields_forth at (value.field_value m v vs) (field n s fs) p c g levels ps e =
      let a = bind_ok (named m (spell v levels)) (λ t. spell_fields vs levels >>= λ qs. Ok (pair m t qs)) ps e in
      let b = bind_ok (spell_fields vs levels) (λ qs. Ok (pair m a.0 qs)) ps a.2 in
      let k = named_ok m (spell v levels) a.0 a.1 in
      let first = forth at v s p.1 c.1 g.1 levels a.0 k.1 in
      let rest = fields_forth at vs fs p.2 c.2 g.2 levels b.0 b.1 in
      subst (λ qs. PairsHaveCommonKeys qs × PairsHaveNoFault qs) (ok_is (pair m a.0 b.0) ps b.2) ((subst IsCommon (sym g.0) c.0, first.0, rest.0), pair_whole m a.0 b.0 k.0 first.1 rest.1)
  fields_forth at vs fs p c g levels ps e = absurd g
