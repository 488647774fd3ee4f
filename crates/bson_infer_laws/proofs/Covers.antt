-- A form holds what each form below it holds.
use Rattle.std.proofs.Common.{◌≡◌, zero, pos, negsuc, ℤ, Bool, true, false, cond, Option, Some, None, inl, inr, refl, ap, sym, subst, ◌∙◌, arith}
use Rattle.std.specs.Prelude.{◌⊎◌, IsSome}
use Rattle.std.specs.Str.{bytes_eq}
use Rattle.std.proofs.lemmas.Int.{ints}
use Rattle.bson_kinds.specs.Text.{Utf8}
use Rattle.bson_base.specs.Pairs.{lookup}
use Rattle.bson_base.specs.Tree as tree
use Rattle.bson_base.specs.Tree.{Tree, null, document, array, string, binary, int32, int64, Pairs, no_pairs, pair, Trees, no_trees}
use Rattle.bson_shape.specs.Form.{dropped, Form, leaf, optional, sequence, structure, enumeration, Fields, no_fields, field, no_variants}
use Rattle.bson_shape.specs.declared.leaf.Leaf.{Leaf}
use Rattle.bson_shape.specs.declared.leaf.Leaf.TheVariants.{I32, ByteBuf, Binary}
use Rattle.bson_values.specs.Value as value
use Rattle.bson_values.specs.Value.{i32, i64, in_range, Value}
use Rattle.bson_laws.specs.Leaves.{numbers, units, byte_buffers, leaf_kind}
use Rattle.bson_laws.specs.Views.{as_integer, views_leaf}
use Rattle.bson_laws.specs.Named.{form_of, has}
use Rattle.bson_infer_laws.specs.Join.{nothing, is_unit, grown}
use Rattle.bson_infer_laws.specs.Above.{bare, IsNothing, IsOptional, LeafAbove, FieldAbove, NamedIn, Above, FieldsAbove}
use Rattle.bson_infer_laws.specs.Inferred.{AllTrees}
use Rattle.bson_infer_laws.proofs.Holds.{HoldsAt, KeysIn, Holds, FieldsHold, null_or}
use Rattle.bson_infer_laws.proofs.Above.{lies, Lies, unit_is, nothing_is, option_up, by_first, name_is, has_none, named_at}
use Rattle.bson_kinds.proofs.Apart.{no_some}

bare_holds : (b : Form) (t : Tree) → Holds b t → (t ≡ null) ⊎ Holds (bare b) t
bare_holds (optional s) null h = inl refl
bare_holds (optional s) t h = inr h
bare_holds b t h = inr h

units_null : (t : Tree) → IsSome (views_leaf units t) → t ≡ null
units_null null h = refl
units_null t h = absurd cc

unit_null : (b : Form) (t : Tree) → is_unit b ≡ true → Holds b t → t ≡ null
unit_null b t u h = units_null t (subst (λ s. Holds s t) (unit_is b u) h)

nothing_held : (t : Tree) → Holds nothing t → ⊥
nothing_held t h = h

under_nothing : (a b : Form) (t : Tree) → IsNothing b → Holds b t → Holds a t
under_nothing a b t n h = absurd (nothing_held t (subst (λ s. Holds s t) (nothing_is b n) h))

-- ---- leaves

wider : (n : ℤ) → in_range i32 n ≡ true → in_range i64 n ≡ true
wider (pos n) h = grind (arith, ints, h)
wider (negsuc n) h = grind (arith, ints, h)

number_some : (b : Bool) (v : Value) → IsSome (cond b (Some v) None) → b ≡ true
number_some true v h = refl
number_some false v h = absurd cc

pub some_number : (b : Bool) (v : Value) → b ≡ true → IsSome (cond b (Some v) None)
some_number true v h = refl
some_number false v h = absurd cc

number_grows : (n : ℤ) → IsSome (as_integer i32 n) → IsSome (as_integer i64 n)
number_grows n h = some_number (in_range i64 n) (value.integer i64 n) (wider n (number_some (in_range i32 n) (value.integer i32 n) h))

numbers_grow : (t : Tree) → IsSome (views_leaf (numbers i32) t) → IsSome (views_leaf (numbers i64) t)
numbers_grow (int32 n) h = number_grows n h
numbers_grow (int64 n) h = number_grows n h
numbers_grow t h = absurd cc

buffers_grow : (t : Tree) → IsSome (views_leaf byte_buffers t) → IsSome (views_leaf (leaf_kind Binary) t)
buffers_grow (binary zero b) h = refl
buffers_grow t h = absurd cc

leaf_grows : (m : Leaf) (t : Tree) → Holds (leaf m) t → Holds (leaf (grown m)) t
leaf_grows I32 t h = numbers_grow t h
leaf_grows ByteBuf t h = buffers_grow t h
leaf_grows m t h = h

leaf_lies : (l m : Leaf) (t : Tree) → Lies m l → Holds (leaf m) t → Holds (leaf l) t
leaf_lies l m t (inl e) h = subst (λ k. Holds (leaf k) t) e h
leaf_lies l m t (inr (inl e)) h = subst (λ k. Holds (leaf k) t) e (leaf_grows m t h)
leaf_lies l m t (inr (inr e)) h = subst (λ k. Holds (leaf k) t) (sym e) refl

leaf_up : (l : Leaf) (b : Form) (t : Tree) → LeafAbove l b → Holds b t → Holds (leaf l) t
leaf_up l (leaf m) t e h = leaf_lies l m t (lies m l e) h
leaf_up l (optional y) t e h = absurd e
leaf_up l (enumeration no_variants) t e h = absurd (nothing_held t h)
leaf_up l b t e h = subst (λ k. Holds (leaf k) t) (sym e) refl

-- ---- fields

first_tree : {P : Type 0} (b : Bool) (u t : Tree) (o : Option Tree) → cond b (Some u) o ≡ Some t → (b ≡ true → P) → (o ≡ Some t → P) → P
first_tree true u t o e f g = f refl
first_tree false u t o e f g = g e

key_has : (ps : Pairs) (gs : Fields) (n : Utf8) (t : Tree) → KeysIn ps gs → lookup n ps ≡ Some t → has gs n ≡ true
key_has no_pairs gs n t k e = absurd (no_some e)
key_has (pair m u ps) gs n t k e = first_tree (bytes_eq n m) u t (lookup n ps) e (λ is. ap (has gs) (name_is n m is) ∙ k.0) (λ f. key_has ps gs n t k.1 f)

keys_up : (ps : Pairs) (gs fs : Fields) → NamedIn gs fs → KeysIn ps gs → KeysIn ps fs
keys_up no_pairs gs fs n k = tt
keys_up (pair m u ps) gs fs n k = (named_at gs fs m n k.0, keys_up ps gs fs n k.1)

held_at : (gs : Fields) (ps : Pairs) (n : Utf8) (y : Form) → FieldsHold gs ps → form_of gs n ≡ Some y → HoldsAt (Holds y) (IsOptional y) (lookup n ps)
held_at no_fields ps n y h e = absurd (no_some e)
held_at (field m x gs) ps n y h e =
    by_first (bytes_eq m n) x y (form_of gs n) e
    (λ is same. subst (λ k. HoldsAt (Holds y) (IsOptional y) (lookup k ps)) (name_is m n is) (subst (λ z. HoldsAt (Holds z) (IsOptional z) (lookup m ps)) same h.0))
    (λ f. held_at gs ps n y h.1 f)

field_up : (x : Form) (og : Option Form) (o : Option Tree) → FieldAbove (Above x) x og → ((y : Form) → og ≡ Some y → HoldsAt (Holds y) (IsOptional y) o)
    → ((t : Tree) → o ≡ Some t → og ≡ None → ⊥) → ((y : Form) (t : Tree) → Above x y → Holds y t → Holds x t) → HoldsAt (Holds x) (IsOptional x) o
field_up x None None e f n up = e
field_up x None (Some t) e f n up = absurd (n t refl refl)
field_up x (Some y) None e f n up = option_up x y e (f y refl)
field_up x (Some y) (Some t) e f n up = up y t e (f y refl)

clash : (b : Bool) → b ≡ true → b ≡ false → ⊥
clash b e f = let both : true ≡ false = sym e ∙ f in cc

pub all_up : (P Q : Tree → Type 0) → ((t : Tree) → P t → Q t) → (ts : Trees) → AllTrees P ts → AllTrees Q ts
all_up P Q up no_trees h = tt
all_up P Q up (tree.tree t ts) h = (up t h.0, all_up P Q up ts h.1)

option_holds : (x b : Form) (t : Tree) → (is_unit (bare b) ≡ true) ⊎ Above x (bare b) → (t ≡ null) ⊎ Holds (bare b) t → (Above x (bare b) → Holds (bare b) t → Holds x t) → Holds (optional x) t
option_holds x b t e (inl n) up = subst (Holds (optional x)) (sym n) tt
option_holds x b t (inl u) (inr h) up = subst (Holds (optional x)) (sym (unit_null (bare b) t u h)) tt
option_holds x b t (inr g) (inr h) up = null_or x t (up g h)

mutual
  pub holds_up : (a b : Form) (t : Tree) → Above a b → Holds b t → Holds a t
  holds_up (optional x) b t e h = option_holds x b t e (bare_holds b t h) (λ g k. holds_up x (bare b) t g k)
  holds_up (leaf l) b t e h = leaf_up l b t e h
  holds_up (sequence x) (sequence y) (array ts) e h = all_up (Holds y) (Holds x) (λ t k. holds_up x y t e k) ts h
  holds_up (sequence x) (sequence y) t e h = absurd h
  holds_up (sequence x) b t e h = under_nothing (sequence x) b t e h
  holds_up (structure dropped n fs) (structure dropped m gs) (document ps) e h = (fields_up fs gs ps e.0 h.0 h.1, keys_up ps gs fs e.1 h.1)
  holds_up (structure dropped n fs) (structure dropped m gs) t e h = absurd h
  holds_up (structure dropped n fs) b t e h = under_nothing (structure dropped n fs) b t e h
  holds_up a b t e h = under_nothing a b t e h

  fields_up : (fs gs : Fields) (ps : Pairs) → FieldsAbove fs gs → FieldsHold gs ps → KeysIn ps gs → FieldsHold fs ps
  fields_up no_fields gs ps e h k = tt
  fields_up (field n x fs) gs ps e h k = (
    field_up x (form_of gs n) (lookup n ps) e.0 (λ y is. held_at gs ps n y h is) (λ t at none. clash (has gs n) (key_has ps gs n t k at) (has_none gs n none))
        (λ y t g j. holds_up x y t g j),
    fields_up fs gs ps e.1 h k,
  )
