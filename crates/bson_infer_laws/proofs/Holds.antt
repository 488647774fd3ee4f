-- The trees that an inferred form has a view of, without the values. A document has no other keys than the form has fields.
use Rattle.std.proofs.Common.{◌≡◌, true, Option, Some, None, refl}
use Rattle.std.specs.Prelude.{IsSome, option_map, option_and_then}
use Rattle.bson_base.specs.Pairs.{lookup}
use Rattle.bson_kinds.specs.Text.{Utf8}
use Rattle.bson_base.specs.Tree.{Tree, document, array, null, Pairs, no_pairs, pair, Trees, no_trees, tree}
use Rattle.bson_shape.specs.Form.{dropped, Form, leaf, optional, sequence, structure, Fields, no_fields, field}
use Rattle.bson_values.specs.Value as value
use Rattle.bson_values.specs.Value.{Value, item, field_value}
use Rattle.bson_laws.specs.Leaves.{leaf_kind}
use Rattle.bson_laws.specs.Views.{views_items, absent, views_at, views_leaf, views, views_fields}
use Rattle.bson_laws.specs.Named.{has}
use Rattle.bson_infer_laws.specs.Above.{IsOptional}
use Rattle.bson_infer_laws.specs.Inferred.{AllTrees}

-- what is at the key of a field, if anything is
abbrev pub HoldsAt : (Tree → Type 0) → Type 0 → Option Tree → Type 0
HoldsAt P missing None = missing
HoldsAt P missing (Some t) = P t

-- each key is one of the names
abbrev pub KeysIn : Pairs → Fields → Type 0
KeysIn no_pairs fs = Unit {0}
KeysIn (pair key t ps) fs = (has fs key ≡ true) × KeysIn ps fs

abbrev mutual
  pub Holds : Form → Tree → Type 0
  Holds (leaf l) t = IsSome (views_leaf (leaf_kind l) t)
  Holds (optional s) null = Unit {0}
  Holds (optional s) t = Holds s t
  Holds (sequence s) (array ts) = AllTrees (Holds s) ts
  Holds (structure dropped name fs) (document ps) = FieldsHold fs ps × KeysIn ps fs
  Holds s t = ⊥

  pub FieldsHold : Fields → Pairs → Type 0
  FieldsHold no_fields ps = Unit {0}
  FieldsHold (field name s fs) ps = HoldsAt (Holds s) (IsOptional s) (lookup name ps) × FieldsHold fs ps

pub null_or : (s : Form) (t : Tree) → Holds s t → Holds (optional s) t
null_or s null h = tt
null_or s t h = h

-- ---- what a form holds it has a view of

mapped : {A B : Type 0} (f : A → B) (o : Option A) → IsSome o → IsSome (option_map f o)
mapped f None h = absurd cc
mapped f (Some x) h = refl

both_some : {A B C : Type 0} (f : A → B → C) (o : Option A) (r : Option B) → IsSome o → IsSome r → IsSome (option_and_then (λ v. option_map (f v) r) o)
both_some f None r h k = absurd cc
both_some f (Some x) r h k = mapped (f x) r k

items_held : (P : Tree → Type 0) (f : Tree → Option Value) → ((t : Tree) → P t → IsSome (f t)) → (ts : Trees) → AllTrees P ts → IsSome (views_items f ts)
items_held P f each no_trees h = refl
items_held P f each (tree t ts) h = both_some item (f t) (views_items f ts) (each t h.0) (items_held P f each ts h.1)

absent_held : (s : Form) → IsOptional s → IsSome (absent {T = Utf8} s)
absent_held (optional s) h = refl
absent_held s h = absurd h

at_held : (P : Tree → Type 0) (s : Form) (o : Option Tree) → HoldsAt P (IsOptional s) o → ((t : Tree) → P t → IsSome (views s t)) → IsSome (views_at (views s) (absent s) o)
at_held P s None h each = absent_held s h
at_held P s (Some t) h each = each t h

mutual
  pub held : (s : Form) (t : Tree) → Holds s t → IsSome (views s t)
  held (leaf l) t h = h
  held (optional s) null h = refl
  held (optional s) t h = mapped value.some (views s t) (held s t h)
  held (sequence s) (array ts) h = mapped value.sequence (views_items (views s) ts) (items_held (Holds s) (views s) (λ t k. held s t k) ts h)
  held (structure dropped name fs) (document ps) h = mapped (value.structure name) (views_fields fs ps) (fields_held fs ps h.0)
  held s t h = absurd h

  fields_held : (fs : Fields) (ps : Pairs) → FieldsHold fs ps → IsSome (views_fields fs ps)
  fields_held no_fields ps h = refl
  fields_held (field name s fs) ps h =
      both_some (field_value name) (views_at (views s) (absent s) (lookup name ps)) (views_fields fs ps)
      (at_held (Holds s) s (lookup name ps) h.0 (λ t k. held s t k)) (fields_held fs ps h.1)
