-- The values that are moved, item by item and field by field.
use Rattle.std.proofs.Common.{◌≡◌, Bool, true, false, length, arith, List, [], ◌∷◌, ◌++◌, Option, Some, None, refl, ap, sym, ◌∙◌}
use Rattle.std.specs.Prelude.{is_some, option_map, option_and_then}
use Rattle.std.specs.Global.{Vec}
use Rattle.std.specs.List.{flat_map}
use Rattle.bson_base.proofs.Rows.{row_items, row_pairs}
use Rattle.bson_base.specs.BsonView.{tree_of, trees_of, pairs_of}
use Rattle.bson_base.specs.Pairs.{lookup, without}
use Rattle.bson_base.specs.Tree as trees
use Rattle.bson_base.specs.Tree.{Tree, Trees, tree, Pairs}
use Rattle.bson_base.specs.declared.bson.Bson as bson
use Rattle.bson_base.specs.declared.bson.Bson.{Bson}
use Rattle.bson_base.specs.declared.document.Document.{Document}
use Rattle.bson_kinds.specs.Text.{Utf8}
use Rattle.bson_shape.specs.Form.{Form, Fields, field}
use Rattle.bson_shape.specs.Makers.{has_field}
use Rattle.bson_values.specs.TextView.{text_view}
use Rattle.bson_values.specs.Value.{Value, Items, no_items, item, FieldValues, no_field_values, field_value}
use Rattle.bson_datum.specs.Borrowed.{NoneBorrowed}
use Rattle.bson_datum.specs.View.{view, items_view, fields_view}
use Rattle.bson_datum.specs.declared.datum.Datum.{Datum}
use Rattle.bson_datum.specs.declared.datum.Field.{Field}
use Rattle.bson_laws.specs.Views.{views, views_items, views_fields, views_at, absent}
use Rattle.bson_moved.proofs.Walks.{fields_without}

-- both are there
pub parts_present : {A B C : Type 0} (f : A → B → C) (o : Option A) (p : Option B) → is_some (option_and_then (λ v. option_map (f v) p) o) ≡ true → (is_some o ≡ true) × (is_some p ≡ true)
parts_present f None p h = absurd cc
parts_present f (Some a) None h = absurd cc
parts_present f (Some a) (Some b) h = (refl, refl)

pub inner_present : {A B : Type 0} (f : A → B) (o : Option A) → is_some (option_map f o) ≡ true → is_some o ≡ true
inner_present f None h = absurd cc
inner_present f (Some a) h = refl

-- some values, and those after them
abbrev pub items_and : Items → Items → Items
items_and no_items ws = ws
items_and (item v vs) ws = item v (items_and vs ws)

items_more : (ds : List Datum) (d : Datum) (ws : Items) → items_and (items_view (ds ++ d ∷ [])) ws ≡ items_and (items_view ds) (item (view d) ws)
items_more [] d ws = refl
items_more (e ∷ ds) d ws = ap (item (view e)) (items_more ds d ws)

items_done : (vs : Items) → items_and vs no_items ≡ vs
items_done no_items = refl
items_done (item v vs) = ap (item v) (items_done vs)

items_step : (ds : List Datum) (d : Datum) (o : Option Items) → option_map (items_and (items_view (ds ++ d ∷ []))) o ≡ option_map (items_and (items_view ds)) (option_map (item (view d)) o)
items_step ds d None = refl
items_step ds d (Some ws) = ap Some (items_more ds d ws)

pub items_begin : (o : Option Items) → option_map (items_and no_items) o ≡ o
items_begin None = refl
items_begin (Some ws) = refl

take_more : (views : Tree → Option Value) (all : Option Items) (ds : List Datum) (d : Datum) (t : Tree) (ts : Trees) → views t ≡ Some (view d)
    → option_map (items_and (items_view ds)) (views_items views (tree t ts)) ≡ all → option_map (items_and (items_view (ds ++ d ∷ []))) (views_items views ts) ≡ all
take_more views all ds d t ts e so_far =
    items_step ds d (views_items views ts)
    ∙ sym (ap (λ o. option_map (items_and (items_view ds)) (option_and_then (λ v. option_map (item v) (views_items views ts)) o)) e)
    ∙ so_far

take_end : (all : Option Items) (ds : List Datum) → option_map (items_and (items_view ds)) (Some no_items) ≡ all → all ≡ Some (items_view ds)
take_end all ds so_far = sym so_far ∙ ap Some (items_done (items_view ds))

-- ---- the values of an array that are left
module _ (seen : Tree → Option Value) (b : Bson) (old new : List Bson) (is : old ≡ b ∷ new) where
  pub next_there : is_some (views_items seen (trees_of old)) ≡ true → (is_some (seen (tree_of b)) ≡ true) × (is_some (views_items seen (trees_of new)) ≡ true)
  next_there h = parts_present item (seen (tree_of b)) (views_items seen (trees_of new)) (ap (λ bs. is_some (views_items seen (trees_of bs))) (sym is) ∙ h)

  pub items_next : (all : Option Items) (done : List Datum) (d : Datum) → seen (tree_of b) ≡ Some (view d)
      → option_map (items_and (items_view done)) (views_items seen (trees_of old)) ≡ all → option_map (items_and (items_view (done ++ d ∷ []))) (views_items seen (trees_of new)) ≡ all
  items_next all done d e so_far =
      take_more seen all done d (tree_of b) (trees_of new) e (ap (λ bs. option_map (items_and (items_view done)) (views_items seen (trees_of bs))) (sym is) ∙ so_far)

pub items_end : (seen : Tree → Option Value) (all : Option Items) (done : List Datum) (left : List Bson) → length left ≡ 0 → option_map (items_and (items_view done)) (views_items seen (trees_of left)) ≡ all
    → all ≡ Some (items_view done)
items_end seen all done [] none so_far = take_end all done so_far
items_end seen all done (b ∷ bs) none so_far = absurd (omega arith)

-- some fields, and those after them
abbrev pub fields_and : FieldValues → FieldValues → FieldValues
fields_and no_field_values ws = ws
fields_and (field_value name v vs) ws = field_value name v (fields_and vs ws)

fields_more : (fs : List Field) (f : Field) (ws : FieldValues) → fields_and (fields_view (fs ++ f ∷ [])) ws ≡ fields_and (fields_view fs) (field_value (text_view f.name) (view f.value) ws)
fields_more [] f ws = refl
fields_more (g ∷ fs) f ws = ap (field_value (text_view g.name) (view g.value)) (fields_more fs f ws)

fields_done : (vs : FieldValues) → fields_and vs no_field_values ≡ vs
fields_done no_field_values = refl
fields_done (field_value name v vs) = ap (field_value name v) (fields_done vs)

fields_step : (fs : List Field) (f : Field) (o : Option FieldValues) → option_map (fields_and (fields_view (fs ++ f ∷ []))) o
    ≡ option_map (fields_and (fields_view fs)) (option_map (field_value (text_view f.name) (view f.value)) o)
fields_step fs f None = refl
fields_step fs f (Some ws) = ap Some (fields_more fs f ws)

pub fields_end : (all : Option FieldValues) (fs : List Field) → option_map (fields_and (fields_view fs)) (Some no_field_values) ≡ all → all ≡ Some (fields_view fs)
fields_end all fs so_far = sym so_far ∙ ap Some (fields_done (fields_view fs))

pub fields_begin : (o : Option FieldValues) → option_map (fields_and no_field_values) o ≡ o
fields_begin None = refl
fields_begin (Some ws) = refl

-- one field more, whose pair is gone
module _ (name : Utf8) (s : Form) (fs : Fields) (ps rest : Pairs) (apart : has_field name fs ≡ false) (left : rest ≡ without name ps) where
  still : views_fields fs rest ≡ views_fields fs ps
  still = ap (views_fields fs) left ∙ fields_without name fs ps apart

  pub field_more : (all : Option FieldValues) (done : List Field) (f : Field) → text_view f.name ≡ name → views_at (views s) (absent s) (lookup name ps) ≡ Some (view f.value)
      → option_map (fields_and (fields_view done)) (views_fields (field name s fs) ps) ≡ all → option_map (fields_and (fields_view (done ++ f ∷ []))) (views_fields fs rest) ≡ all
  field_more all done f named e so_far =
      fields_step done f (views_fields fs rest)
      ∙ ap (λ o. option_map (fields_and (fields_view done)) (option_map (field_value (text_view f.name) (view f.value)) o)) still
      ∙ ap (λ n. option_map (fields_and (fields_view done)) (option_map (field_value n (view f.value)) (views_fields fs ps))) named
      ∙ sym (ap (λ o. option_map (fields_and (fields_view done)) (option_and_then (λ v. option_map (field_value name v) (views_fields fs ps)) o)) e)
      ∙ so_far

  pub others_present : is_some (views_fields (field name s fs) ps) ≡ true → is_some (views_fields fs rest) ≡ true
  others_present h = ap is_some still ∙ (parts_present (field_value name) (views_at (views s) (absent s) (lookup name ps)) (views_fields fs ps) h).1

-- ---- what is owned

both_owned : (bs cs : List Bool) → NoneBorrowed bs → NoneBorrowed cs → NoneBorrowed (bs ++ cs)
both_owned [] cs h k = k
both_owned (b ∷ bs) cs h k = (h.0, both_owned bs cs h.1 k)

owned_parts : (bs cs : List Bool) → NoneBorrowed (bs ++ cs) → NoneBorrowed bs × NoneBorrowed cs
owned_parts [] cs h = (tt, h)
owned_parts (b ∷ bs) cs h = let rest = owned_parts bs cs h.1 in ((h.0, rest.0), rest.1)

-- one part more
pub owned_more : {X : Type 0} (parts : X → List Bool) (xs : List X) (x : X) → NoneBorrowed (flat_map parts xs) → NoneBorrowed (parts x) → NoneBorrowed (flat_map parts (xs ++ x ∷ []))
owned_more parts [] x h k = both_owned (parts x) [] k tt
owned_more parts (y ∷ xs) x h k =
    let split = owned_parts (parts y) (flat_map parts xs) h in
    both_owned (parts y) (flat_map parts (xs ++ x ∷ [])) split.0 (owned_more parts xs x split.1 k)

-- ---- documents and arrays

pub document_tree : (d : Document) → tree_of (bson.Document d) ≡ trees.document (pairs_of d)
document_tree d = ap trees.document (row_pairs d.0)

pub array_tree : (bs : Vec Bson) → tree_of (bson.Array bs) ≡ trees.array (trees_of bs.items)
array_tree bs = ap trees.array (row_items bs)
