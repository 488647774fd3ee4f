-- Values that are there.
use Rattle.std.proofs.Common.{◌≡◌, true, false, Option, Some, None, refl}
use Rattle.std.specs.Prelude.{is_some, option_map, option_and_then}
use Rattle.bson_base.specs.Pairs.{lookup}
use Rattle.bson_base.specs.Tree as trees
use Rattle.bson_base.specs.Tree.{Tree, Trees, Pairs}
use Rattle.bson_kinds.specs.Text.{Utf8}
use Rattle.bson_shape.specs.Form.{Form, optional, structure, dropped, Fields, field}
use Rattle.bson_values.specs.Value as value
use Rattle.bson_values.specs.Value.{Value, item, field_value}
use Rattle.bson_laws.specs.Views.{views, views_items, views_fields, views_at, absent}
use Rattle.bson_moved.specs.Numbers.{is_null}

both_present : {A B C : Type 0} (f : A → B → C) (o : Option A) (p : Option B) → is_some o ≡ true → is_some p ≡ true → is_some (option_and_then (λ v. option_map (f v) p) o) ≡ true
both_present f None p h k = absurd cc
both_present f (Some a) None h k = absurd cc
both_present f (Some a) (Some b) h k = refl

some_present : {A B : Type 0} (f : A → B) (o : Option A) → is_some o ≡ true → is_some (option_map f o) ≡ true
some_present f None h = absurd cc
some_present f (Some a) h = refl

pub item_present : (view : Tree → Option Value) (t : Tree) (ts : Trees) → is_some (view t) ≡ true → is_some (views_items view ts) ≡ true → is_some (views_items view (trees.tree t ts)) ≡ true
item_present view t ts h k = both_present item (view t) (views_items view ts) h k

pub field_present : (name : Utf8) (s : Form) (fs : Fields) (ps : Pairs) → is_some (views_at (views s) (absent s) (lookup name ps)) ≡ true → is_some (views_fields fs ps) ≡ true
    → is_some (views_fields (field name s fs) ps) ≡ true
field_present name s fs ps h k = both_present (field_value name) (views_at (views s) (absent s) (lookup name ps)) (views_fields fs ps) h k

-- an option has a value where its value has one
pub optional_present : (s : Form) (t : Tree) → is_some (views s t) ≡ true → is_some (views (optional s) t) ≡ true
optional_present s (trees.double b) h = some_present value.some (views s (trees.double b)) h
optional_present s (trees.string b) h = some_present value.some (views s (trees.string b)) h
optional_present s (trees.document ps) h = some_present value.some (views s (trees.document ps)) h
optional_present s (trees.array ts) h = some_present value.some (views s (trees.array ts)) h
optional_present s (trees.binary n b) h = some_present value.some (views s (trees.binary n b)) h
optional_present s trees.undefined h = some_present value.some (views s trees.undefined) h
optional_present s (trees.object_id b) h = some_present value.some (views s (trees.object_id b)) h
optional_present s (trees.boolean b) h = some_present value.some (views s (trees.boolean b)) h
optional_present s (trees.date_time n) h = some_present value.some (views s (trees.date_time n)) h
optional_present s trees.null h = refl
optional_present s (trees.regular_expression p o) h = some_present value.some (views s (trees.regular_expression p o)) h
optional_present s (trees.db_pointer p b) h = some_present value.some (views s (trees.db_pointer p b)) h
optional_present s (trees.javascript_code b) h = some_present value.some (views s (trees.javascript_code b)) h
optional_present s (trees.symbol b) h = some_present value.some (views s (trees.symbol b)) h
optional_present s (trees.javascript_code_with_scope b ps) h = some_present value.some (views s (trees.javascript_code_with_scope b ps)) h
optional_present s (trees.int32 n) h = some_present value.some (views s (trees.int32 n)) h
optional_present s (trees.timestamp m n) h = some_present value.some (views s (trees.timestamp m n)) h
optional_present s (trees.int64 n) h = some_present value.some (views s (trees.int64 n)) h
optional_present s (trees.decimal128 b) h = some_present value.some (views s (trees.decimal128 b)) h
optional_present s trees.max_key h = some_present value.some (views s trees.max_key) h
optional_present s trees.min_key h = some_present value.some (views s trees.min_key) h
optional_present s (trees.raw k b) h = some_present value.some (views s (trees.raw k b)) h

-- and is some of it, where the tree is not null
pub optional_some : (s : Form) (t : Tree) → is_null t ≡ false → views (optional s) t ≡ option_map value.some (views s t)
optional_some s trees.null h = absurd cc
optional_some s t h = refl

pub optional_null : (s : Form) (t : Tree) → is_null t ≡ true → views (optional s) t ≡ Some value.none
optional_null s trees.null h = refl
optional_null s t h = absurd cc

-- a struct that drops unknown fields has a value where its fields have values
pub structure_present : (name : Utf8) (fs : Fields) (ps : Pairs) → is_some (views_fields fs ps) ≡ true → is_some (views (structure dropped name fs) (trees.document ps)) ≡ true
structure_present name fs ps h = some_present (value.structure name) (views_fields fs ps) h
