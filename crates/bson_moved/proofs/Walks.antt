-- Lists of values and of fields, one after another, and pairs without a key.
use Rattle.std.proofs.Common.{◌≡◌, ℕ, ◌+◌, ◌<◌, Bool, true, false, List, length, get_or, drop, Option, Some, refl, ap, sym, subst, ◌∙◌, string_bytes}
use Rattle.std.specs.Prelude.{if◌then◌else◌, is_some, option_map, option_and_then}
use Rattle.std.specs.Str.{bytes_eq}
use Rattle.std.proofs.lemmas.List.{at_drop_more}
use Rattle.std.proofs.lemmas.Bool.{or_parts}
use Rattle.bson_kinds.specs.Text.{Utf8}
use Rattle.bson_base.specs.BsonView.{tree_of, trees_of}
use Rattle.bson_base.specs.Pairs.{lookup, without}
use Rattle.bson_base.specs.Tree.{Tree, tree, Trees, Pairs, no_pairs, pair}
use Rattle.bson_base.specs.declared.bson.Bson.{Bson}
use Rattle.bson_shape.specs.Form.{Fields, no_fields, field}
use Rattle.bson_shape.specs.Makers.{has_field}
use Rattle.bson_shape.specs.ShapeView.{fields_of}
use Rattle.bson_shape.specs.declared.shape.FieldShape.{FieldShape}
use Rattle.bson_values.specs.Value.{Value, field_value}
use Rattle.bson_laws.specs.Views.{views, views_at, views_fields, views_items, absent}
use Rattle.bson_laws.proofs.Fitted.{bytes_same, unlike_swap}
use Rattle.bson_moved.proofs.Present.{item_present, field_present}

-- the first of the values from a place on
pub trees_drop : (bs : List Bson) (i : ℕ) (b : Bson) → i < length bs → b ≡ get_or bs i b → trees_of (drop i bs) ≡ tree (tree_of b) (trees_of (drop (i + 1) bs))
trees_drop bs i b lt is = at_drop_more trees_of bs i b lt ∙ ap (λ (x : Bson). tree (tree_of x) (trees_of (drop (i + 1) bs))) (sym is)

-- and of the fields
pub fields_drop : (fs : List FieldShape) (i : ℕ) (f : FieldShape) → i < length fs → f ≡ get_or fs i f → fields_of (drop i fs) ≡ field (string_bytes f.name) f.shape (fields_of (drop (i + 1) fs))
fields_drop fs i f lt is = at_drop_more fields_of fs i f lt ∙ ap (λ (x : FieldShape). field (string_bytes x.name) x.shape (fields_of (drop (i + 1) fs))) (sym is)

-- a value that is there, before others
pub items_rest : (view : Tree → Option Value) (bs : List Bson) (i : ℕ) (b : Bson) → i < length bs → b ≡ get_or bs i b → is_some (view (tree_of b)) ≡ true → is_some (views_items view (trees_of (drop (i + 1) bs))) ≡ true
    → is_some (views_items view (trees_of (drop i bs))) ≡ true
items_rest view bs i b lt is h k = subst (λ (ts : Trees). is_some (views_items view ts) ≡ true) (sym (trees_drop bs i b lt is)) (item_present view (tree_of b) (trees_of (drop (i + 1) bs)) h k)

pub fields_rest : (fs : List FieldShape) (i : ℕ) (f : FieldShape) (ps : Pairs) → i < length fs → f ≡ get_or fs i f → is_some (views_at (views f.shape) (absent f.shape) (lookup (string_bytes f.name) ps)) ≡ true
    → is_some (views_fields (fields_of (drop (i + 1) fs)) ps) ≡ true → is_some (views_fields (fields_of (drop i fs)) ps) ≡ true
fields_rest fs i f ps lt is h k =
    subst (λ (gs : Fields). is_some (views_fields gs ps) ≡ true) (sym (fields_drop fs i f lt is)) (field_present (string_bytes f.name) f.shape (fields_of (drop (i + 1) fs)) ps h k)

-- ---- pairs without a key

behind : (key other k : Utf8) (t : Tree) (ps : Pairs) (b : Bool) → bytes_eq other key ≡ false → lookup other (without key ps) ≡ lookup other ps → bytes_eq key k ≡ b
    → lookup other (if b then ps else pair k t (without key ps)) ≡ lookup other (pair k t ps)
behind key other k t ps true e more found = sym (ap (λ c. if c then Some t else lookup other ps) (ap (bytes_eq other) (sym (bytes_same key k found)) ∙ e))
behind key other k t ps false e more found = ap (λ o. if bytes_eq other k then Some t else o) more

-- what is at another key is still there
lookup_without : (key other : Utf8) (ps : Pairs) → bytes_eq other key ≡ false → lookup other (without key ps) ≡ lookup other ps
lookup_without key other no_pairs e = refl
lookup_without key other (pair k t ps) e = behind key other k t ps (bytes_eq key k) e (lookup_without key other ps e) refl

-- and so are the values of fields that have other keys
pub fields_without : (key : Utf8) (fs : Fields) (ps : Pairs) → has_field key fs ≡ false → views_fields fs (without key ps) ≡ views_fields fs ps
fields_without key no_fields ps e = refl
fields_without key (field name s fs) ps e =
    let apart = or_parts (bytes_eq key name) (has_field key fs) e in
    λ i. option_and_then (λ v. option_map (field_value name v) (fields_without key fs ps apart.1 i)) (views_at (views s) (absent s) (lookup_without key name ps (unlike_swap key name apart.0) i))
