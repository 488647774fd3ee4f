-- The places of what is written of a part, and of those behind it.
use Rattle.std.proofs.Common.{◌≡◌, ℕ, suc, ◌+◌, ◌≤◌, Bool, true, false, Result, Ok, Err, refl, ap, sym, subst, ◌∙◌, arith}
use Rattle.std.specs.Prelude.{OnOk, if◌then◌else◌}
use Rattle.bson_kinds.specs.Text.{Utf8, has_zero}
use Rattle.bson_kinds.specs.Outcome.{◌>>=◌, result_map}
use Rattle.bson_base.specs.Tree.{Tree, Pairs, pair, tree}
use Rattle.bson_values.specs.Refusal.{Refusal, WriteFault, Segment, at_key, at_index, invalid_cstring, here, inside, under, under_index}
use Rattle.bson_values.specs.Value.{Value, Items, item, Entries, entry, FieldValues, field_value, no_field_values}
use Rattle.bson_laws.specs.Spell.{Writing, named, spell_as, spell_items_as, spell_key, spell_entries_as, spell_fields_as}
use Rattle.bson_ser_stream.specs.Writing.{places, pair_places, tree_places, count_of}
use Rattle.bson_ser_stream.proofs.Variants.{one_field}

-- what holds where a value is answered says nothing of a refusal
pub refused_least : {X F : Type 0} (T : Type 0) (r : Result X F) (f : F) → r ≡ Err f → OnOk r T
refused_least T r f is = subst (λ x. OnOk x T) (sym is) tt

-- what a document or an array has more than its parts
pub container_places : {A : Type 0} (container : A → Tree) (count : A → ℕ) (r : Writing A) → ((x : A) → places (container x) ≡ count x + 4) → count_of places (result_map container r) ≤ count_of count r + 4
container_places container count (Ok x) more = omega (arith, more x)
container_places container count (Err f) more = omega arith

-- an element and those behind it
joined_places : {A : Type 0} (count : A → ℕ) (join : Tree → A → A) (r : Writing Tree) (s : Writing A) → ((t : Tree) (x : A) → count (join t x) ≡ places t + 1 + count x)
    → count_of count (r >>= λ t. s >>= λ x. Ok (join t x)) ≤ count_of places r + 1 + count_of count s
joined_places count join (Ok t) (Ok x) joins = omega (arith, joins t x)
joined_places count join (Ok t) (Err f) joins = omega arith
joined_places count join (Err f) s joins = omega arith

inside_places : (segment : Segment) (r : Writing Tree) → count_of places (inside segment r) ≡ count_of places r
inside_places segment (Ok t) = refl
inside_places segment (Err f) = refl

named_places : (name : Utf8) (r : Writing Tree) → count_of places (named name r) ≤ count_of places r
named_places name r = by (has_zero name)
  where
    by : (b : Bool) → count_of places (if b then Err (here (invalid_cstring name)) else under name r) ≤ count_of places r
    by true = omega arith
    by false = omega (arith, inside_places (at_key name) r)

pub field_places : (readable : Bool) (name : Utf8) (v : Value) (rest : FieldValues) (levels : ℕ)
    → count_of pair_places (spell_fields_as readable (field_value name v rest) levels) ≤ count_of places (spell_as readable v levels) + 1 + count_of pair_places (spell_fields_as readable rest levels)
field_places readable name v rest levels =
    let r = spell_as readable v levels in
    omega (arith, joined_places pair_places (pair name) (named name r) (spell_fields_as readable rest levels) (λ t ps. refl), named_places name r)

keyed_places : (k : Writing Utf8) (r : Writing Tree) (s : Writing Pairs) → count_of pair_places (k >>= λ key. under key r >>= λ t. s >>= λ ps. Ok (pair key t ps)) ≤ count_of places r + 1 + count_of pair_places s
keyed_places (Ok key) r s = omega (arith, joined_places pair_places (pair key) (under key r) s (λ t ps. refl), inside_places (at_key key) r)
keyed_places (Err f) r s = omega arith

pub entry_places : (readable : Bool) (key v : Value) (rest : Entries) (levels : ℕ)
    → count_of pair_places (spell_entries_as readable (entry key v rest) levels) ≤ count_of places (spell_as readable v levels) + 1 + count_of pair_places (spell_entries_as readable rest levels)
entry_places readable key v rest levels = keyed_places (spell_key key) (spell_as readable v levels) (spell_entries_as readable rest levels)

pub item_places : (readable : Bool) (i : ℕ) (v : Value) (rest : Items) (levels : ℕ)
    → count_of tree_places (spell_items_as readable i (item v rest) levels) ≤ count_of places (spell_as readable v levels) + 1 + count_of tree_places (spell_items_as readable (suc i) rest levels)
item_places readable i v rest levels =
    let r = spell_as readable v levels in
    omega (arith, joined_places tree_places tree (under_index i r) (spell_items_as readable (suc i) rest levels) (λ t ts. refl), inside_places (at_index i) r)

-- a value under its name has the places of a struct of that one field
pub pair_least : (readable : Bool) (name : Utf8) (v : Value) (levels so_far now : ℕ) → so_far + (count_of places (spell_as readable v levels) + 1) ≤ now → so_far + count_of pair_places (spell_fields_as readable (one_field name v) levels) ≤ now
pair_least readable name v levels so_far now least = omega (arith, least, field_places readable name v no_field_values levels)
