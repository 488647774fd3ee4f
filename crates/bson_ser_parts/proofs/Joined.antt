-- What parts behind others are written as, where the others were written.
use Rattle.std.proofs.Common.{Bool, ◌≡◌, ℕ, suc, ◌+◌, ◌≤◌, [], ◌++◌, length, Ok, Err, refl, ap, sym, ◌∙◌, append-nil, arith}
use Rattle.std.specs.Fmt.{decimal}
use Rattle.bson_kinds.specs.Text.{Bytes, Utf8}
use Rattle.bson_base.specs.Tree.{tree, pair, elements, array_elements}
use Rattle.bson_values.specs.Refusal.{Refusal, WriteFault, under_index}
use Rattle.bson_values.specs.Value.{Value, Items, no_items, item, Entries, no_entries, entry, FieldValues, no_field_values, field_value}
use Rattle.bson_laws.specs.Means.{key_text}
use Rattle.bson_laws.specs.Spell.{Writing, named, spell_as, spell_items_as, spell_key, spell_entries_as, spell_fields_as, key_size, size_as, size_items_as, size_entries_as, size_fields_as}
use Rattle.bson_laws.proofs.Sizes.{ok_is}
use Rattle.bson_writing.specs.Joined.{items_joined, entries_joined, fields_joined, with_item, with_entry, with_field, index_after}
use Rattle.bson_ser_stream.specs.Writing.{with_bytes, with_element, with_entry as with_entry_element, with_elements, with_array_elements}
use Rattle.bson_ser_stream.proofs.Halted.{ok_value, ok_first, err_first, ok_entry, err_entry}
use Rattle.bson_ser_stream.proofs.Behind.{items_on, entries_on, fields_on}

bytes_err : {A : Type 0} (bytes : A → Bytes) (old : Bytes) (r : Writing A) (f : Refusal WriteFault) → with_bytes bytes old r ≡ Err f → r ≡ Err f
bytes_err bytes old (Ok x) f e = absurd cc
bytes_err bytes old (Err g) f e = let same : g ≡ f = cc in ap Err same

-- ---- values of an array

-- what is to come behind values that were appended
pub items_come : (readable : Bool) (i : ℕ) (vs after : Items) (levels : ℕ) (old new : Bytes) → with_array_elements old i (spell_items_as readable i vs levels) ≡ Ok new
    → with_array_elements new (index_after i vs) (spell_items_as readable (index_after i vs) after levels) ≡ with_array_elements old i (spell_items_as readable i (items_joined vs after) levels)
items_come readable i no_items after levels old new e = ap (λ b. with_array_elements b i (spell_items_as readable i after levels)) (sym (ok_is (old ++ []) new e) ∙ append-nil old)
items_come readable i (item v vs) after levels old new e =
    let one = under_index i (spell_as readable v levels) in
    let first = ok_value (with_element old (decimal i) one) (ok_first (array_elements i) tree one (spell_items_as readable (suc i) vs levels) old (decimal i) new e) in
    items_come readable (suc i) vs after levels first.0 new (items_on readable i v vs levels old first.0 first.1 ∙ e) ∙ items_on readable i v (items_joined vs after) levels old first.0 first.1

-- one more value was appended
pub item_taken : (readable : Bool) (levels : ℕ) (front old new : Bytes) (vs : Items) (v : Value) → with_array_elements front 0 (spell_items_as readable 0 vs levels) ≡ Ok old
    → with_element old (decimal (index_after 0 vs)) (under_index (index_after 0 vs) (spell_as readable v levels)) ≡ Ok new → with_array_elements front 0 (spell_items_as readable 0 (with_item vs v) levels) ≡ Ok new
item_taken readable levels front old new vs v so_far one =
    let i = index_after 0 vs in
    sym (items_come readable 0 vs (item v no_items) levels front old so_far) ∙ sym (items_on readable i v no_items levels old new one) ∙ ap Ok (append-nil new)

-- why one more value is not appended: no values are written that begin with it
pub item_refused : (readable : Bool) (levels : ℕ) (front old : Bytes) (vs after : Items) (v : Value) (f : Refusal WriteFault) → with_array_elements front 0 (spell_items_as readable 0 vs levels) ≡ Ok old
    → with_element old (decimal (index_after 0 vs)) (under_index (index_after 0 vs) (spell_as readable v levels)) ≡ Err f → spell_items_as readable 0 (items_joined vs (item v after)) levels ≡ Err f
item_refused readable levels front old vs after v f so_far e =
    let i = index_after 0 vs in
    bytes_err (array_elements 0) front _ f (sym (items_come readable 0 vs (item v after) levels front old so_far) ∙ err_first (array_elements i) tree (under_index i (spell_as readable v levels)) (spell_items_as readable (suc i) after levels) old (decimal i) f e)

pub index_after_one : (i : ℕ) (vs : Items) (v : Value) → index_after i (with_item vs v) ≡ suc (index_after i vs)
index_after_one i no_items v = refl
index_after_one i (item w vs) v = index_after_one (suc i) vs v

pub index_within : (readable : Bool) (i : ℕ) (vs : Items) → index_after i vs ≤ i + size_items_as readable i vs
index_within readable i no_items = omega arith
index_within readable i (item v vs) = omega (arith, index_within readable (suc i) vs)

pub size_with_item : (readable : Bool) (i : ℕ) (vs : Items) (v : Value) → size_items_as readable i (with_item vs v) ≡ size_items_as readable i vs + (length (decimal (index_after i vs)) + 2 + size_as readable v)
size_with_item readable i no_items v = omega arith
size_with_item readable i (item w vs) v = omega (arith, size_with_item readable (suc i) vs v)

-- ---- entries of a map

pub entries_come : (readable : Bool) (es after : Entries) (levels : ℕ) (old new : Bytes) → with_elements old (spell_entries_as readable es levels) ≡ Ok new
    → with_elements new (spell_entries_as readable after levels) ≡ with_elements old (spell_entries_as readable (entries_joined es after) levels)
entries_come readable no_entries after levels old new e = ap (λ b. with_elements b (spell_entries_as readable after levels)) (sym (ok_is (old ++ []) new e) ∙ append-nil old)
entries_come readable (entry k v es) after levels old new e =
    let first = ok_value (with_entry_element old (spell_key k) (spell_as readable v levels)) (ok_entry (spell_key k) (spell_as readable v levels) (spell_entries_as readable es levels) old new e) in
    entries_come readable es after levels first.0 new (entries_on readable k v es levels old first.0 first.1 ∙ e) ∙ entries_on readable k v (entries_joined es after) levels old first.0 first.1

pub entry_taken : (readable : Bool) (levels : ℕ) (front old new : Bytes) (es : Entries) (k v : Value) → with_elements front (spell_entries_as readable es levels) ≡ Ok old
    → with_entry_element old (spell_key k) (spell_as readable v levels) ≡ Ok new → with_elements front (spell_entries_as readable (with_entry es k v) levels) ≡ Ok new
entry_taken readable levels front old new es k v so_far one =
    sym (entries_come readable es (entry k v no_entries) levels front old so_far) ∙ sym (entries_on readable k v no_entries levels old new one) ∙ ap Ok (append-nil new)

pub entry_refused : (readable : Bool) (levels : ℕ) (front old : Bytes) (es after : Entries) (k v : Value) (f : Refusal WriteFault) → with_elements front (spell_entries_as readable es levels) ≡ Ok old
    → with_entry_element old (spell_key k) (spell_as readable v levels) ≡ Err f → spell_entries_as readable (entries_joined es (entry k v after)) levels ≡ Err f
entry_refused readable levels front old es after k v f so_far e =
    bytes_err elements front _ f (sym (entries_come readable es (entry k v after) levels front old so_far) ∙ err_entry (spell_key k) (spell_as readable v levels) (spell_entries_as readable after levels) old f e)

pub size_with_entry : (readable : Bool) (es : Entries) (k v : Value) → size_entries_as readable (with_entry es k v) ≡ size_entries_as readable es + (key_size (key_text k) + 2 + size_as readable v)
size_with_entry readable no_entries k v = omega arith
size_with_entry readable (entry l w es) k v = omega (arith, size_with_entry readable es k v)

-- ---- fields of a struct

pub fields_come : (readable : Bool) (fs after : FieldValues) (levels : ℕ) (old new : Bytes) → with_elements old (spell_fields_as readable fs levels) ≡ Ok new
    → with_elements new (spell_fields_as readable after levels) ≡ with_elements old (spell_fields_as readable (fields_joined fs after) levels)
fields_come readable no_field_values after levels old new e = ap (λ b. with_elements b (spell_fields_as readable after levels)) (sym (ok_is (old ++ []) new e) ∙ append-nil old)
fields_come readable (field_value name v fs) after levels old new e =
    let one = named name (spell_as readable v levels) in
    let first = ok_value (with_element old name one) (ok_first elements (pair name) one (spell_fields_as readable fs levels) old name new e) in
    fields_come readable fs after levels first.0 new (fields_on readable name v fs levels old first.0 first.1 ∙ e) ∙ fields_on readable name v (fields_joined fs after) levels old first.0 first.1

pub field_taken : (readable : Bool) (levels : ℕ) (front old new : Bytes) (fs : FieldValues) (name : Utf8) (v : Value) → with_elements front (spell_fields_as readable fs levels) ≡ Ok old
    → with_element old name (named name (spell_as readable v levels)) ≡ Ok new → with_elements front (spell_fields_as readable (with_field fs name v) levels) ≡ Ok new
field_taken readable levels front old new fs name v so_far one =
    sym (fields_come readable fs (field_value name v no_field_values) levels front old so_far) ∙ sym (fields_on readable name v no_field_values levels old new one) ∙ ap Ok (append-nil new)

pub field_refused : (readable : Bool) (levels : ℕ) (front old : Bytes) (fs after : FieldValues) (name : Utf8) (v : Value) (f : Refusal WriteFault) → with_elements front (spell_fields_as readable fs levels) ≡ Ok old
    → with_element old name (named name (spell_as readable v levels)) ≡ Err f → spell_fields_as readable (fields_joined fs (field_value name v after)) levels ≡ Err f
field_refused readable levels front old fs after name v f so_far e =
    bytes_err elements front _ f (sym (fields_come readable fs (field_value name v after) levels front old so_far) ∙ err_first elements (pair name) (named name (spell_as readable v levels)) (spell_fields_as readable after levels) old name f e)

pub size_with_field : (readable : Bool) (fs : FieldValues) (name : Utf8) (v : Value) → size_fields_as readable (with_field fs name v) ≡ size_fields_as readable fs + (length name + 2 + size_as readable v)
size_with_field readable no_field_values name v = omega arith
size_with_field readable (field_value other w fs) name v = omega (arith, size_with_field readable fs name v)
