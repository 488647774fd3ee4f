-- Copies of the parts of a datum, item by item.
use Rattle.std.proofs.Common.{◌≡◌, ℕ, ◌≤◌, List, [], ◌∷◌, ◌++◌, Option, None, Result, map, length, take, refl, ap, sym, subst, ◌∙◌}
use Rattle.std.specs.Prelude.{IfOk}
use Rattle.std.proofs.lemmas.List.{map-id, take_all}
use Rattle.std.proofs.lemmas.Iterator.Adapters.{YieldsList-from_vec}
use Rattle.std.proofs.lemmas.Iterator.Consumers.{YieldsList-end}
use Rattle.std.specs.Global.{Global}
use Rattle.std.specs.Iterator.{Yields}
use Rattle.std.specs.Vec.Iter.{into_iter_items, into_iter_len, into_iter_steps}
use Rattle.std.specs.declared.vec.IntoIter.{IntoIter}
use Rattle.std.specs.List.{flat_map}
use Rattle.bson_kinds.specs.Text.{Utf8}
use Rattle.bson_values.specs.TextView.{text_view}
use Rattle.bson_values.specs.Value.{Value, Items, no_items, item, Entries, no_entries, entry, FieldValues, no_field_values, field_value}
use Rattle.bson_datum.specs.View.{view, items_view, entry_view, entries_view, field_view, fields_view}
use Rattle.bson_datum.specs.declared.datum.Entry.{Entry}
use Rattle.bson_datum.specs.declared.datum.Field.{Field}
use Rattle.bson_datum.specs.declared.datum.Datum.{Datum}

abbrev items_of : List Value → Items
items_of [] = no_items
items_of (v ∷ vs) = item v (items_of vs)

items_view-map : (ds : List Datum) → items_view ds ≡ items_of (map view ds)
items_view-map [] = refl
items_view-map (d ∷ ds) = ap (item (view d)) (items_view-map ds)

abbrev entries_of : List (Value × Value) → Entries
entries_of [] = no_entries
entries_of (e ∷ es) = entry e.0 e.1 (entries_of es)

entries_view-map : (es : List Entry) → entries_view es ≡ entries_of (map entry_view es)
entries_view-map [] = refl
entries_view-map (e ∷ es) = ap (entry (view e.key) (view e.value)) (entries_view-map es)

abbrev fields_of : List (Utf8 × Value) → FieldValues
fields_of [] = no_field_values
fields_of (f ∷ fs) = field_value f.0 f.1 (fields_of fs)

fields_view-map : (fs : List Field) → fields_view fs ≡ fields_of (map field_view fs)
fields_view-map [] = refl
fields_view-map (f ∷ fs) = ap (field_value (text_view f.name) (view f.value)) (fields_view-map fs)

abbrev joined : {A : Type 0} → List (List A) → List A
joined [] = []
joined (l ∷ ls) = l ++ joined ls

flat_map-map : {X A : Type 0} (f : X → List A) (xs : List X) → flat_map f xs ≡ joined (map f xs)
flat_map-map f [] = refl
flat_map-map f (x ∷ xs) = ap (λ l. f x ++ l) (flat_map-map f xs)

-- data whose values are those of others, one by one
pub same_items_view : (cs ds : List Datum) → map view cs ≡ map view ds → items_view cs ≡ items_view ds
same_items_view cs ds e = items_view-map cs ∙ ap items_of e ∙ sym (items_view-map ds)

-- entries whose keys and values are those of others, one by one
pub same_entries_view : (cs es : List Entry) → map entry_view cs ≡ map entry_view es → entries_view cs ≡ entries_view es
same_entries_view cs es e = entries_view-map cs ∙ ap entries_of e ∙ sym (entries_view-map es)

-- fields whose names and values are those of others, one by one
pub same_fields_view : (cs fs : List Field) → map field_view cs ≡ map field_view fs → fields_view cs ≡ fields_view fs
same_fields_view cs fs e = fields_view-map cs ∙ ap fields_of e ∙ sym (fields_view-map fs)

-- lists of the parts of others, one by one
pub same_parts : {X A : Type 0} (f : X → List A) (cs xs : List X) → map f cs ≡ map f xs → flat_map f cs ≡ flat_map f xs
same_parts f cs xs e = flat_map-map f cs ∙ ap joined e ∙ sym (flat_map-map f xs)

-- what a loop has seen after the last item
pub seen_all : {X A : Type 0} (f : X → A) (seen : List A) (xs : List X) (i : ℕ) → length xs ≤ i → seen ≡ map f (take i xs) → seen ≡ map f xs
seen_all f seen xs i le e = e ∙ ap (map f) (take_all i xs le)

-- a result that is told of the parts of a datum, as they are borrowed, is told of the datum
pub told_of : {A V E : Type 0} (g : Datum → V) (f : List A → V) (d e : Datum) (xs ys : List A) (r : Result Datum E) → d ≡ e → xs ≡ ys → g e ≡ f ys → IfOk r (λ x. g x ≡ f xs) → IfOk r (λ x. g x ≡ g d)
told_of g f d e xs ys r is borrowed told ok = subst (λ v. IfOk r (λ x. g x ≡ v)) (ap f borrowed ∙ sym (ap g is ∙ told)) ok

-- the items that a `for` over a `Vec` has yielded when none is left
pub all_yielded : {A : Type 0} (xs ys : List A) (s t u : IntoIter A Global) (r : Option A) → into_iter_items s ≡ xs → into_iter_len s ≡ length xs → Yields into_iter_steps s ys t → r ≡ None → into_iter_steps t r u → ys ≡ xs
all_yielded xs ys s t u r items len yields none step = sym (map-id ys) ∙ (YieldsList-end (YieldsList-from_vec xs items len) ys t yields r u none step).0
