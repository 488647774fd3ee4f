-- What an element of a document does to the slots of a struct, by the place of its key among the names of the fields.
use Rattle.std.proofs.Common.{◌≡◌, ℕ, zero, suc, ◌<◌, List, [], ◌∷◌, length, get_or, map, set, Bool, true, false, cond, Option, Some, None, Result, Ok, Err, refl, ap, sym, subst, ◌∙◌, string_bytes, arith}
use Rattle.std.specs.Prelude.{is_some, option_map}
use Rattle.std.specs.Str.{bytes_eq}
use Rattle.bson_kinds.specs.Text.{Utf8}
use Rattle.bson_kinds.specs.Outcome.{◌>>=◌, result_map}
use Rattle.bson_rawdoc.specs.Node.{Node}
use Rattle.bson_shape.specs.Form.{UnknownFields}
use Rattle.bson_shape.specs.declared.shape.FieldShape.{FieldShape}
use Rattle.bson_values.specs.Cause.{duplicate_field}
use Rattle.bson_values.specs.Marked.{Marked}
use Rattle.bson_values.specs.Refusal.{under}
use Rattle.bson_datum.specs.declared.datum.Datum.{Datum}
use Rattle.bson_datum.specs.declared.datum.Field.{Field}
use Rattle.bson_values.specs.declared.de.Fault.{Fault}
use Rattle.bson_values.specs.declared.stop.Stop.{Stop}
use Rattle.bson_laws.specs.declared.origin.Reader.{Reader}
use Rattle.bson_laws.specs.Judged.{Reading, refused}
use Rattle.bson_laws.specs.ReadsFrom.{reads_for}
use Rattle.bson_laws.specs.Slots.{Slot, Slots, fill_slot, unknown, put_at}
use Rattle.bson_laws.proofs.Placed.{names_of, IsFirst, IsNone, put_first, put_none}
use Rattle.bson_slots.specs.FieldSlots.{field_slots, slot_of, value_at, with_value}
use Rattle.bson_slots.specs.Place.{place_of}
use Rattle.bson_slots.specs.SlotsView.{slots_view}
use Rattle.bson_slots.specs.declared.slots.Slots as code
use Rattle.bson_met.specs.Gives.{Reaches}
use Rattle.bson_met.proofs.Refusals.{StopsAs, stops_bind}

-- ---- places

abbrev or_zero : Option ℕ → ℕ
or_zero None = 0
or_zero (Some i) = i

-- the place is that of the first name that is the key
first_name : (key name : Utf8) (names : List Utf8) (i : ℕ) (b : Bool) (o : Option ℕ) → bytes_eq name key ≡ b → ((j : ℕ) → o ≡ Some j → IsFirst key names j) → cond b (Some 0) (option_map suc o) ≡ Some i → IsFirst key (name ∷ names) i
first_name key name names zero true o is others e = is
first_name key name names (suc i) true o is others e = absurd (omega (arith, ap or_zero e))
first_name key name names i false None is others e = absurd cc
first_name key name names zero false (Some j) is others e = absurd (omega (arith, ap or_zero e))
first_name key name names (suc i) false (Some j) is others e = let same : j ≡ i = omega (arith, ap or_zero e) in (is, others i (ap Some same))

pub first_at : (key : Utf8) (names : List Utf8) (i : ℕ) → place_of names key ≡ Some i → IsFirst key names i
first_at key [] i e = absurd cc
first_at key (name ∷ names) i e = first_name key name names i (bytes_eq name key) (place_of names key) refl (first_at key names) e

no_name : (key name : Utf8) (names : List Utf8) (b : Bool) (o : Option ℕ) → bytes_eq name key ≡ b → (o ≡ None → IsNone key names) → cond b (Some 0) (option_map suc o) ≡ None → IsNone key (name ∷ names)
no_name key name names true o is others e = absurd cc
no_name key name names false None is others e = (is, others refl)
no_name key name names false (Some j) is others e = absurd cc

pub none_is : (key : Utf8) (names : List Utf8) → place_of names key ≡ None → IsNone key names
none_is key [] e = tt
none_is key (name ∷ names) e = no_name key name names (bytes_eq name key) (place_of names key) refl (none_is key names) e

-- ---- slots

slot_value : (slots : Slots) (i : ℕ) (default : Slot) → i < length slots → value_at slots i ≡ (get_or slots i default).value
slot_value [] i default lt = absurd (omega arith)
slot_value (slot ∷ slots) zero default lt = refl
slot_value (slot ∷ slots) (suc i) default lt = slot_value slots i default (omega arith)

with_set : (slots : Slots) (i : ℕ) (default : Slot) (v : Marked) → with_value slots i v ≡ set slots i (record (get_or slots i default) { value = Some v })
with_set [] i default v = refl
with_set (slot ∷ slots) zero default v = refl
with_set (slot ∷ slots) (suc i) default v = ap (λ others. slot ∷ others) (with_set slots i default v)

first_within : (key : Utf8) (slots : Slots) (i : ℕ) → IsFirst key (names_of slots) i → i < length slots
first_within key [] i h = absurd h
first_within key (slot ∷ slots) zero h = omega arith
first_within key (slot ∷ slots) (suc i) h = let below : i < length slots = first_within key slots i h.1 in omega (arith, below)

set_filled : (slots : Slots) (i : ℕ) (slot : Slot) (r : Reading Marked) → result_map (λ filled. set slots i filled) (r >>= λ v. Ok (record slot { value = Some v })) ≡ (r >>= λ v. Ok (set slots i (record slot { value = Some v })))
set_filled slots i slot (Ok v) = refl
set_filled slots i slot (Err e) = refl

with_sets : (slots : Slots) (i : ℕ) (default : Slot) (r : Reading Marked) → (r >>= λ v. Ok (set slots i (record (get_or slots i default) { value = Some v }))) ≡ (r >>= λ v. Ok (with_value slots i v))
with_sets slots i default (Ok v) = ap Ok (sym (with_set slots i default v))
with_sets slots i default (Err e) = refl

-- the slot at the place has no value
none_from : (o : Option Marked) → is_some o ≡ false → o ≡ None
none_from None e = refl
none_from (Some v) e = absurd cc

slot_new : (u : UnknownFields) (key : Utf8) (n : Node) (slots : Slots) (i : ℕ) (default : Slot) → IsFirst key (names_of slots) i → is_some (value_at slots i) ≡ false
    → put_at u key n slots ≡ (under key ((get_or slots i default).read n) >>= λ v. Ok (with_value slots i v))
slot_new u key n slots i default first new =
    let slot = get_or slots i default in
    put_first u key n slots i default first
    ∙ ap (λ o. result_map (λ filled. set slots i filled) (fill_slot key n slot o)) (sym (slot_value slots i default (first_within key slots i first)) ∙ none_from (value_at slots i) new)
    ∙ set_filled slots i slot (under key (slot.read n))
    ∙ with_sets slots i default (under key (slot.read n))

-- it has one
twice : (key : Utf8) (n : Node) (slots : Slots) (i : ℕ) (slot : Slot) (o : Option Marked) → is_some o ≡ true → result_map (λ filled. set slots i filled) (fill_slot key n slot o) ≡ refused (duplicate_field key)
twice key n slots i slot None e = absurd cc
twice key n slots i slot (Some v) e = refl

slot_again : (u : UnknownFields) (key : Utf8) (n : Node) (slots : Slots) (i : ℕ) (default : Slot) → IsFirst key (names_of slots) i → is_some (value_at slots i) ≡ true → put_at u key n slots ≡ refused (duplicate_field key)
slot_again u key n slots i default first old =
    put_first u key n slots i default first
    ∙ twice key n slots i (get_or slots i default) (get_or slots i default).value (ap is_some (sym (slot_value slots i default (first_within key slots i first))) ∙ old)

-- ---- the slots of fields

pub names_are : (reader : Reader) (fs : List FieldShape) (first : List Field) (later : List (Option Datum)) → names_of (field_slots reader fs first later) ≡ map (λ (f : FieldShape). string_bytes f.name) fs
names_are reader [] first later = refl
names_are reader (f ∷ fs) (x ∷ first) later = ap (λ names. string_bytes f.name ∷ names) (names_are reader fs first later)
names_are reader (f ∷ fs) [] (v ∷ later) = ap (λ names. string_bytes f.name ∷ names) (names_are reader fs [] later)
names_are reader (f ∷ fs) [] [] = ap (λ names. string_bytes f.name ∷ names) (names_are reader fs [] [])

pub slot_reads : (reader : Reader) (fs : List FieldShape) (first : List Field) (later : List (Option Datum)) (i : ℕ) (d : FieldShape)
    → (get_or (field_slots reader fs first later) i (slot_of reader d None)).read ≡ reads_for reader (get_or fs i d).shape
slot_reads reader [] first later i d = refl
slot_reads reader (f ∷ fs) (x ∷ first) later zero d = refl
slot_reads reader (f ∷ fs) (x ∷ first) later (suc i) d = slot_reads reader fs first later i d
slot_reads reader (f ∷ fs) [] (v ∷ later) zero d = refl
slot_reads reader (f ∷ fs) [] (v ∷ later) (suc i) d = slot_reads reader fs [] later i d
slot_reads reader (f ∷ fs) [] [] zero d = refl
slot_reads reader (f ∷ fs) [] [] (suc i) d = slot_reads reader fs [] [] i d

-- the place of a key among the names of the fields of slots
abbrev pub key_place : code.Slots → Utf8 → Option ℕ
key_place s key = place_of (map (λ (f : FieldShape). string_bytes f.name) s.fields.now) key

first_key : (s : code.Slots) (key : Utf8) (i : ℕ) → key_place s key ≡ Some i → IsFirst key (names_of (slots_view s)) i
first_key s key i e = first_at key (names_of (slots_view s)) i (ap (λ names. place_of names key) (names_are s.reader.now s.fields.now s.first.items s.later.items) ∙ e)

-- the key is the name of a field that has no value: the value is read at the field's shape
module _ (s : code.Slots) (u : UnknownFields) (key : Utf8) (n : Node) (i : ℕ) (d : FieldShape) (place : key_place s key ≡ Some i) (unfilled : is_some (value_at (slots_view s) i) ≡ false) where
  pub put_unfilled : put_at u key n (slots_view s) ≡ (under key (reads_for s.reader.now (get_or s.fields.now i d).shape n) >>= λ v. Ok (with_value (slots_view s) i v))
  put_unfilled =
      slot_new u key n (slots_view s) i (slot_of s.reader.now d None) (first_key s key i place) unfilled
      ∙ ap (λ (read : Node → Reading Marked). under key (read n) >>= λ v. Ok (with_value (slots_view s) i v)) (slot_reads s.reader.now s.fields.now s.first.items s.later.items i d)

  pub value_put : (v : Marked) → under key (reads_for s.reader.now (get_or s.fields.now i d).shape n) ≡ Ok v → put_at u key n (slots_view s) ≡ Ok (with_value (slots_view s) i v)
  value_put v e = put_unfilled ∙ ap (λ r. r >>= λ x. Ok (with_value (slots_view s) i x)) e

  pub value_refused : (t : Stop Fault) → StopsAs t (under key (reads_for s.reader.now (get_or s.fields.now i d).shape n)) → StopsAs t (put_at u key n (slots_view s))
  value_refused t h = subst (λ (r : Reading Slots). StopsAs t r) (sym put_unfilled) (stops_bind t (under key (reads_for s.reader.now (get_or s.fields.now i d).shape n)) (λ v. Ok (with_value (slots_view s) i v)) h)

-- the key is the name of a field that has a value: the element is refused
module _ (s : code.Slots) (u : UnknownFields) (key : Utf8) (n : Node) (i : ℕ) (place : key_place s key ≡ Some i) (filled : is_some (value_at (slots_view s) i) ≡ true) (default : Slot) where
  pub put_filled : put_at u key n (slots_view s) ≡ refused (duplicate_field key)
  put_filled = slot_again u key n (slots_view s) i default (first_key s key i place) filled

-- the key is the name of no field
module _ (s : code.Slots) (u : UnknownFields) (key : Utf8) (n : Node) (none : key_place s key ≡ None) where
  put_unknown : put_at u key n (slots_view s) ≡ (unknown u key n >>= λ _. Ok (slots_view s))
  put_unknown = put_none u key n (slots_view s) (none_is key (names_of (slots_view s)) (ap (λ names. place_of names key) (names_are s.reader.now s.fields.now s.first.items s.later.items) ∙ none))

  -- the slots are as before, or the struct is refused
  pub unknown_passed : (r : Result (Unit {0}) (Stop Fault)) → Reaches (λ x. x) r (unknown u key n) → Reaches (λ _. slots_view s) r (put_at u key n (slots_view s))
  unknown_passed (Ok x) h = put_unknown ∙ ap (λ r. r >>= λ _. Ok (slots_view s)) h
  unknown_passed (Err t) h = subst (λ (r : Reading Slots). StopsAs t r) (sym put_unknown) (stops_bind t (unknown u key n) (λ _. Ok (slots_view s)) h)
