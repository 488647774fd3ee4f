-- Equality, part by part.
use Rattle.std.proofs.Common.{◌≡◌, ℕ, Bool, true, false, List, [], ◌∷◌, map, length, drop, refl, ap, sym, ◌∙◌, arith}
use Rattle.std.specs.Prelude.{◌&&◌}
use Rattle.std.specs.Global.{Box, Vec}
use Rattle.std.proofs.lemmas.Bool.{and_right}
use Rattle.bson_kinds.specs.Text.{Utf8}
use Rattle.bson_values.specs.Value as value
use Rattle.bson_values.specs.Value.{Value, Items, Entries, FieldValues, newtype, newtype_variant, sequence, tuple, tuple_structure, tuple_variant, structure, structure_variant}
use Rattle.bson_datum.specs.View.{view, items_view, entries_view, fields_view}
use Rattle.bson_values.specs.Same.{same, same_items, same_entries, same_fields}
use Rattle.bson_values.specs.declared.text.Text.{Text}
use Rattle.bson_datum.specs.declared.datum.Entry.{Entry}
use Rattle.bson_datum.specs.declared.datum.Field.{Field}
use Rattle.bson_datum.specs.declared.datum.Datum.{Datum, NewtypeStruct, NewtypeStruct', NewtypeVariant, NewtypeVariant', Seq, Seq', Tuple, Tuple', TupleStruct, TupleStruct', TupleVariant, TupleVariant', Map, Map', Struct, Struct', StructVariant, StructVariant'}
use Rattle.bson_datum.specs.declared.datum.Datum.TheViews.{roll-Datum, roll-out-Datum, rolls-NewtypeStruct, outs-NewtypeStruct', rolls-NewtypeVariant, outs-NewtypeVariant', rolls-Seq, outs-Seq', rolls-Tuple, outs-Tuple', rolls-TupleStruct, outs-TupleStruct', rolls-TupleVariant, outs-TupleVariant', rolls-Map, outs-Map', rolls-Struct, outs-Struct', rolls-StructVariant, outs-StructVariant'}

-- the values that a loop has left to compare
abbrev pub same_items_from : ℕ → List Datum → List Datum → Bool
same_items_from i ds es = same_items (items_view (drop i ds)) (items_view (drop i es))

pub same_items-lengths : (ds es : List Datum) → (length ds ≡ length es → ⊥) → same_items (items_view ds) (items_view es) ≡ false
same_items-lengths [] [] h = absurd (h refl)
same_items-lengths [] (e ∷ es) h = refl
same_items-lengths (d ∷ ds) [] h = refl
same_items-lengths (d ∷ ds) (e ∷ es) h = and_right _ _ (same_items-lengths ds es (λ e. h (omega arith)))

-- the entries that a loop has left to compare
abbrev pub same_entries_from : ℕ → List Entry → List Entry → Bool
same_entries_from i cs ds = same_entries (entries_view (drop i cs)) (entries_view (drop i ds))

pub same_entries-lengths : (cs ds : List Entry) → (length cs ≡ length ds → ⊥) → same_entries (entries_view cs) (entries_view ds) ≡ false
same_entries-lengths [] [] h = absurd (h refl)
same_entries-lengths [] (d ∷ ds) h = refl
same_entries-lengths (c ∷ cs) [] h = refl
same_entries-lengths (c ∷ cs) (d ∷ ds) h = and_right _ _ (same_entries-lengths cs ds (λ e. h (omega arith)))

-- the fields that a loop has left to compare
abbrev pub same_fields_from : ℕ → List Field → List Field → Bool
same_fields_from i fs gs = same_fields (fields_view (drop i fs)) (fields_view (drop i gs))

pub same_fields-lengths : (fs gs : List Field) → (length fs ≡ length gs → ⊥) → same_fields (fields_view fs) (fields_view gs) ≡ false
same_fields-lengths [] [] h = absurd (h refl)
same_fields-lengths [] (g ∷ gs) h = refl
same_fields-lengths (f ∷ fs) [] h = refl
same_fields-lengths (f ∷ fs) (g ∷ gs) h = and_right _ _ (same_fields-lengths fs gs (λ e. h (omega arith)))

-- a newtype and a datum that is none
pub unlike_newtype : (n : Utf8) (v : Value) (d : Datum) → ((m : Text) (b : Box Datum) → d ≡ NewtypeStruct m b → ⊥) → false ≡ same (newtype n v) (view d)
unlike_newtype n v (NewtypeStruct' m p w) none = absurd (none m _ (sym (roll-out-Datum (NewtypeStruct' m p w)) ∙ ap roll-Datum (outs-NewtypeStruct' m p w) ∙ rolls-NewtypeStruct m _))
unlike_newtype n v d none = refl

-- a variant around one value and a datum that is none
pub unlike_newtype_variant : (n : Utf8) (v : Value) (d : Datum) → ((m : Text) (b : Box Datum) → d ≡ NewtypeVariant m b → ⊥) → false ≡ same (newtype_variant n v) (view d)
unlike_newtype_variant n v (NewtypeVariant' m p w) none = absurd (none m _ (sym (roll-out-Datum (NewtypeVariant' m p w)) ∙ ap roll-Datum (outs-NewtypeVariant' m p w) ∙ rolls-NewtypeVariant m _))
unlike_newtype_variant n v d none = refl

-- a sequence and a datum that is none
pub unlike_sequence : (is : Items) (d : Datum) → ((xs : Vec Datum) → d ≡ Seq xs → ⊥) → false ≡ same (sequence is) (view d)
unlike_sequence is (Seq' shape rows) none = absurd (none _ (sym (roll-out-Datum (Seq' shape rows)) ∙ ap roll-Datum (outs-Seq' shape rows) ∙ rolls-Seq _))
unlike_sequence is d none = refl

-- a tuple and a datum that is none
pub unlike_tuple : (is : Items) (d : Datum) → ((xs : Vec Datum) → d ≡ Tuple xs → ⊥) → false ≡ same (tuple is) (view d)
unlike_tuple is (Tuple' shape rows) none = absurd (none _ (sym (roll-out-Datum (Tuple' shape rows)) ∙ ap roll-Datum (outs-Tuple' shape rows) ∙ rolls-Tuple _))
unlike_tuple is d none = refl

-- a tuple struct and a datum that is none
pub unlike_tuple_struct : (n : Utf8) (is : Items) (d : Datum) → ((m : Text) (xs : Vec Datum) → d ≡ TupleStruct m xs → ⊥) → false ≡ same (tuple_structure n is) (view d)
unlike_tuple_struct n is (TupleStruct' m shape rows) none = absurd (none m _ (sym (roll-out-Datum (TupleStruct' m shape rows)) ∙ ap roll-Datum (outs-TupleStruct' m shape rows) ∙ rolls-TupleStruct m _))
unlike_tuple_struct n is d none = refl

-- a variant with values and a datum that is none
pub unlike_tuple_variant : (n : Utf8) (is : Items) (d : Datum) → ((m : Text) (xs : Vec Datum) → d ≡ TupleVariant m xs → ⊥) → false ≡ same (tuple_variant n is) (view d)
unlike_tuple_variant n is (TupleVariant' m shape rows) none = absurd (none m _ (sym (roll-out-Datum (TupleVariant' m shape rows)) ∙ ap roll-Datum (outs-TupleVariant' m shape rows) ∙ rolls-TupleVariant m _))
unlike_tuple_variant n is d none = refl

-- a map and a datum that is none
pub unlike_map : (es : Entries) (d : Datum) → ((xs : Vec Entry) → d ≡ Map xs → ⊥) → false ≡ same (value.map es) (view d)
unlike_map es (Map' shape rows) none = absurd (none _ (sym (roll-out-Datum (Map' shape rows)) ∙ ap roll-Datum (outs-Map' shape rows) ∙ rolls-Map _))
unlike_map es d none = refl

-- a struct and a datum that is none
pub unlike_struct : (n : Utf8) (fs : FieldValues) (d : Datum) → ((m : Text) (xs : Vec Field) → d ≡ Struct m xs → ⊥) → false ≡ same (structure n fs) (view d)
unlike_struct n fs (Struct' m shape rows) none = absurd (none m _ (sym (roll-out-Datum (Struct' m shape rows)) ∙ ap roll-Datum (outs-Struct' m shape rows) ∙ rolls-Struct m _))
unlike_struct n fs d none = refl

-- a variant with fields and a datum that is none
pub unlike_struct_variant : (n : Utf8) (fs : FieldValues) (d : Datum) → ((m : Text) (xs : Vec Field) → d ≡ StructVariant m xs → ⊥) → false ≡ same (structure_variant n fs) (view d)
unlike_struct_variant n fs (StructVariant' m shape rows) none = absurd (none m _ (sym (roll-out-Datum (StructVariant' m shape rows)) ∙ ap roll-Datum (outs-StructVariant' m shape rows) ∙ rolls-StructVariant m _))
unlike_struct_variant n fs d none = refl

-- the value of a datum, whose parts are borrowed
seen_borrowed : {A : Type 0} (f : List A → Value) (d e : Datum) (xs ys : List A) → d ≡ e → xs ≡ ys → view e ≡ f ys → f xs ≡ view d
seen_borrowed f d e xs ys is borrowed seen = ap f borrowed ∙ sym (ap view is ∙ seen)

-- a test of a value against a datum, whose parts are borrowed
pub same_of_borrowed : {A : Type 0} (f : List A → Value) (d e : Datum) (xs ys : List A) (w : Value) (r : Bool) → d ≡ e → xs ≡ ys → view e ≡ f ys → r ≡ same (f xs) w → r ≡ same (view d) w
same_of_borrowed f d e xs ys w r is borrowed seen test = test ∙ ap (λ v. same v w) (seen_borrowed f d e xs ys is borrowed seen)

pub same_with_borrowed : {A : Type 0} (v : Value) (f : List A → Value) (d e : Datum) (xs ys : List A) (r : Bool) → d ≡ e → xs ≡ ys → view e ≡ f ys → r ≡ same v (f xs) → r ≡ same v (view d)
same_with_borrowed v f d e xs ys r is borrowed seen test = test ∙ ap (same v) (seen_borrowed f d e xs ys is borrowed seen)

-- two values of one name are equal where their other parts are
pub same_of_one_name : (named parts r : Bool) → named ≡ true → r ≡ parts → r ≡ named && parts
same_of_one_name named parts r is e = e ∙ ap (λ b. b && parts) (sym is)
