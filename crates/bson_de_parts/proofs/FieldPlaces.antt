-- Fields that were read by their places, before those that are left.
use Rattle.std.proofs.Common.{◌≡◌, ℕ, suc, ◌+◌, ◌<◌, List, [], ◌∷◌, ◌++◌, length, get_or, drop, Ok, Err, refl, ap, sym, subst, ◌∙◌, add-one, string_bytes, arith}
use Rattle.std.proofs.Math.Seq.{drop-cons}
use Rattle.std.proofs.lemmas.List.{drop_all}
use Rattle.bson_kinds.specs.Outcome.{◌>>=◌, result_map}
use Rattle.bson_rawdoc.specs.Node.{Nodes}
use Rattle.bson_kinds.specs.Piece.{made}
use Rattle.bson_shape.specs.ShapeView.{fields_of}
use Rattle.bson_shape.specs.declared.shape.FieldShape.{FieldShape}
use Rattle.bson_values.specs.Marked.{MarkedFields}
use Rattle.bson_values.specs.Pieces.{text_piece}
use Rattle.bson_datum.specs.MarkedView.{marked}
use Rattle.bson_values.specs.Value.{no_field_values, field_value}
use Rattle.bson_datum.specs.declared.datum.Field.{Field}
use Rattle.bson_values.specs.declared.de.Fault.{Fault}
use Rattle.bson_values.specs.declared.stop.Stop.{Stop}
use Rattle.bson_laws.specs.declared.origin.Reader.{Reader}
use Rattle.bson_laws.specs.Judged.{Reading}
use Rattle.bson_laws.specs.ReadsFrom.{reads_for, slots_for}
use Rattle.bson_laws.specs.Slots.{reads_places}
use Rattle.bson_met.proofs.Refusals.{StopsAs, stops_bind, stops_map}
use Rattle.bson_slots.specs.FieldSlots.{fields_marked}
use Rattle.bson_laws.specs.Containers.{next_value, behind_first}

-- the values of these fields, and then the rest
abbrev pub values_before : List Field → MarkedFields → MarkedFields
values_before [] rest = rest
values_before (x ∷ xs) rest = field_value (text_piece x.name) (marked x.value) (values_before xs rest)

-- no values, and then all
pub all_left : (r : Reading MarkedFields) → result_map (values_before []) r ≡ r
all_left (Ok x) = refl
all_left (Err e) = refl

before-none : (xs : List Field) → values_before xs no_field_values ≡ fields_marked xs
before-none [] = refl
before-none (x ∷ xs) = ap (field_value (text_piece x.name) (marked x.value)) (before-none xs)

before-push : (xs : List Field) (x : Field) (rest : MarkedFields) → values_before (xs ++ x ∷ []) rest ≡ values_before xs (field_value (text_piece x.name) (marked x.value) rest)
before-push [] x rest = refl
before-push (y ∷ xs) x rest = ap (field_value (text_piece y.name) (marked y.value)) (before-push xs x rest)

more : (done : List Field) (x : Field) (r : Reading MarkedFields) → result_map (values_before done) (result_map (field_value (text_piece x.name) (marked x.value)) r) ≡ result_map (values_before (done ++ x ∷ [])) r
more done x (Ok rest) = ap Ok (sym (before-push done x rest))
more done x (Err e) = refl

module _ (reader : Reader) (fs : List FieldShape) (i : ℕ) (done : List Field) (old : Nodes) (total : Reading MarkedFields) (so_far : result_map (values_before done) (reads_places i (slots_for reader (fields_of (drop i fs))) old) ≡ total) where
  -- a field is left
  module _ (f : FieldShape) (lt : i < length fs) (stands : f ≡ get_or fs i f) where
    left : drop i fs ≡ f ∷ drop (suc i) fs
    left = drop-cons fs i f lt ∙ ap (λ g. g ∷ drop (suc i) fs) (sym stands)

    -- its value, and then those of the others
    expected : result_map (values_before done) (next_value i (reads_for reader f.shape) old >>= λ v. result_map (field_value (made (string_bytes f.name)) v) (reads_places (suc i) (slots_for reader (fields_of (drop (suc i) fs))) (behind_first old))) ≡ total
    expected =
        sym (ap (λ gs. result_map (values_before done) (reads_places i (slots_for reader (fields_of gs)) old)) left)
        ∙ so_far

    -- its value was read
    pub places_step : (new : Nodes) (x : Field) (all : List Field) → new ≡ behind_first old → next_value i (reads_for reader f.shape) old ≡ Ok (marked x.value) → text_piece x.name ≡ made (string_bytes f.name) → all ≡ done ++ x ∷ []
        → result_map (values_before all) (reads_places (i + 1) (slots_for reader (fields_of (drop (i + 1) fs))) new) ≡ total
    places_step new x all rest is named pushed =
        ap (λ n. result_map (values_before all) (reads_places n (slots_for reader (fields_of (drop n fs))) new)) (add-one i)
        ∙ (λ j. result_map (values_before (pushed j)) (reads_places (suc i) (slots_for reader (fields_of (drop (suc i) fs))) (rest j)))
        ∙ sym (more done x (reads_places (suc i) (slots_for reader (fields_of (drop (suc i) fs))) (behind_first old)))
        ∙ ap (λ n. result_map (values_before done) (result_map (field_value n (marked x.value)) (reads_places (suc i) (slots_for reader (fields_of (drop (suc i) fs))) (behind_first old)))) named
        ∙ sym (ap (λ r. result_map (values_before done) (r >>= λ v. result_map (field_value (made (string_bytes f.name)) v) (reads_places (suc i) (slots_for reader (fields_of (drop (suc i) fs))) (behind_first old)))) is)
        ∙ expected

    -- it is refused, or no element is left for it
    pub places_stop : (t : Stop Fault) → StopsAs t (next_value i (reads_for reader f.shape) old) → StopsAs t total
    places_stop t h =
        subst (λ (r : Reading MarkedFields). StopsAs t r) expected
        (stops_map t (values_before done) (next_value i (reads_for reader f.shape) old >>= λ v. result_map (field_value (made (string_bytes f.name)) v) (reads_places (suc i) (slots_for reader (fields_of (drop (suc i) fs))) (behind_first old)))
        (stops_bind t (next_value i (reads_for reader f.shape) old) (λ v. result_map (field_value (made (string_bytes f.name)) v) (reads_places (suc i) (slots_for reader (fields_of (drop (suc i) fs))) (behind_first old))) h))

  -- no field is left
  pub places_end : length fs ≡ i → total ≡ Ok (fields_marked done)
  places_end e = sym so_far ∙ ap (λ gs. result_map (values_before done) (reads_places i (slots_for reader (fields_of gs)) old)) (drop_all i fs (omega (arith, e))) ∙ ap Ok (before-none done)
