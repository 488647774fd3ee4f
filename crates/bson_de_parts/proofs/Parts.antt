-- Parts of a tuple that were read, before those that are left.
use Rattle.std.proofs.Common.{◌≡◌, ℕ, suc, ◌+◌, ◌<◌, List, [], ◌∷◌, ◌++◌, length, get_or, drop, Ok, Err, refl, ap, sym, subst, ◌∙◌, add-one, arith}
use Rattle.std.proofs.Math.Seq.{drop-cons}
use Rattle.std.proofs.lemmas.List.{drop_all}
use Rattle.bson_kinds.specs.Outcome.{◌>>=◌, result_map}
use Rattle.bson_rawdoc.specs.Node.{Nodes}
use Rattle.bson_shape.specs.Form.{Form}
use Rattle.bson_shape.specs.ShapeView.{parts_of}
use Rattle.bson_values.specs.Marked.{MarkedItems}
use Rattle.bson_datum.specs.MarkedView.{marked}
use Rattle.bson_values.specs.Value.{no_items, item}
use Rattle.bson_datum.specs.declared.datum.Datum.{Datum}
use Rattle.bson_values.specs.declared.de.Fault.{Fault}
use Rattle.bson_values.specs.declared.stop.Stop.{Stop}
use Rattle.bson_laws.specs.declared.origin.Reader.{Reader}
use Rattle.bson_laws.specs.Judged.{Reading}
use Rattle.bson_laws.specs.ReadsFrom.{reads_for, parts_for}
use Rattle.bson_met.proofs.Refusals.{StopsAs, stops_bind, stops_map}
use Rattle.bson_texts.specs.ListsMarked.{items_marked}
use Rattle.bson_laws.specs.Containers.{next_value, behind_first}

-- these items, and then the rest
abbrev pub items_before : List Datum → MarkedItems → MarkedItems
items_before [] rest = rest
items_before (d ∷ ds) rest = item (marked d) (items_before ds rest)

-- no items, and then all
pub all_left : (r : Reading MarkedItems) → result_map (items_before []) r ≡ r
all_left (Ok x) = refl
all_left (Err e) = refl

before-none : (ds : List Datum) → items_before ds no_items ≡ items_marked ds
before-none [] = refl
before-none (d ∷ ds) = ap (item (marked d)) (before-none ds)

before-push : (ds : List Datum) (d : Datum) (rest : MarkedItems) → items_before (ds ++ d ∷ []) rest ≡ items_before ds (item (marked d) rest)
before-push [] d rest = refl
before-push (e ∷ ds) d rest = ap (item (marked e)) (before-push ds d rest)

more : (done : List Datum) (d : Datum) (r : Reading MarkedItems) → result_map (items_before done) (result_map (item (marked d)) r) ≡ result_map (items_before (done ++ d ∷ [])) r
more done d (Ok rest) = ap Ok (sym (before-push done d rest))
more done d (Err e) = refl

module _ (reader : Reader) (ps : List Form) (i : ℕ) (done : List Datum) (old : Nodes) (total : Reading MarkedItems) (so_far : result_map (items_before done) (parts_for reader (parts_of (drop i ps)) i old) ≡ total) where
  -- a part is left
  module _ (s : Form) (lt : i < length ps) (stands : s ≡ get_or ps i s) where
    left : drop i ps ≡ s ∷ drop (suc i) ps
    left = drop-cons ps i s lt ∙ ap (λ f. f ∷ drop (suc i) ps) (sym stands)

    -- its value, and then those of the others
    expected : result_map (items_before done) (next_value i (reads_for reader s) old >>= λ v. result_map (item v) (parts_for reader (parts_of (drop (suc i) ps)) (suc i) (behind_first old))) ≡ total
    expected =
        sym (ap (λ qs. result_map (items_before done) (parts_for reader (parts_of qs) i old)) left)
        ∙ so_far

    -- its value was read
    pub parts_step : (new : Nodes) (d : Datum) (all : List Datum) → new ≡ behind_first old → next_value i (reads_for reader s) old ≡ Ok (marked d) → all ≡ done ++ d ∷ []
        → result_map (items_before all) (parts_for reader (parts_of (drop (i + 1) ps)) (i + 1) new) ≡ total
    parts_step new d all rest is pushed =
        ap (λ n. result_map (items_before all) (parts_for reader (parts_of (drop n ps)) n new)) (add-one i)
        ∙ (λ j. result_map (items_before (pushed j)) (parts_for reader (parts_of (drop (suc i) ps)) (suc i) (rest j)))
        ∙ sym (more done d (parts_for reader (parts_of (drop (suc i) ps)) (suc i) (behind_first old)))
        ∙ sym (ap (λ r. result_map (items_before done) (r >>= λ v. result_map (item v) (parts_for reader (parts_of (drop (suc i) ps)) (suc i) (behind_first old)))) is)
        ∙ expected

    -- it is refused, or no element is left for it
    pub parts_stop : (t : Stop Fault) → StopsAs t (next_value i (reads_for reader s) old) → StopsAs t total
    parts_stop t h =
        subst (λ (r : Reading MarkedItems). StopsAs t r) expected
        (stops_map t (items_before done) (next_value i (reads_for reader s) old >>= λ v. result_map (item v) (parts_for reader (parts_of (drop (suc i) ps)) (suc i) (behind_first old)))
        (stops_bind t (next_value i (reads_for reader s) old) (λ v. result_map (item v) (parts_for reader (parts_of (drop (suc i) ps)) (suc i) (behind_first old))) h))

  -- no part is left
  pub parts_end : length ps ≡ i → total ≡ Ok (items_marked done)
  parts_end e = sym so_far ∙ ap (λ qs. result_map (items_before done) (parts_for reader (parts_of qs) i old)) (drop_all i ps (omega (arith, e))) ∙ ap Ok (before-none done)
