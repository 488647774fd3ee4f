use Rattle.std.proofs.Common.{◌≡◌, ◌+◌, IfOk, get_or, refl, ◌∙◌, sym, ap, subst, arith}
use Rattle.bson_base.specs.BsonView.{tree_of, pairs_of}
use Rattle.bson_infer_laws.specs.Inferred.{shape_of}
use Rattle.bson_infer_run.specs.Counted.{once, puts, counted_pairs}
use Rattle.bson_infer_run.specs.SummaryView.{counted, counted_of, struct_form, IsKnown}
use Rattle.bson_infer_run.specs.declared.summary.FieldSummary.{FieldSummary}
use Rattle.bson_infer_run.specs.declared.summary.StructSummary.{StructSummary}
use Rattle.bson_infer_laws.specs.Join.{join}
use Rattle.bson_infer_run.proofs.Places.{put_at}
use Rattle.bson_infer_run.proofs.Scalars.{scalar}
use Rattle.bson_infer_run.proofs.Structs.{set_twice, document_form, document_known, first_form, first_known}
use Rattle.bson_infer_run.proofs.add.+add.Goals as goal

pub add-returns-in_default : goal.add-returns-in_default
add-returns-in_default t c =
    let is : shape_of (tree_of c.args.value.now) ≡ c.leaf.result = scalar c.args.value.now c.leaf_of.result c.in_default.not-Array c.in_default.not-Document c.leaf_of.ensures ∙ sym c.leaf.ensures in
    subst (λ k. IfOk c.joined-in_default.result (λ s. s ≡ join c.args.summary k)) (sym is) c.joined-in_default.ensures

pub add_pair-returns-clause-field : goal.add_pair-returns-clause-field
add_pair-returns-clause-field t c =
    let s = c.place_of.new.self in
    let g = once c.args.key.now (shape_of (tree_of c.args.value.now)) in
    let new : FieldSummary = record { count = c.in-Some.count; summary = c.in_ok-summary.summary } in
    let old = c.replace-known.result in
    let is : old ≡ get_or s.fields.items c.in_ok-place.place old = rw c.replace-known.ensures.value c.index_mut.ensures.value in
    ap (counted s.names) (set_twice s.fields.items c.in_ok-place.place c.replace-known.new.dest new)
    ∙ put_at g s.names s.fields.items c.in_ok-place.place old new c.in_ok-place.ensures.place (omega (arith, c.in_ok-place.ensures.within)) is c.in-Some.ensures.1 c.in_ok-summary.ensures
    ∙ c.in_ok-place.ensures.puts g refl

pub of_document-of-requires : goal.of_document-of-requires
of_document-of-requires t c =
    let e = c.in_ok-add_pairs.ensures in
    let s = c.new-fields.ensures in
    subst IsKnown (sym c.in_ok-new.ensures.ok)
    (first_known c.add_pairs.new.fields (pairs_of c.args.document.now) c.requires e.even (e.count ∙ ap (λ n. n + 1) s.count) (e.fields ∙ ap (λ fs. puts fs (counted_pairs (pairs_of c.args.document.now))) s.none))

pub of_document-returns : goal.of_document-returns
of_document-returns t c =
    let e = c.in_ok-add_pairs.ensures in
    let s = c.new-fields.ensures in
    c.of.ensures ∙ ap struct_form c.in_ok-new.ensures.ok
    ∙ first_form c.add_pairs.new.fields (pairs_of c.args.document.now) c.requires (e.count ∙ ap (λ n. n + 1) s.count) (e.fields ∙ ap (λ fs. puts fs (counted_pairs (pairs_of c.args.document.now))) s.none)

pub with_document-returns-clause-known : goal.with_document-returns-clause-known
with_document-returns-clause-known t c =
    let e = c.in_ok-add_pairs.ensures in
    document_known c.deref_mut.result.now c.add_pairs.new.fields (pairs_of c.args.document.now) (subst IsKnown (sym c.deref_mut.ensures.value) c.requires.known) c.requires.clean e.even e.count e.fields

pub with_document-returns-clause-joined : goal.with_document-returns-clause-joined
with_document-returns-clause-joined t c =
    let e = c.in_ok-add_pairs.ensures in
    document_form c.args.fields.value c.add_pairs.new.fields (pairs_of c.args.document.now) c.requires.known c.requires.clean
    (e.count ∙ ap (λ (s : StructSummary). s.count + 1) c.deref_mut.ensures.value) (e.fields ∙ ap (λ (s : StructSummary). puts (counted_of s) (counted_pairs (pairs_of c.args.document.now))) c.deref_mut.ensures.value)
