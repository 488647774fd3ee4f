use Rattle.std.proofs.Common.{Ok, ap, sym, subst, ◌∙◌}
use Rattle.bson_kinds.specs.Outcome.{◌>>=◌, result_map}
use Rattle.bson_base.specs.Tree.{no_pairs}
use Rattle.bson_kinds.specs.declared.element_type.ElementType.TheVariants as kinds
use Rattle.bson_kinds.proofs.Outcomes.{map_ok}
use Rattle.bson_kinds.specs.Piece.{made}
use Rattle.bson_values.specs.Marked.{Marked}
use Rattle.bson_datum.specs.MarkedView.{marked}
use Rattle.bson_laws.specs.Datum.{datum}
use Rattle.bson_laws.specs.Judged.{Reading}
use Rattle.bson_laws.specs.ReadsExtended.{object_id_at, tree_of_kind}
use Rattle.bson_laws.specs.Trees.{document_tree}
use Rattle.bson_met.specs.Gives.{Reaches}
use Rattle.bson_met.specs.ValueView.{value_view}
use Rattle.bson_trees.proofs.ReadKinds.{document_not_raw}
use Rattle.bson_trees.proofs.extended.object_id.Goals as goal

pub returns-in_ok-value-in-Document : goal.returns-in_ok-value-in-Document
returns-in_ok-value-in-Document c =
    let ns = c.of_document.result in
    let m = map_ok (datum made) (document_tree ns no_pairs) (marked c.in_ok-value-in-Document.value) c.in_ok-value-in-Document.ensures.exact in
    let whole =
    ap (λ r. r >>= λ n. result_map (datum made) (object_id_at n)) (c.in_ok-other.ensures.judged ∙ ap (λ v. Ok (value_view v)) c.in-Document.is)
    ∙ ap (λ xs. result_map (datum made) (document_tree xs no_pairs >>= tree_of_kind kinds.ObjectId)) (sym c.of_document.ensures.elements)
    ∙ ap (λ r. result_map (datum made) (r >>= tree_of_kind kinds.ObjectId)) m.1 in
    record { exact = subst (λ (r : Reading Marked). Reaches marked c.with_kind.result r) (sym whole) (c.with_kind.ensures.exact m.0 (document_not_raw ns no_pairs m.0 m.1) m.2) }
