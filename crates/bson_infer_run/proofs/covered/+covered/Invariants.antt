use Rattle.std.proofs.Common.{◌+◌, ◌*◌}
use Rattle.bson_rawdoc.specs.DocumentTree.{pairs_at}
use Rattle.bson_rawdoc.specs.DocumentView.{document_bytes}
use Rattle.bson_infer_run.proofs.Covering.{IsPartOf}
use Rattle.bson_infer_run.proofs.covered.+covered.Given as goal

abbrev pub decreases-size_of_document : goal.decreases-size_of_document
decreases-size_of_document l = 3 * l.levels

abbrev pub decreases-size_of_element : goal.decreases-size_of_element
decreases-size_of_element l = 3 * l.levels + 2

abbrev pub decreases-size_of_value : goal.decreases-size_of_value
decreases-size_of_value l = 3 * l.levels + 1

abbrev pub invariant-size_of_document-loop-element : goal.invariant-size_of_document-loop-element
invariant-size_of_document-loop-element l =
    (goal.iterator-size_of_document-loop-element).can_next l.element-iterator × (goal.iterator-size_of_document-loop-element).is_finite l.element-iterator
    × IsPartOf l.fields l.inner l.place l.total l.element-iterator (pairs_at l.levels (document_bytes l.document))
