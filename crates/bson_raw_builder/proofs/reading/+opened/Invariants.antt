use Rattle.std.proofs.Common.{◌≡◌, ◌*◌, ◌≤◌}
use Rattle.bson_base.specs.BsonView.{pairs_of}
use Rattle.bson_base.specs.Tree.{no_pairs}
use Rattle.bson_laws.specs.TreeRaw.{opened_pairs}
use Rattle.bson_met.specs.ContainerView.{document_elements}
use Rattle.bson_met.specs.Sizes.{count, size, sizes}
use Rattle.bson_raw_builder.proofs.reading.+opened.Given as goal

abbrev pub decreases-document_of_opened : goal.decreases-document_of_opened
decreases-document_of_opened l = 2 * sizes (document_elements l.document)

abbrev pub decreases-value_of_opened : goal.decreases-value_of_opened
decreases-value_of_opened l = 2 * size l.value.now

-- what is left of the document, put to the pairs so far, is all that is in it
abbrev pub invariant-document_of_opened-step : goal.invariant-document_of_opened-step
invariant-document_of_opened-step l =
    (sizes l.elements ≤ sizes (document_elements l.document)) × (opened_pairs l.elements (pairs_of l.pairs) ≡ opened_pairs (document_elements l.document) no_pairs)

abbrev pub decreases-document_of_opened-step : goal.decreases-document_of_opened-step
decreases-document_of_opened-step l = count l.elements
