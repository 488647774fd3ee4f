use Rattle.std.proofs.Common.{sym, ◌∙◌}
use Rattle.bson_rawdoc.specs.DocumentTree.{pairs_at}
use Rattle.bson_rawdoc.specs.DocumentView.{document_bytes}
use Rattle.bson_infer_run.specs.SummaryView.{struct_form}
use Rattle.bson_infer_run.proofs.Covering.{covered_by}
use Rattle.bson_infer_run.proofs.covered.has_document.Goals as goal

pub returns : goal.returns
returns c = λ t.
    covered_by (struct_form c.args.fields.now) c.size_of_document.result (pairs_at 200 (document_bytes c.args.document)) c.requires.1 (sym c.is_some.ensures ∙ t) c.size_of_document.ensures
