use Rattle.std.proofs.Common.{ap, sym, subst, ◌∙◌}
use Rattle.bson_values.specs.Refusal.{FailsAs}
use Rattle.bson_values.specs.ErrorView.{read_fault, read_failure}
use Rattle.bson_values.specs.Stop.{stop_view}
use Rattle.bson_laws.specs.CompactReads.{reads}
use Rattle.bson_laws.specs.Reads.{answered}
use Rattle.bson_rawdoc.specs.DocumentView.{document_bytes}
use Rattle.bson_rawdoc.specs.Node.{mended}
use Rattle.bson_de_raw.proofs.Documents.{placed_as}
use Rattle.bson_de_raw.proofs.Lossy.{lossy_read}
use Rattle.bson_de_raw.proofs.document.from_slice_utf8_lossy_at.Goals as goal

pub returns-in-Ok : goal.returns-in-Ok
returns-in-Ok c =
    let s = c.args.shape.now in
    let d = document_bytes c.in_ok-document.document in
    record {
      exact = lossy_read s c.args.bytes.now d (sym c.in_ok-document.ensures.envelope)
          ∙ ap (λ n. answered (reads s n)) (sym (c.mended.ensures.mended ∙ ap mended c.of_document-document.ensures.node))
          ∙ ap answered c.in-Ok.ensures.exact;
    }

pub returns-in-Err : goal.returns-in-Err
returns-in-Err c =
    let s = c.args.shape.now in
    let d = document_bytes c.in_ok-document.document in
    let here = placed_as (stop_view read_fault c.in-Err.stop) (read_failure c.from_stop.result) (reads s c.mended.result) c.from_stop.ensures.placed c.in-Err.ensures.exact in
    record {
      exact = subst (FailsAs (read_failure c.from_stop.result))
          (ap (λ n. answered (reads s n)) (c.mended.ensures.mended ∙ ap mended c.of_document-document.ensures.node) ∙ sym (lossy_read s c.args.bytes.now d (sym c.in_ok-document.ensures.envelope))) here;
    }
