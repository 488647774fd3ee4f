use Rattle.bson_datum.specs.View.{view}
use Rattle.bson_types.proofs.Written.{no_datum, value_written}
use Rattle.bson_types.proofs.writing.to_raw_document_buf.Goals as goal

pub returns-in-Ok : goal.returns-in-Ok
returns-in-Ok g c = record {
  bytes = value_written (λ d. d) (view c.in-Ok.datum) (g.T.Serialize.written c.args.value.now) c.document_of-document.result c.in-Ok.ensures.datum c.document_of-document.ensures;
}

pub returns-in-Err : goal.returns-in-Err
returns-in-Err g c = record {
  bytes = no_datum (λ d. d) c.in-Err.error (g.T.Serialize.written c.args.value.now) c.in-Err.ensures.datum;
}
