use Rattle.bson_datum.specs.View.{view}
use Rattle.bson_types.proofs.Written.{no_datum, datum_written}
use Rattle.bson_types.proofs.writing.to_vec.Goals as goal

pub returns-in-Ok : goal.returns-in-Ok
returns-in-Ok g c = record {
  bytes = datum_written (view c.in-Ok.datum) (g.T.Serialize.written c.args.value.now) c.to_vec_at-bytes.result c.in-Ok.ensures.datum c.to_vec_at-bytes.ensures.bytes c.to_vec_at-bytes.ensures.fits c.to_vec_at-bytes.ensures.refused c.to_vec_at-bytes.ensures.too_long c.to_vec_at-bytes.ensures.sound;
}

pub returns-in-Err : goal.returns-in-Err
returns-in-Err g c = record {
  bytes = no_datum (λ v. v.items) c.in-Err.error (g.T.Serialize.written c.args.value.now) c.in-Err.ensures.datum;
}
