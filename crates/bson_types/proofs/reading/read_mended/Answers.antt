use Rattle.bson_de_raw.proofs.ReadBack.{gives_lossy}
use Rattle.bson_types.proofs.reading.read_mended.Goals as goal

pub returns : goal.returns
returns c = record {
  value = gives_lossy c.args.shape.now c.args.bytes.now c.from_slice_utf8_lossy_at.result c.from_slice_utf8_lossy_at.ensures.exact;
}
