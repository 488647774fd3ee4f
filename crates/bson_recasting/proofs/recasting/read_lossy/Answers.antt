use Rattle.bson_de_raw.proofs.ReadBack.{gives_lossy}
use Rattle.bson_recasting.proofs.recasting.read_lossy.Goals as goal

pub returns : goal.returns
returns c = record { exact = gives_lossy c.args.shape.now c.args.bytes.now c.from_slice_utf8_lossy_at.result c.from_slice_utf8_lossy_at.ensures.exact }
