use Rattle.bson_de_raw.proofs.ReadBack.{gives_document}
use Rattle.bson_recasting.proofs.recasting.read.Goals as goal

pub returns : goal.returns
returns c = record { exact = gives_document c.args.shape.now c.args.bytes.now c.from_slice_at.result c.from_slice_at.ensures.exact }
