use Rattle.bson_ser_stream.proofs.Binaries.{length-generic}
use Rattle.bson_ser_stream.proofs.Puts.{puts_at}
use Rattle.bson_ser_stream.proofs.scalar.put_bytes.Goals as goal

pub returns : goal.returns
returns g c = puts_at _ _ _ _ _ _ _ _ (length-generic c.args.bytes.now) c.put_binary.ensures
