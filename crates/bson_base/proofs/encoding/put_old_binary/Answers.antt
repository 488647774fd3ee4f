use Rattle.bson_base.proofs.Encodings.{old_fault}
use Rattle.bson_base.proofs.encoding.put_old_binary.Goals as goal

pub returns-then-behind-gt-MAX_BINARY : goal.returns-then-behind-gt-MAX_BINARY
returns-then-behind-gt-MAX_BINARY c = old_fault c.args.bytes.now c.if-behind-gt-MAX_BINARY.true
