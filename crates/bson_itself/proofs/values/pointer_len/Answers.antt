use Rattle.std.proofs.Common.{arith}
use Rattle.bson_itself.proofs.TwoParts.{pointer_is}
use Rattle.bson_itself.proofs.values.pointer_len.Goals as goal

pub returns-clause-pointer : goal.returns-clause-pointer
returns-clause-pointer c = let text = c.in_ok-text in pointer_is c.args.bytes.now text.text c.known_bytes.ensures (omega (arith, text.ensures.within, c.if-bytes-text-lt12.false)) text.ensures.text
