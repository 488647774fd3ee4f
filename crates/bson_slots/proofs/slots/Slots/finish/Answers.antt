use Rattle.std.proofs.Common.{arith}
use Rattle.bson_slots.proofs.Finished.{all_finished}
use Rattle.bson_slots.proofs.slots.Slots.finish.Goals as goal

pub returns-then-len-self : goal.returns-then-len-self
returns-then-len-self c = record { exact = all_finished c.args.self.reader.now c.args.self.fields.now c.args.self.first.items c.args.self.later.items c.args.self.named (omega arith) }
