use Rattle.std.proofs.Common.{◌∙◌, arith}
use Rattle.bson_texts.proofs.Each.{each}
use Rattle.bson_texts.proofs.Loops.{bytes_by, bytes_each}
use Rattle.bson_texts.proofs.byte_string.bytes_of_items.Goals as goal

pub step-init : goal.step-init
step-init c = (omega (arith, c.start-value.ensures.few), (λ i. each bytes_by 0 c.args.items (c.new-bytes.ensures.items i)) ∙ bytes_each c.args.items)
