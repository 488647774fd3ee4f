use Rattle.std.proofs.Common.{length, ap, arith}
use Rattle.bson_pass_parts.proofs.Runs.{first_head}
use Rattle.bson_pass_parts.proofs.run.element_len.Goals as goal

pub overflow_add-result-2 : goal.overflow_add-result-2
overflow_add-result-2 c =
    let fits = (first_head c.args.bytes.now c.args.element.now c.requires).fits in
    omega (arith, fits, ap length c.key.ensures.key, ap length c.slice.ensures.slice)

pub returns-clause-head : goal.returns-clause-head
returns-clause-head c = first_head c.args.bytes.now c.args.element.now c.requires
