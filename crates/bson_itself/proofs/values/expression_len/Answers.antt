use Rattle.std.proofs.Common.{refl}
use Rattle.bson_itself.proofs.Expressions.{expression_is}
use Rattle.bson_itself.proofs.values.expression_len.Goals as goal

pub returns-clause-expression : goal.returns-clause-expression
returns-clause-expression c =
    let first = c.in_ok-pattern in
    let second = c.in_ok-options in
    expression_is c.args.bytes.now first.pattern.now second.options.now first.behind.now second.field-0-1.now first.ensures second.ensures (c.if-not-are_in_order.ensures refl)
