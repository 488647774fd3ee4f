use Rattle.std.proofs.Common.{Some, rules}
use Rattle.std.specs.Prelude.{codes}
use Rattle.bson_base.specs.Sorted.{sorted}
use Rattle.bson_base.specs.Tree as tree
use Rattle.bson_shape.specs.Form.{field, no_fields}
use Rattle.bson_laws.specs.Wrapped.{text, two_texts}
use Rattle.bson_wrapped.proofs.Made.{fields_stop}
use Rattle.bson_wrapped.proofs.bodies.regular_expression.Goals as goal

pub returns-in_err-pattern : goal.returns-in_err-pattern
returns-in_err-pattern c =
    let here = fields_stop (field (codes "pattern") text (field (codes "options") text no_fields)) (two_texts (λ p o. Some (tree.regular_expression p (sorted o)))) c.args.value.now c.in_err-pattern.field-0.0 c.in_err-pattern.ensures.exact in
    record { exact = search (rules, here) }
