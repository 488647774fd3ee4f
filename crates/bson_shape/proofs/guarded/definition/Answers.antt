use Rattle.std.proofs.Common.{◌∙◌, sym, ap, arith}
use Rattle.std.specs.Str.{bytes_eq}
use Rattle.bson_shape.proofs.Chains.{definition_found, definition_missed}
use Rattle.bson_shape.proofs.guarded.definition.Goals as goal

pub returns-then-eq : goal.returns-then-eq
returns-then-eq c =
    let key = c.args.name.now in
    sym (definition_found c.args.table.now c.loop-field.field-index c.field-item.result key (omega arith) c.field-item.is c.loop-field.invariant
    (ap (λ n. bytes_eq n key) (sym c.as_str.ensures.value) ∙ sym c.eq.ensures ∙ c.if-eq.true))

pub loop-field-preserved : goal.loop-field-preserved
loop-field-preserved c =
    let key = c.args.name.now in
    definition_missed c.args.table.now c.loop-field.field-index c.field-item.result key (omega arith) c.field-item.is c.loop-field.invariant
    (ap (λ n. bytes_eq n key) (sym c.as_str.ensures.value) ∙ sym c.eq.ensures ∙ c.if-eq.false)
