use Rattle.std.proofs.Common.{ap, sym, ◌∙◌}
use Rattle.std.specs.Str.{bytes_eq}
use Rattle.bson_pass_parts.proofs.AnyOrder.{field_at}
use Rattle.bson_pass_parts.proofs.found.place_of.Goals as goal

pub returns-in-Some-clause-found : goal.returns-in-Some-clause-found
returns-in-Some-clause-found c =
    let found = c.in-Some.ensures.lookup in
    field_at c.args.fields.now c.args.next c.in-Some.field.now c.args.key.now found.3.0 found.1 (ap (λ x. bytes_eq x c.args.key.now) (sym c.as_str.ensures.value) ∙ sym c.eq.ensures ∙ c.if-eq.true)
