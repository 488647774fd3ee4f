use Rattle.std.proofs.Common.{ap, sym, ◌∙◌}
use Rattle.std.specs.Str.{bytes_eq}
use Rattle.bson_pass_parts.proofs.AnyOrder.{field_at}
use Rattle.bson_pass_parts.proofs.found.scan.Goals as goal

pub returns-then-eq-clause-found : goal.returns-then-eq-clause-found
returns-then-eq-clause-found c =
    field_at c.args.fields.now c.loop-place.place c.index-fields-place.result c.args.key.now c.loop-place-test.true c.index-fields-place.is
    (ap (λ x. bytes_eq x c.args.key.now) (sym c.as_str.ensures.value) ∙ sym c.eq.ensures ∙ c.if-eq.true)
