use Rattle.std.proofs.Common.{◌≡◌, ap, ◌∙◌, string_bytes, arith}
use Rattle.bson_evolve_check.specs.Steps.{step_view, steps_view, variant_path}
use Rattle.bson_evolve_check.proofs.Pushes.{each_field_all, each_field_more, pushed}
use Rattle.bson_evolve_check.proofs.RowLists.{key_step}
use Rattle.bson_evolve_check.proofs.content.push_each_field.Goals as goal

pub loop-field-preserved : goal.loop-field-preserved
loop-field-preserved c =
    let path = variant_path c.args.variant in
    let f = c.field-item.result in
    let is : step_view c.at_key.result ≡ key_step path (string_bytes f.name) f.shape c.args.new.now = c.at_key.ensures ∙ ap (λ n. key_step path n f.shape c.args.new.now) c.as_str.ensures.value in
    each_field_more path c.args.old.now c.loop-field.field-index f c.args.new.now (steps_view c.loop-field.steps.items) (steps_view c.push.new.self.items) _ (omega arith) c.field-item.is
    (pushed c.loop-field.steps.items c.push.new.self.items c.at_key.result _ c.in_ok-push.ensures.items is) c.loop-field.invariant

pub returns : goal.returns
returns c = each_field_all (variant_path c.args.variant) c.args.old.now c.loop-field.field-index c.args.new.now (steps_view c.loop-field.steps.items) _ (omega arith) c.loop-field.invariant
