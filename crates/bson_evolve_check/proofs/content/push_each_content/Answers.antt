use Rattle.std.proofs.Common.{◌++◌, ap, ◌∙◌, arith}
use Rattle.bson_shape.specs.ShapeView as view
use Rattle.bson_evolve_laws.specs.Rows as rows
use Rattle.bson_evolve_check.specs.Steps.{steps_view}
use Rattle.bson_evolve_check.proofs.Pushes.{each_content_all, each_content_more}
use Rattle.bson_evolve_check.proofs.content.push_each_content.Goals as goal

pub loop-variant-preserved : goal.loop-variant-preserved
loop-variant-preserved c =
    let v = c.variant-item.result in
    let ss = steps_view c.loop-variant.steps.items in
    each_content_more c.args.old.now c.loop-variant.variant-index v c.args.new.now ss (steps_view c.push_each_part.new.steps.items) _ (omega arith) c.variant-item.is
    (c.in_ok-push_each_part.ensures ∙ ap (λ n. ss ++ rows.each_in_content n (view.content_of v.content) c.args.new.now) c.as_str.ensures.value) c.loop-variant.invariant

pub returns : goal.returns
returns c = each_content_all c.args.old.now c.loop-variant.variant-index c.args.new.now (steps_view c.loop-variant.steps.items) _ (omega arith) c.loop-variant.invariant
