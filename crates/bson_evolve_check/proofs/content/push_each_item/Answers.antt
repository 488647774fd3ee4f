use Rattle.std.proofs.Common.{arith}
use Rattle.bson_evolve_check.specs.Steps.{steps_view, variant_path}
use Rattle.bson_evolve_check.proofs.Pushes.{each_item_all, each_item_more, pushed}
use Rattle.bson_evolve_check.proofs.content.push_each_item.Goals as goal

pub loop-i-preserved : goal.loop-i-preserved
loop-i-preserved c =
    each_item_more (variant_path c.args.variant) c.args.old.now c.loop-i.i c.index-old-i.result c.args.new.now (steps_view c.loop-i.steps.items) (steps_view c.push.new.self.items) _ (omega arith) c.index-old-i.is
    (pushed c.loop-i.steps.items c.push.new.self.items c.at_index.result _ c.in_ok-push.ensures.items c.at_index.ensures) c.loop-i.invariant

pub returns : goal.returns
returns c = each_item_all (variant_path c.args.variant) c.args.old.now c.loop-i.i c.args.new.now (steps_view c.loop-i.steps.items) _ (omega arith) c.loop-i.invariant
