use Rattle.std.proofs.Common.{ap, sym, arith}
use Rattle.bson_evolve_check.specs.Steps.{behind, steps_view, variant_path}
use Rattle.bson_evolve_check.proofs.Pushes.{items_all, items_more, pushed}
use Rattle.bson_evolve_check.proofs.RowLists.{items_fail}
use Rattle.bson_evolve_check.proofs.content.push_items.Goals as goal

pub returns-then-old-new : goal.returns-then-old-new
returns-then-old-new c = ap (behind (steps_view c.args.steps.now.items)) (sym (items_fail (variant_path c.args.variant) 0 c.args.old.now c.args.new.now c.if-old-new.true))

pub loop-i-preserved : goal.loop-i-preserved
loop-i-preserved c =
    let many = c.loop-i.invariant.many in
    record {
      many = many;
      left = items_more (variant_path c.args.variant) c.args.old.now c.args.new.now c.loop-i.i (steps_view c.loop-i.steps.items) _ c.index-old-i.result c.index-new-i.result (steps_view c.push.new.self.items) (omega arith) (omega (arith, many))
          c.index-old-i.is c.index-new-i.is (pushed c.loop-i.steps.items c.push.new.self.items c.at_index.result _ c.in_ok-push.ensures.items c.at_index.ensures) c.loop-i.invariant.left;
    }

pub returns : goal.returns
returns c =
    let many = c.loop-i.invariant.many in
    items_all (variant_path c.args.variant) c.args.old.now c.args.new.now c.loop-i.i (steps_view c.loop-i.steps.items) _ (omega arith) (omega (arith, many)) c.loop-i.invariant.left
