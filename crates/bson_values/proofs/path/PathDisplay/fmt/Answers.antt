use Rattle.std.proofs.Common.{◌≡◌, ◌<◌, rules, length, get_or, ap, ◌∙◌, arith}
use Rattle.std.proofs.Output.{has_written_append, has_written_of_eq}
use Rattle.bson_values.proofs.SegmentTexts.{segments-more}
use Rattle.bson_values.proofs.path.PathDisplay.fmt.Goals as goal

pub loop-i-preserved : goal.loop-i-preserved
loop-i-preserved g c = λ p.
    let xs = c.args.self.now.segments.items in
    let x = c.segment-item.result in
    let same = c.deref-segment-items.ensures.value in
    let lt : c.loop-i.i < length xs = omega (arith, c.loop-i-test.true, ap length same) in
    let is : x ≡ get_or xs c.loop-i.i x = c.segment-item.is ∙ ap (λ l. get_or l c.loop-i.i x) same in
    has_written_of_eq _ _ _ _ _ (segments-more xs c.loop-i.i x lt is) (has_written_append _ _ _ _ _ _ (c.loop-i.invariant p) (search rules))
