use Rattle.std.proofs.Common.{◌∙◌, sym, ap, map, take, arith}
use Rattle.bson_shape.specs.Makers.{has_name}
use Rattle.bson_shape.proofs.Names.{repeat_found, repeat_missed}
use Rattle.bson_shape.proofs.distinct.repeats_by_scan.Goals as goal

pub returns-then-has_name : goal.returns-then-has_name
returns-then-has_name g c =
    let before = map g.T.Named.named (take c.loop-i.i c.args.items.now) in
    sym (repeat_found g.T.Named.named _ c.loop-i.i _ (omega arith) c.index-items-i.is (ap (λ name. has_name name before) (sym c.name.ensures) ∙ sym c.has_name.ensures ∙ c.if-has_name.true))

pub loop-i-preserved : goal.loop-i-preserved
loop-i-preserved g c =
    let before = map g.T.Named.named (take c.loop-i.i c.args.items.now) in
    repeat_missed g.T.Named.named _ c.loop-i.i _ (omega arith) c.index-items-i.is c.loop-i.invariant (ap (λ name. has_name name before) (sym c.name.ensures) ∙ sym c.has_name.ensures ∙ c.if-has_name.false)
