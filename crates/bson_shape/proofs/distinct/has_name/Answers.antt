use Rattle.std.proofs.Common.{◌∙◌, sym, ap, arith}
use Rattle.std.specs.Str.{bytes_eq}
use Rattle.bson_shape.proofs.Names.{has_name_found, has_name_missed}
use Rattle.bson_shape.proofs.distinct.has_name.Goals as goal

pub returns-then-eq : goal.returns-then-eq
returns-then-eq g c =
    sym (has_name_found g.T.Named.named c.args.name.now _ c.loop-item.item-index _ (omega arith) c.item-item.is (ap (bytes_eq c.args.name.now) (sym c.name.ensures) ∙ sym c.eq.ensures ∙ c.if-eq.true))

pub loop-item-preserved : goal.loop-item-preserved
loop-item-preserved g c =
    has_name_missed g.T.Named.named c.args.name.now _ c.loop-item.item-index _ (omega arith) c.item-item.is c.loop-item.invariant (ap (bytes_eq c.args.name.now) (sym c.name.ensures) ∙ sym c.eq.ensures ∙ c.if-eq.false)
