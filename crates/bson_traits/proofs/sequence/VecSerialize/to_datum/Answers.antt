use Rattle.std.proofs.Common.{ap, sym, ◌∙◌, Ok}
use Rattle.bson_datum.proofs.Views.{view-Seq}
use Rattle.bson_traits.proofs.Steps.{write_more, write_end}
use Rattle.bson_traits.proofs.sequence.VecSerialize.to_datum.Goals as goal

pub loop-x-preserved : goal.loop-x-preserved
loop-x-preserved g c =
    write_more g.T.Serialize.written _ _ c.loop-x.x-index c.x-item.result c.loop-x.items.items _ c.in_ok-to_datum.field-0 c.deref-x-items.ensures.value c.loop-x-test.true c.x-item.is c.in_ok-to_datum.ensures.datum c.in_ok-push.ensures.items c.loop-x.invariant

pub returns : goal.returns
returns g c = record {
  datum = write_end g.T.Serialize.written _ _ c.loop-x.x-index c.loop-x.items.items c.deref-x-items.ensures.value c.loop-x-test.false c.loop-x.invariant ∙ ap Ok (sym (view-Seq c.loop-x.items));
}
