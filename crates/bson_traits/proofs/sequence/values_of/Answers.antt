use Rattle.std.proofs.Common.{arith, ◌≡◌, ap, sym, ◌∙◌, length, ◌∷◌}
use Rattle.std.specs.Vec.Iter.{into_iter_items}
use Rattle.bson_datum.specs.View.{items_view}
use Rattle.bson_traits.specs.Sequences.{taken_items}
use Rattle.bson_traits.proofs.Steps.{take_step, take_end}
use Rattle.bson_traits.proofs.sequence.values_of.Goals as goal

pub loop-item-preserved : goal.loop-item-preserved
loop-item-preserved g c =
    let is : into_iter_items c.loop-item.item-iterator ≡ _ = c.in-Some.ensures.steps.0 in
    let n : length (into_iter_items c.loop-item.item-iterator) ≡ length (c.in-Some.item ∷ into_iter_items c.next.new.self) = ap length is in
    record {
      can = tt;
      ends = tt;
      len = omega (arith, n, c.in-Some.ensures.steps.1);
      all = take_step g.T.Deserialize.contents g.T.Deserialize.taken c.loop-item.values.items _ c.in_ok-from_datum.field-0 c.in-Some.item _ _ _ is c.in_ok-from_datum.ensures.value c.in_ok-push.ensures.items c.loop-item.invariant.all;
    }

pub returns : goal.returns
returns g c =
    let e : taken_items g.T.Deserialize.taken (items_view (into_iter_items c.into_iter-item-iterator.result)) ≡ _ =
    take_end g.T.Deserialize.contents g.T.Deserialize.taken c.loop-item.values.items (into_iter_items c.loop-item.item-iterator) _ (omega (arith, c.in-None.ensures.steps.0, c.loop-item.invariant.len)) c.loop-item.invariant.all in
    sym (ap (λ ds. taken_items g.T.Deserialize.taken (items_view ds)) c.into_iter-item-iterator.ensures.into_iter_gives.0) ∙ e
