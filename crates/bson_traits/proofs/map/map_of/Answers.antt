use Rattle.std.proofs.Common.{arith, ◌≡◌, ap, length, ◌∷◌}
use Rattle.std.specs.Vec.Iter.{into_iter_items}
use Rattle.bson_traits.proofs.MapSteps.{put_more}
use Rattle.bson_traits.proofs.map.map_of.Goals as goal

pub loop-entry-preserved : goal.loop-entry-preserved
loop-entry-preserved g c =
    let is : into_iter_items c.loop-entry.entry-iterator ≡ _ = c.in-Some.ensures.steps.0 in
    let n : length (into_iter_items c.loop-entry.entry-iterator) ≡ length (c.in-Some.entry ∷ into_iter_items c.next.new.self) = ap length is in
    record {
      can = tt;
      ends = tt;
      len = omega (arith, n, c.in-Some.ensures.steps.1);
      all = put_more g.T.Deserialize.contents g.T.Deserialize.taken c.loop-entry.map.entries _ c.in_ok-key_of.field-0 c.in_ok-value.value c.in-Some.entry _ _ _ is c.in_ok-value.ensures.value c.in_ok-key_of.ensures c.in_ok-put.ensures.entries c.loop-entry.invariant.all;
    }
