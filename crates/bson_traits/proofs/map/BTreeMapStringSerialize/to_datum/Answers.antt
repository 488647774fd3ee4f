use Rattle.std.proofs.Common.{ap, sym, ◌∙◌, Ok}
use Rattle.bson_values.specs.Value.{str}
use Rattle.bson_datum.proofs.Views.{view-Map}
use Rattle.bson_traits.proofs.MapSteps.{write_pair_more, write_pairs_end}
use Rattle.bson_traits.proofs.map.BTreeMapStringSerialize.to_datum.Goals as goal

pub loop-text-preserved : goal.loop-text-preserved
loop-text-preserved g c = record {
  can = tt;
  ends = tt;
  all = write_pair_more g.T.Serialize.written _ _ (c.in-Some.text.now, c.in-Some.part.now) c.loop-text.entries.items _ _ _ c.in-Some.ensures.steps c.in_ok-value.ensures.datum (ap str (sym c.as_str.ensures.value)) c.in_ok-push.ensures.items c.loop-text.invariant.all;
}

pub returns : goal.returns
returns g c = record {
  datum = write_pairs_end g.T.Serialize.written _ c.loop-text.text-iterator c.loop-text.entries.items c.in-None.ensures.steps.0 c.loop-text.invariant.all ∙ ap Ok (sym (view-Map c.loop-text.entries));
}
