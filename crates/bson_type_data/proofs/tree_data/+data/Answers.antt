use Rattle.std.proofs.Common.{ap, ◌∙◌}
use Rattle.bson_datum.proofs.Views.{view-Map, view-Seq}
use Rattle.bson_values.specs.Value.{map, sequence, str}
use Rattle.bson_type_data.proofs.TreeSteps.{data_more, data_all, values_left, entry_more, entries_all, pairs_left}
use Rattle.bson_type_data.proofs.tree_data.+data.Goals as goal

pub values_datum-loop-value-preserved : goal.values_datum-loop-value-preserved
values_datum-loop-value-preserved t c = record {
  made = data_more c.loop-value.items.items _ c.in_ok-tree_datum.field-0 c.args.values.now c.loop-value.value-index c.value-item.result _ c.loop-value-test.true c.value-item.is c.in_ok-tree_datum.ensures c.in_ok-push.ensures.items c.loop-value.invariant.made;
  depth = values_left c.args.values.now c.loop-value.value-index _ c.value-item.result c.loop-value-test.true c.loop-value.invariant.depth;
}

pub values_datum-returns : goal.values_datum-returns
values_datum-returns t c =
    view-Seq c.loop-value.items ∙ ap sequence (data_all c.loop-value.items.items c.args.values.now c.loop-value.value-index _ c.loop-value-test.false c.loop-value.invariant.made)

pub document_datum-loop-key-preserved : goal.document_datum-loop-key-preserved
document_datum-loop-key-preserved t c = record {
  can = tt;
  ends = tt;
  made = entry_more c.loop-key.entries.items _ _ c.loop-key.key-iterator _ _ _ _ c.in-Some.ensures.steps (ap str c.as_str.ensures.value) c.in_ok-value.ensures c.in_ok-push.ensures.items c.loop-key.invariant.made;
  depth = pairs_left c.loop-key.key-iterator _ _ _ _ c.in-Some.ensures.steps c.loop-key.invariant.depth;
}

pub document_datum-returns : goal.document_datum-returns
document_datum-returns t c = view-Map c.loop-key.entries ∙ ap map (entries_all c.loop-key.entries.items c.loop-key.key-iterator _ c.in-None.ensures.steps.0 c.loop-key.invariant.made)
