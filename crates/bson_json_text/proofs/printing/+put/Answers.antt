use Rattle.std.proofs.Common.{◌≡◌, ◌<◌, ◌≤◌, length, sym, subst, rules, ap, ◌∙◌, arith, string_bytes}
use Rattle.bson_base.specs.BsonView.{tree_of, trees_of, pairs_of}
use Rattle.bson_base.specs.Tree.{pair}
use Rattle.bson_base.proofs.Nodes.{nodes, trees_nodes, pairs_nodes, tree_nodes}
use Rattle.bson_json_text.proofs.Putting.{Going, going_on, array_on, array_last}
use Rattle.bson_json_text.proofs.printing.+put.Goals as goal

pub put_array-put_value-requires : goal.put_array-put_value-requires
put_array-put_value-requires t c =
    let smaller : nodes (tree_of c.value-item.result) < trees_nodes (trees_of c.args.values.now) =
    subst (λ v. nodes (tree_of v) < trees_nodes (trees_of c.args.values.now)) (sym c.value-item.is) (tree_nodes c.args.values.now c.loop-value.value-index c.value-item.result c.loop-value-test.true) in
    search rules

pub put_array-loop-value-preserved : goal.put_array-loop-value-preserved
put_array-loop-value-preserved t c =
    array_on c.args.form c.args.values.now c.loop-value.value-index c.value-item.result _ _ _ c.loop-value-test.true c.value-item.is c.loop-value.invariant c.in_ok-put_value.ensures

pub put_array-returns : goal.put_array-returns
put_array-returns t c =
    let past : length c.args.values.now ≤ c.loop-value.value-index = omega (arith, c.loop-value-test.false) in
    array_last c.close_array.result c.args.form c.args.values.now c.loop-value.value-index _ _ _ past c.loop-value.invariant c.close_array.ensures

pub put_document-loop-key-preserved : goal.put_document-loop-key-preserved
put_document-loop-key-preserved t c =
    let step : c.loop-key.pairs ≡ pair (string_bytes c.in-Some.key.now) (tree_of c.in-Some.value.now) c.next.new.self = c.in-Some.ensures.steps in
    let named : c.loop-key.pairs ≡ pair c.deref.result.now (tree_of c.in-Some.value.now) c.next.new.self =
    step ∙ ap (λ k. pair k (tree_of c.in-Some.value.now) c.next.new.self) (sym c.deref.ensures) in
    let g = subst (λ ps. Going c.args.form (pairs_of c.args.document.now) ps c.args.writer.now c.loop-key.writer) named c.loop-key.invariant.0 in (
      going_on c.args.form (pairs_of c.args.document.now) c.next.new.self c.deref.result.now (tree_of c.in-Some.value.now) c.args.writer.now c.loop-key.writer _ _ g c.in_ok-next.ensures c.in_ok-put_value.ensures,
      omega (arith, c.loop-key.invariant.1, ap pairs_nodes step),
    )
