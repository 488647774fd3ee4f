use Rattle.std.proofs.Common.{◌+◌, length, sym, ap, ◌∙◌, arith}
use Rattle.bson_shape.specs.Guarded.{ends}
use Rattle.bson_shape.specs.ShapeView.{fields_of}
use Rattle.bson_shape.proofs.Chains.{all_end-more, all_end-not, all_end-all, all_end-false}
use Rattle.bson_shape.proofs.guarded.is_guarded_by_chains.Goals as goal

pub returns-then-not-name_ends : goal.returns-then-not-name_ends
returns-then-not-name_ends c =
    let fs = c.args.table.now in
    let h = fields_of fs in
    let n = length fs + 1 in
    sym (all_end-false n fs c.loop-definition.invariant.most
    (all_end-not h n fs c.loop-definition.definition-index c.definition-item.result (omega arith) c.definition-item.is
    (ap (λ name. ends h n name) (sym c.as_str.ensures.value) ∙ sym c.name_ends.ensures ∙ c.if-not-name_ends.true)))

pub loop-definition-preserved : goal.loop-definition-preserved
loop-definition-preserved c =
    let fs = c.args.table.now in
    let h = fields_of fs in
    let n = length fs + 1 in
    record {
      most = c.loop-definition.invariant.most;
      so_far = all_end-more h n fs c.loop-definition.definition-index c.definition-item.result (omega arith) c.definition-item.is c.loop-definition.invariant.so_far
          (ap (λ name. ends h n name) (sym c.as_str.ensures.value) ∙ sym c.name_ends.ensures ∙ c.if-not-name_ends.false);
    }

pub returns : goal.returns
returns c =
    let fs = c.args.table.now in
    sym (all_end-all (length fs + 1) fs c.loop-definition.definition-index (omega arith) c.loop-definition.invariant.most c.loop-definition.invariant.so_far)
