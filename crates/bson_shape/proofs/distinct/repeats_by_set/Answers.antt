use Rattle.std.proofs.Common.{◌∙◌, sym, ap, arith, map, take, cond, true}
use Rattle.std.specs.BTreeSet.{contains_by}
use Rattle.std.specs.Cmp.Lexicographic.{slice_cmp}
use Rattle.std.specs.Ordering.{nat_cmp}
use Rattle.std.proofs.lemmas.Map.Text.{is_eq-slice_cmp}
use Rattle.std.proofs.lemmas.Bool.{not-true, not-false}
use Rattle.bson_shape.specs.Makers.{has_name}
use Rattle.bson_shape.proofs.Names.{repeat_found, repeat_missed, has_name_added}
use Rattle.bson_shape.proofs.distinct.repeats_by_set.Goals as goal

pub returns-then-not-branch : goal.returns-then-not-branch
returns-then-not-branch g c =
    let named = g.T.Named.named in
    let before = map named (take c.loop-item.item-index c.args.items.now) in
    let had = not-false _ (sym c.in_ok-insert.ensures.added ∙ c.if-not-branch.true) in
    sym (repeat_found named _ c.loop-item.item-index _ (omega arith) c.item-item.is (ap (λ name. has_name name before) (sym c.name.ensures) ∙ sym (c.loop-item.invariant.known c.name.result) ∙ had))

pub loop-item-preserved : goal.loop-item-preserved
loop-item-preserved g c =
    let named = g.T.Named.named in
    let i = c.loop-item.item-index in
    let before = map named (take i c.args.items.now) in
    let new = not-true _ (sym c.in_ok-insert.ensures.added ∙ c.if-not-branch.false) in
    record {
      known = λ q. c.in_ok-insert.ensures.updates.0 q ∙ ap (λ b. cond b true (contains_by (λ k. slice_cmp nat_cmp q.now k.now) c.loop-item.names)) (is_eq-slice_cmp c.name.result.now q.now) ∙ has_name_added named q.now _ _ i _ (omega arith) c.item-item.is c.name.ensures _ (c.loop-item.invariant.known q);
      distinct = repeat_missed named _ i _ (omega arith) c.item-item.is c.loop-item.invariant.distinct (ap (λ name. has_name name before) (sym c.name.ensures) ∙ sym (c.loop-item.invariant.known c.name.result) ∙ new);
    }
