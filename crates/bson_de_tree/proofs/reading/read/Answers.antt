use Rattle.std.proofs.Common.{rules, sym, subst, ◌∙◌}
use Rattle.bson_base.specs.BsonView.{tree_of}
use Rattle.bson_values.specs.Marked.{Marked}
use Rattle.bson_laws.specs.Judged.{Reading}
use Rattle.bson_laws.specs.declared.origin.Origin.TheVariants as origins
use Rattle.bson_laws.proofs.Scoped.{read_whole}
use Rattle.bson_met.proofs.Refusals.{StopsAs}
use Rattle.bson_de_tree.proofs.Readings.{value_read, value_stops}
use Rattle.bson_de_tree.proofs.reading.read.Goals as goal

pub returns : goal.returns
returns c =
    let s = c.args.shape.now in
    let n = c.of_tree-value.result in
    let same = read_whole c.new.result origins.Tree c.args.readable s n c.new.ensures.origin (c.new.ensures.whole s) in
    record {
      exact = value_read c.args.readable s (tree_of c.args.value.now) n c.of_tree-value.ensures.node c.in_ok-datum.datum c.in_ok-into_owned.field-0 (sym same ∙ c.in_ok-datum.ensures.exact) c.in_ok-into_owned.ensures.equal;
      owned = c.in_ok-into_owned.ensures.owned;
    }

pub returns-in_err-datum : goal.returns-in_err-datum
returns-in_err-datum c =
    let s = c.args.shape.now in
    let n = c.of_tree-value.result in
    let stop = c.in_err-datum.field-0.0 in
    let same = read_whole c.new.result origins.Tree c.args.readable s n c.new.ensures.origin (c.new.ensures.whole s) in
    let here = value_stops c.args.readable s (tree_of c.args.value.now) n c.of_tree-value.ensures.node stop (subst (λ (r : Reading Marked). StopsAs stop r) same c.in_err-datum.ensures.exact) in
    record { exact = search (rules, here); owned = search rules }
