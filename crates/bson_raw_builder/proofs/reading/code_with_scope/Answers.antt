use Rattle.std.proofs.Common.{◌≤◌, length, ap, sym, subst, rules, ◌∙◌}
use Rattle.bson_base.specs.BsonView.{pairs_of}
use Rattle.bson_kinds.specs.Outcome.{◌>>=◌}
use Rattle.bson_base.specs.Sound.{max_bytes}
use Rattle.bson_base.specs.Tree.{javascript_code_with_scope, enc}
use Rattle.bson_values.specs.Marked.{Marked}
use Rattle.bson_datum.specs.MarkedView.{marked}
use Rattle.bson_laws.specs.Assembled.{RawBytes, assembled_tree}
use Rattle.bson_laws.specs.Judged.{Reading}
use Rattle.bson_laws.specs.TreeRaw.{as_reading, built_value}
use Rattle.bson_met.specs.Gives.{Reaches}
use Rattle.bson_met.specs.OpenedView.{scope_node}
use Rattle.bson_met.specs.PieceView.{met_text}
use Rattle.bson_met.proofs.Refusals.{StopsAs, stops_bind}
use Rattle.bson_raw_builder.proofs.RawLeaves.{scoped_built, scoped_stops, scoped_is}
use Rattle.bson_raw_builder.proofs.reading.code_with_scope.Goals as goal

pub returns-in_err-tree : goal.returns-in_err-tree
returns-in_err-tree c =
    let here = scoped_stops (met_text c.args.code) (scope_node c.args.scope) c.in_err-tree.field-0.0 c.in_err-tree.ensures.exact in
    record { exact = search (rules, here) }

pub returns-in_err-built : goal.returns-in_err-built
returns-in_err-built c =
    let ps = pairs_of c.in_ok-tree.tree.now in
    let text = c.as_str-text.result.now in
    let stop = c.in_err-built.field-0.0 in
    let whole = scoped_built (met_text c.args.code) (scope_node c.args.scope) ps c.in_ok-tree.ensures.exact
    ∙ ap (λ x. as_reading (assembled_tree (javascript_code_with_scope x ps)) >>= built_value) (sym (c.as_str-text.ensures.value ∙ c.in_ok-owned.ensures.text)) in
    let t = javascript_code_with_scope text ps in
    let here = subst (λ (r : Reading Marked). StopsAs stop r) (sym whole) (stops_bind stop (as_reading (assembled_tree t)) built_value (c.in_err-built.ensures.read t tt c.raw_of_code.ensures.assembled)) in
    record { exact = search (rules, here) }

pub scoped_value-requires : goal.scoped_value-requires
scoped_value-requires c =
    let ps = pairs_of c.in_ok-tree.tree.now in
    let text = c.as_str-text.result.now in
    let b = c.in_ok-built.ensures.read (javascript_code_with_scope text ps) tt c.raw_of_code.ensures.assembled in
    let s = scoped_is text ps b.0 b.1 in
    record { scoped = (s.0, ap (λ (r : RawBytes). r.bytes) b.2 ∙ ap enc s.1) }

pub returns : goal.returns
returns c =
    let ps = pairs_of c.in_ok-tree.tree.now in
    let text = c.as_str-text.result.now in
    let b = c.in_ok-built.ensures.read (javascript_code_with_scope text ps) tt c.raw_of_code.ensures.assembled in
    let s = scoped_is text ps b.0 b.1 in
    let bytes = ap (λ (r : RawBytes). r.bytes) b.2 in
    let whole = scoped_built (met_text c.args.code) (scope_node c.args.scope) ps c.in_ok-tree.ensures.exact
    ∙ ap (λ x. as_reading (assembled_tree (javascript_code_with_scope x ps)) >>= built_value) (sym (c.as_str-text.ensures.value ∙ c.in_ok-owned.ensures.text))
    ∙ ap (λ r. r >>= built_value) b.1 ∙ ap built_value s.1 in
    record {
      exact = subst (λ (r : Reading Marked). Reaches marked c.scoped_value.result r) (sym whole)
          (c.scoped_value.ensures.exact s.0 (bytes ∙ ap enc s.1) (subst (λ x. length x ≤ max_bytes) (sym bytes) b.3.1));
    }
