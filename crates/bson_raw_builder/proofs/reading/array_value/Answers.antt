use Rattle.std.proofs.Common.{ap, sym, subst, rules, ◌∙◌}
use Rattle.bson_kinds.specs.Outcome.{◌>>=◌}
use Rattle.bson_values.specs.Marked.{Marked}
use Rattle.bson_datum.specs.MarkedView.{marked}
use Rattle.bson_laws.specs.Judged.{Reading}
use Rattle.bson_laws.specs.TreeRaw.{read_built, built_value}
use Rattle.bson_met.specs.ContainerView.{array_node}
use Rattle.bson_met.specs.Gives.{Reaches}
use Rattle.bson_met.proofs.Refusals.{stops_bind}
use Rattle.bson_raw_builder.proofs.RawTrees.{array_container, container_built}
use Rattle.bson_raw_builder.proofs.reading.array_value.Goals as goal

pub returns : goal.returns
returns c =
    let b = c.in_ok-built.ensures.built in
    let kind = array_container c.args.array.place b.0 b.1 in
    let whole = ap (λ r. r >>= built_value) b.1 ∙ container_built b.0 b.3.0 kind in
    record { exact = subst (λ (r : Reading Marked). Reaches marked c.container_value.result r) (sym whole) (c.container_value.ensures.exact b.0 b.3 kind b.2) }

pub returns-in_err-built : goal.returns-in_err-built
returns-in_err-built c =
    let here = stops_bind c.in_err-built.field-0.0 (read_built (array_node c.args.array)) built_value c.in_err-built.ensures.built in
    record { exact = search (rules, here) }
