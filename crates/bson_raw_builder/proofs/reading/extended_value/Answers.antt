use Rattle.std.proofs.Common.{ap, sym, subst, ◌∙◌}
use Rattle.bson_kinds.specs.Outcome.{◌>>=◌}
use Rattle.bson_rawdoc.specs.Node.{opens}
use Rattle.bson_values.specs.Marked.{Marked}
use Rattle.bson_datum.specs.MarkedView.{marked}
use Rattle.bson_laws.specs.Judged.{Reading}
use Rattle.bson_laws.specs.ReadsRaw.{raw_value_of}
use Rattle.bson_laws.specs.TreeRaw.{tree_raw_value_of}
use Rattle.bson_met.specs.Gives.{Reaches}
use Rattle.bson_met.specs.OpenedView.{extended_view}
use Rattle.bson_raw_builder.proofs.RawLeaves.{scalar_alike}
use Rattle.bson_raw_builder.proofs.reading.extended_value.Goals as goal

pub returns-in-JavaScriptCodeWithScope : goal.returns-in-JavaScriptCodeWithScope
returns-in-JavaScriptCodeWithScope c =
    let expected = ap (λ x. tree_raw_value_of (opens (extended_view x))) c.in-JavaScriptCodeWithScope.is in
    record { exact = subst (λ (r : Reading Marked). Reaches marked c.code_with_scope.result r) (sym expected) c.code_with_scope.ensures.exact }

pub returns-in_default : goal.returns-in_default
returns-in_default c =
    let whole = ap (λ r. r >>= raw_value_of) c.requires.judged ∙ sym (scalar_alike c.args.extended c.in_default.not-JavaScriptCodeWithScope) in
    record { exact = subst (λ (r : Reading Marked). Reaches marked c.read_extended.result r) whole c.read_extended.ensures.exact }
