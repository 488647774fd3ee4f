use Rattle.std.proofs.Common.{[], ap, sym, ◌∙◌}
use Rattle.bson_datum.specs.View.{fields_view}
use Rattle.bson_laws.specs.Unwrap.{listed}
use Rattle.bson_ser_parts.specs.Places.{ways, agrees_some}
use Rattle.bson_ser_parts.proofs.fronts.agrees_some.Goals as goal

pub returns-in-DateTime : goal.returns-in-DateTime
returns-in-DateTime c = c.agrees-in-DateTime.ensures ∙ ap (λ kind. agrees_some (ways kind) (listed (fields_view c.args.fields.now) [])) (sym c.in-DateTime.is)

pub returns-in-Timestamp : goal.returns-in-Timestamp
returns-in-Timestamp c = c.agrees-in-Timestamp.ensures ∙ ap (λ kind. agrees_some (ways kind) (listed (fields_view c.args.fields.now) [])) (sym c.in-Timestamp.is)

pub returns-in-JavaScriptCodeWithScope : goal.returns-in-JavaScriptCodeWithScope
returns-in-JavaScriptCodeWithScope c = c.agrees-in-JavaScriptCodeWithScope.ensures ∙ ap (λ kind. agrees_some (ways kind) (listed (fields_view c.args.fields.now) [])) (sym c.in-JavaScriptCodeWithScope.is)

pub returns-in-Decimal128 : goal.returns-in-Decimal128
returns-in-Decimal128 c = c.agrees-in-Decimal128.ensures ∙ ap (λ kind. agrees_some (ways kind) (listed (fields_view c.args.fields.now) [])) (sym c.in-Decimal128.is)
