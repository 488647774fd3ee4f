use Rattle.std.proofs.Common.{Ok, Option, ap, sym, subst, ◌∙◌, rules}
use Rattle.std.specs.Prelude.{codes, string_bytes, option_map}
use Rattle.bson_base.specs.Parsed.{integer_of_text}
use Rattle.bson_base.specs.Tree as tree
use Rattle.bson_kinds.specs.Piece.{made}
use Rattle.bson_shape.specs.Form.{field, no_fields, Fields}
use Rattle.bson_values.specs.Marked.{Marked}
use Rattle.bson_values.specs.Value.{str}
use Rattle.bson_laws.specs.Datum.{one}
use Rattle.bson_laws.specs.Judged.{Reading}
use Rattle.bson_laws.specs.Wrapped.{text}
use Rattle.bson_met.proofs.Refusals.{StopsAs}
use Rattle.bson_wrapped.specs.Bodies.{as_datum}
use Rattle.bson_wrapped.proofs.DateBodies.{in_millis, date_number}
use Rattle.bson_wrapped.proofs.Made.{fields_done, fields_stop}
use Rattle.bson_wrapped.proofs.bodies.date.Goals as goal

abbrev fs : Fields
fs = field (codes "$numberLong") text no_fields

pub returns-in_err-number : goal.returns-in_err-number
returns-in_err-number c =
    let n = c.args.value.now in
    let stop = c.in_err-number.field-0.0 in
    let whole = date_number n c.in_ok-text.field-0 c.in_ok-text.ensures.judged c.in_default.not-String in
    let here = subst (λ (r : Reading (Option Marked)). StopsAs stop r) (sym whole) (fields_stop fs in_millis n stop c.in_err-number.ensures.exact) in
    record { exact = search (rules, here) }

pub returns : goal.returns
returns c =
    let n = c.args.value.now in
    let whole = date_number n c.in_ok-text.field-0 c.in_ok-text.ensures.judged c.in_default.not-String in
    record {
      exact = whole ∙ fields_done fs in_millis n (one made (codes "$numberLong") (str (made (string_bytes c.in_ok-number.number)))) c.in_ok-number.ensures.exact
          ∙ ap (λ t. Ok (as_datum (option_map tree.date_time (integer_of_text t)))) (sym c.as_str-2.ensures.value) ∙ ap Ok (sym c.in_ok-date_of_number.ensures);
    }
