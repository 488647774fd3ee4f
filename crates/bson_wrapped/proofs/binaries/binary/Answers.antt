use Rattle.std.proofs.Common.{Ok, ap, sym, ◌∙◌, rules}
use Rattle.std.specs.Prelude.{codes, string_bytes}
use Rattle.bson_kinds.specs.Piece.{made}
use Rattle.bson_shape.specs.Form.{field, no_fields, Fields}
use Rattle.bson_values.specs.Value.{str}
use Rattle.bson_laws.specs.Datum.{two}
use Rattle.bson_laws.specs.Wrapped.{text, two_texts, binary_of_texts}
use Rattle.bson_wrapped.proofs.Made.{fields_read_done, fields_read_stop}
use Rattle.bson_wrapped.proofs.binaries.binary.Goals as goal

abbrev fs : Fields
fs = field (codes "base64") text (field (codes "subType") text no_fields)

pub returns-in_err-base64 : goal.returns-in_err-base64
returns-in_err-base64 c = let here = fields_read_stop fs (two_texts binary_of_texts) c.args.value.now c.in_err-base64.field-0.0 c.in_err-base64.ensures.exact in record { exact = search (rules, here) }

pub returns : goal.returns
returns c =
    let b = str (made (string_bytes c.in_ok-base64.base64)) in
    let s = str (made (string_bytes c.in_ok-base64.subtype)) in
    record {
      exact = fields_read_done fs (two_texts binary_of_texts) c.args.value.now (two made (codes "base64") b (codes "subType") s) c.in_ok-base64.ensures.exact
          ∙ (λ i. Ok (binary_of_texts (sym c.as_str.ensures.value i) (sym c.as_str-2.ensures.value i))) ∙ ap Ok (sym c.in_ok-binary_of_texts.ensures);
    }
