use Rattle.std.proofs.Common.{[], Ok, Option, ap, sym, ◌∙◌, rules}
use Rattle.std.specs.Prelude.{codes, string_bytes, option_map}
use Rattle.bson_base.specs.Parsed.{bytes_of_digits}
use Rattle.bson_base.specs.Tree as tree
use Rattle.bson_kinds.specs.Piece.{made}
use Rattle.bson_shape.specs.Form.{field, no_fields, Fields}
use Rattle.bson_values.specs.Value.{Value, str, structure}
use Rattle.bson_laws.specs.Datum.{one, two}
use Rattle.bson_laws.specs.Wrapped.{text, with_field, two_fields, a_text, a_field}
use Rattle.bson_wrapped.specs.Bodies.{as_datum, pointer_of}
use Rattle.bson_wrapped.proofs.Made.{fields_done, fields_stop}
use Rattle.bson_wrapped.proofs.bodies.db_pointer.Goals as goal

abbrev fs : Fields
fs = field (codes "$ref") text (field (codes "$id") (with_field (codes "$oid") text) no_fields)

abbrev make : Value → Option tree.Tree
make = two_fields (λ v w. a_text (λ t. a_field (a_text (λ id. option_map (tree.db_pointer t) (bytes_of_digits 12 id))) w) v)

pub returns-in_err-namespace : goal.returns-in_err-namespace
returns-in_err-namespace c = let here = fields_stop fs make c.args.value.now c.in_err-namespace.field-0.0 c.in_err-namespace.ensures.exact in record { exact = search (rules, here) }

pub returns : goal.returns
returns c =
    let t = str (made (string_bytes c.in_ok-namespace.namespace)) in
    let id = structure (made []) (one made (codes "$oid") (str (made (string_bytes c.in_ok-namespace.id.0)))) in
    record { exact = fields_done fs make c.args.value.now (two made (codes "$ref") t (codes "$id") id) c.in_ok-namespace.ensures.exact ∙ ap (λ x. Ok (as_datum (pointer_of (string_bytes c.in_ok-namespace.namespace) x))) (sym c.as_str.ensures.value) ∙ ap Ok (sym c.in_ok-pointer_of_texts.ensures) }
