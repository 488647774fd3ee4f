use Rattle.std.proofs.Common.{[], ap, sym, subst, ◌∙◌, rules}
use Rattle.std.specs.Prelude.{codes}
use Rattle.bson_kinds.specs.Outcome.{result_map}
use Rattle.bson_kinds.specs.Piece.{made}
use Rattle.bson_shape.specs.Form.{dropped, field, no_fields}
use Rattle.bson_values.specs.Marked.{Marked, MarkedFields}
use Rattle.bson_values.specs.Value.{structure}
use Rattle.bson_laws.specs.Judged.{Reading, judged}
use Rattle.bson_laws.specs.ReadsLeaf.{no_extended}
use Rattle.bson_laws.specs.Shaped.{slots_of}
use Rattle.bson_laws.specs.Slots.{Slots, read_structure}
use Rattle.bson_laws.specs.Wrapped.{text}
use Rattle.bson_met.proofs.Refusals.{StopsAs, stops_map}
use Rattle.bson_slots.specs.FieldsRead.{fields_read}
use Rattle.bson_wrapped.proofs.Made.{mapped}
use Rattle.bson_wrapped.proofs.fields.IdFieldValue.read.Goals as goal

abbrev slots : Slots
slots = slots_of no_extended (field (codes "$oid") text no_fields)

abbrev all : MarkedFields → Marked
all vs = structure (made []) vs

pub returns-in_err-one_field : goal.returns-in_err-one_field
returns-in_err-one_field c =
    let n = c.args.value.now in
    let stop = c.in_err-one_field.field-0.0 in
    let here = subst (λ (r : Reading Marked). StopsAs stop r) (sym (mapped all (judged n) (read_structure dropped slots))) (stops_map stop all (fields_read slots n) c.in_err-one_field.ensures.exact) in
    record { exact = search (rules, here) }

pub returns : goal.returns
returns c = let n = c.args.value.now in record { exact = mapped all (judged n) (read_structure dropped slots) ∙ ap (result_map all) c.in_ok-one_field.ensures.exact }
