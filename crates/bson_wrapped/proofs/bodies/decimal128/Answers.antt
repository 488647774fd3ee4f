use Rattle.std.proofs.Common.{Ok, ap, sym, ◌∙◌, rules}
use Rattle.bson_base.specs.Tree as tree
use Rattle.bson_laws.specs.Wrapped.{some_bytes, of_length}
use Rattle.bson_wrapped.proofs.Made.{buffer_done, buffer_stops}
use Rattle.bson_wrapped.proofs.bodies.decimal128.Goals as goal

pub returns-in_err-bits : goal.returns-in_err-bits
returns-in_err-bits c =
    let here = buffer_stops (some_bytes (of_length 16 tree.decimal128)) c.args.value.now c.in_err-bits.field-0.0 c.in_err-bits.ensures in record { exact = search (rules, here) }

pub returns : goal.returns
returns c = record {
  exact = buffer_done (some_bytes (of_length 16 tree.decimal128)) c.args.value.now c.in_ok-bits.bits.items c.in_ok-bits.ensures ∙ ap Ok (sym c.in_ok-decimal_of_bytes.ensures);
}
