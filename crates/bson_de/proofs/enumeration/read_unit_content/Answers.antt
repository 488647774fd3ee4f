use Rattle.std.proofs.Common.{Ok, Err, ap, sym, rules, ◌∙◌}
use Rattle.bson_kinds.specs.Outcome.{◌>>=◌}
use Rattle.bson_kinds.specs.Piece.{made}
use Rattle.bson_shape.specs.Form.{leaf}
use Rattle.bson_shape.specs.declared.leaf.Leaf.TheVariants.{Bson}
use Rattle.bson_datum.specs.MarkedView.{marked}
use Rattle.bson_values.specs.Refusal.{under}
use Rattle.bson_values.specs.Value.{unit_variant}
use Rattle.bson_laws.specs.ReadsFrom.{reads_from}
use Rattle.bson_laws.specs.declared.origin.Origin.TheVariants as origins
use Rattle.bson_met.proofs.Refusals.{stops_bind}
use Rattle.bson_de_parts.proofs.VariantContents.{reaches_at}
use Rattle.bson_de.proofs.enumeration.read_unit_content.Goals as goal

pub returns : goal.returns
returns c =
    let name = c.args.name.now in
    let expected = reads_from origins.Tree (leaf Bson) c.args.value.now in
    record {
      exact = ap (λ r. r >>= λ _. Ok (unit_variant (made name))) (reaches_at marked name c.read_extended.result (Ok c.in_ok-at_key.field-0) expected c.in_ok-at_key.ensures c.read_extended.ensures.exact)
          ∙ ap (λ t. Ok (unit_variant (made t))) (sym c.in_ok-from_str.ensures.ok);
    }

pub returns-in_err-at_key : goal.returns-in_err-at_key
returns-in_err-at_key c =
    let name = c.args.name.now in
    let stop = c.in_err-at_key.field-0.0 in
    let expected = reads_from origins.Tree (leaf Bson) c.args.value.now in
    let here = stops_bind stop (under name expected) (λ _. Ok (unit_variant (made name))) (reaches_at marked name c.read_extended.result (Err stop) expected c.in_err-at_key.ensures c.read_extended.ensures.exact) in
    record { exact = search (rules, here) }
