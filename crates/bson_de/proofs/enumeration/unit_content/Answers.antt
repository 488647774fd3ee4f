use Rattle.std.proofs.Common.{sym, subst}
use Rattle.bson_shape.specs.Form.{leaf}
use Rattle.bson_shape.specs.declared.leaf.Leaf.TheVariants.{Bson}
use Rattle.bson_values.specs.Cause.{unit_in_document}
use Rattle.bson_values.specs.Marked.{Marked}
use Rattle.bson_datum.specs.MarkedView.{marked}
use Rattle.bson_laws.specs.FromTree.{unit_content_at}
use Rattle.bson_laws.specs.ReadsFrom.{reads_from}
use Rattle.bson_laws.specs.declared.origin.Origin.{Origin}
use Rattle.bson_met.specs.Gives.{Reaches}
use Rattle.bson_met.proofs.Refusals.{StopsAs, refused_stops}
use Rattle.bson_de.proofs.enumeration.unit_content.Goals as goal

pub returns-in-Bytes : goal.returns-in-Bytes
returns-in-Bytes c =
    let expected = λ (o : Origin). unit_content_at o c.args.name.now (reads_from o (leaf Bson) c.args.value.now) in
    record { exact = subst (λ o. StopsAs c.refused.result (expected o)) (sym c.in-Bytes.is) (refused_stops Marked unit_in_document c.refused.result c.refused.ensures.here) }

pub returns-in-Tree : goal.returns-in-Tree
returns-in-Tree c =
    let expected = λ (o : Origin). unit_content_at o c.args.name.now (reads_from o (leaf Bson) c.args.value.now) in
    record { exact = subst (λ o. Reaches marked c.read_unit_content.result (expected o)) (sym c.in-Tree.is) c.read_unit_content.ensures.exact }
