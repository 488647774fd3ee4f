use Rattle.std.proofs.Common.{false, subst}
use Rattle.bson_values.specs.Marked.{Marked}
use Rattle.bson_datum.specs.MarkedView.{marked}
use Rattle.bson_laws.specs.Judged.{Reading}
use Rattle.bson_laws.specs.declared.origin.Origin.TheVariants.{Bytes}
use Rattle.bson_laws.proofs.Scoped.{read_whole}
use Rattle.bson_met.specs.Gives.{Reaches}
use Rattle.bson_de.proofs.value.read_value.Goals as goal

pub returns : goal.returns
returns c = record {
  exact = subst (λ (r : Reading Marked). Reaches marked c.read_for.result r) (read_whole c.new.result Bytes false c.args.shape.now c.args.value.now c.new.ensures.origin (c.new.ensures.whole c.args.shape.now)) c.read_for.ensures.exact;
}
