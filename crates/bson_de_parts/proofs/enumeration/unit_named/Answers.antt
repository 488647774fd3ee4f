use Rattle.std.proofs.Common.{sym, subst}
use Rattle.bson_shape.specs.ShapeView.{variants_of}
use Rattle.bson_datum.specs.MarkedView.{marked}
use Rattle.bson_laws.specs.FromTree.{unit_named}
use Rattle.bson_laws.specs.Variants.{content_of}
use Rattle.bson_met.specs.Gives.{Reaches}
use Rattle.bson_de_parts.proofs.enumeration.unit_named.Goals as goal

pub returns-in-Bytes : goal.returns-in-Bytes
returns-in-Bytes c =
    let name = c.args.name.now in
    record { exact = subst (λ o. Reaches marked c.unit_of.result (unit_named o name (content_of (variants_of c.args.variants.now) name))) (sym c.in-Bytes.is) c.unit_of.ensures.exact }

pub returns-in-Tree : goal.returns-in-Tree
returns-in-Tree c =
    let name = c.args.name.now in
    record { exact = subst (λ o. Reaches marked c.tree_unit_of.result (unit_named o name (content_of (variants_of c.args.variants.now) name))) (sym c.in-Tree.is) c.tree_unit_of.ensures.exact }
