use Rattle.std.proofs.Common.{sym, subst}
use Rattle.bson_shape.specs.Form.{leaf}
use Rattle.bson_datum.specs.MarkedView.{marked}
use Rattle.bson_laws.specs.ReadsFrom.{reads_from}
use Rattle.bson_met.specs.Gives.{Reaches}
use Rattle.bson_de.proofs.leaf.read_leaf_at.Goals as goal

pub returns-in-Bytes : goal.returns-in-Bytes
returns-in-Bytes c = record { exact = subst (λ o. Reaches marked c.read_any_leaf.result (reads_from o (leaf c.args.leaf) c.args.value.now)) (sym c.in-Bytes.is) c.read_any_leaf.ensures.exact }

pub returns-in-Tree : goal.returns-in-Tree
returns-in-Tree c = record { exact = subst (λ o. Reaches marked c.read_tree_leaf.result (reads_from o (leaf c.args.leaf) c.args.value.now)) (sym c.in-Tree.is) c.read_tree_leaf.ensures.exact }
