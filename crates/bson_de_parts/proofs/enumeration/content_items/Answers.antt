use Rattle.std.proofs.Common.{sym, subst}
use Rattle.bson_rawdoc.specs.Node.{Nodes}
use Rattle.bson_met.specs.Gives.{Reaches}
use Rattle.bson_de_parts.specs.TreeContents.{content_items_of}
use Rattle.bson_de_parts.proofs.enumeration.content_items.Goals as goal

pub returns-in-Bytes : goal.returns-in-Bytes
returns-in-Bytes c = record { exact = subst (λ o. Reaches (λ (e : Nodes). e) c.array.result (content_items_of o c.args.value.now)) (sym c.in-Bytes.is) c.array.ensures.array }

pub returns-in-Tree : goal.returns-in-Tree
returns-in-Tree c = record { exact = subst (λ o. Reaches (λ (e : Nodes). e) c.filled_items.result (content_items_of o c.args.value.now)) (sym c.in-Tree.is) c.filled_items.ensures.exact }
