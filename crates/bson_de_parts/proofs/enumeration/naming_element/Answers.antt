use Rattle.std.proofs.Common.{sym, subst}
use Rattle.bson_met.specs.Gives.{Reaches}
use Rattle.bson_de_parts.specs.Enums.{pair_of, element_of}
use Rattle.bson_de_parts.proofs.enumeration.naming_element.Goals as goal

pub returns-in-Bytes : goal.returns-in-Bytes
returns-in-Bytes c = subst (λ o. Reaches pair_of c.first_element.result (element_of o c.args.elements)) (sym c.in-Bytes.is) c.first_element.ensures

pub returns-in-Tree : goal.returns-in-Tree
returns-in-Tree c = subst (λ o. Reaches pair_of c.only_element.result (element_of o c.args.elements)) (sym c.in-Tree.is) c.only_element.ensures.exact
