use Rattle.std.proofs.Common.{ap, sym, subst}
use Rattle.bson_shape.specs.Form.{leaf}
use Rattle.bson_values.specs.Marked.{Marked}
use Rattle.bson_datum.specs.MarkedView.{marked}
use Rattle.bson_laws.specs.Judged.{Reading}
use Rattle.bson_laws.specs.Reads.{reads}
use Rattle.bson_met.specs.Gives.{Reaches}
use Rattle.bson_leaves.proofs.NumberLeaves.{number_read}
use Rattle.bson_leaves.proofs.leaf.read_leaf.Goals as goal

pub returns-in-I8 : goal.returns-in-I8
returns-in-I8 c = record { exact = subst (λ (r : Reading Marked). Reaches marked c.number.result r) (sym (number_read c.args.leaf c.args.value.now c.in-I8.is)) c.number.ensures.exact }

pub returns-in-Any : goal.returns-in-Any
returns-in-Any c = record { exact = subst (λ (r : Reading Marked). Reaches marked c.any_leaf.result r) (sym (ap (λ l. reads (leaf l) c.args.value.now) c.in-Any.is)) c.any_leaf.ensures.exact }

pub returns-in-Char : goal.returns-in-Char
returns-in-Char c = record { exact = subst (λ (r : Reading Marked). Reaches marked c.character_leaf.result r) (sym (ap (λ l. reads (leaf l) c.args.value.now) c.in-Char.is)) c.character_leaf.ensures.exact }
