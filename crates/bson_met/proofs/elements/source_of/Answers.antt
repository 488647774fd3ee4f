use Rattle.bson_rawdoc.specs.Node.{from_memory, node_in}
use Rattle.std.proofs.Common.{ap, arith}
use Rattle.bson_base.specs.Pairs as pairs
use Rattle.bson_met.specs.OpenedView.{extended_view}
use Rattle.bson_met.proofs.Counts.{count_walk, count_pairs, count_left}
use Rattle.bson_met.proofs.elements.source_of.Goals as goal

pub returns-in-Bytes-clause-few : goal.returns-in-Bytes-clause-few
returns-in-Bytes-clause-few c = λ levels. omega (arith, count_walk (node_in levels) c.iter_elements.result, c.iter_elements.ensures.few)

pub returns-in-Pairs-clause-few : goal.returns-in-Pairs-clause-few
returns-in-Pairs-clause-few c = λ levels. omega (arith, count_pairs from_memory levels c.iter.result, ap pairs.count c.iter.ensures.pairs, c.len-len.ensures.len, c.len-len.type_inv)

pub returns-in-Opened-clause-few : goal.returns-in-Opened-clause-few
returns-in-Opened-clause-few c = λ levels. omega (arith, count_left c.in-Opened.opened.place (extended_view c.in-Opened.opened.value))
