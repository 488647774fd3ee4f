use Rattle.bson_rawdoc.specs.Node.{from_memory, node_in}
use Rattle.std.proofs.Common.{length, ap, arith}
use Rattle.bson_met.proofs.Counts.{count_walk, count_values}
use Rattle.bson_met.proofs.items.source_of.Goals as goal

pub returns-in-Bytes-clause-few : goal.returns-in-Bytes-clause-few
returns-in-Bytes-clause-few c = λ levels. omega (arith, count_walk (node_in levels) c.iter_elements.result, c.iter_elements.ensures.few)

pub returns-in-Values-clause-few : goal.returns-in-Values-clause-few
returns-in-Values-clause-few c = λ levels. omega (arith, count_values from_memory 0 levels c.as_slice.result.now, ap length c.as_slice.ensures.value, c.len-len.ensures, c.len-len.type_inv)
