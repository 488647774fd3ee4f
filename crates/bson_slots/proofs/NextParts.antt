-- The next element of an array.
use Rattle.std.proofs.Common.{◌≡◌, ℕ, Ok, ap}
use Rattle.bson_rawdoc.specs.Node.{Node, Nodes, ended, faulty, then_node}
use Rattle.bson_values.specs.Marked.{Marked}
use Rattle.bson_values.specs.Refusal.{under_index}
use Rattle.bson_laws.specs.Containers.{next_value, next_node}
use Rattle.bson_laws.specs.Judged.{Reading}

-- the value of the next element
pub value_expected : (i : ℕ) (read : Node → Reading Marked) (ns : Nodes) (n : Node) → next_node i ns ≡ Ok n → next_value i read ns ≡ under_index i (read n)
value_expected i read ended n e = absurd cc
value_expected i read (faulty f) n e = absurd cc
value_expected i read (then_node k m ns) n e = let same : m ≡ n = cc in ap (λ x. under_index i (read x)) same
