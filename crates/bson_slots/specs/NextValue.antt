-- What contracts see of the next element of an array. Source: serde's data model.
use Rattle.std.specs.Prelude.{◌≡◌, ℕ, Result, Ok, Err}
use Rattle.bson_rawdoc.specs.Node.{Node, Nodes}
use Rattle.bson_values.specs.ErrorView.{read_fault}
use Rattle.bson_values.specs.Stop.{stop_view}
use Rattle.bson_values.specs.declared.de.Fault.{Fault}
use Rattle.bson_values.specs.declared.stop.Stop.{Stop}
use Rattle.bson_laws.specs.Containers.{next_node, behind_first}
use Rattle.bson_met.specs.Gives.{RefusesAs}

-- the next element is given, and those behind it are left
abbrev pub IsNextPart : ℕ → Nodes → Result Node (Stop Fault) → Nodes → Type 0
IsNextPart i old (Ok n) new = (next_node i old ≡ Ok n) × (new ≡ behind_first old)
IsNextPart i old (Err s) new = RefusesAs (stop_view read_fault s) (next_node i old)
