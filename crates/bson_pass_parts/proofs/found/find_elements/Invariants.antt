use Rattle.bson_rawdoc.specs.Node.{node_in, nodes_with}
use Rattle.bson_rawdoc.specs.Walk.{walk_elements}
use Rattle.bson_rawdoc.specs.Next.{steps}
use Rattle.bson_laws.specs.declared.origin.Reader.{Reader}
use Rattle.bson_slots.specs.FieldsRead.{unknown_of}
use Rattle.bson_pass_parts.specs.Found.{AreFound}
use Rattle.bson_pass_parts.proofs.found.find_elements.Given as goal

abbrev pub invariant-loop-step : goal.invariant-loop-step
invariant-loop-step l = (r : Reader) → AreFound r (unknown_of l.closed) l.levels l.front l.fields (nodes_with (node_in l.levels) (walk_elements l.elements)) (nodes_with (node_in l.levels) (walk_elements l.rest)) l.found.items

abbrev pub decreases-loop-step : goal.decreases-loop-step
decreases-loop-step l = steps (walk_elements l.rest)
