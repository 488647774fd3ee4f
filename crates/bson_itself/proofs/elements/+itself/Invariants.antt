use Rattle.std.proofs.Common.{List, ◌+◌, ◌*◌, length}
use Rattle.bson_kinds.specs.Text.{Utf8}
use Rattle.bson_keys.specs.Met.{HasKeys}
use Rattle.bson_itself.proofs.Left.{PairsLeft, TreesLeft}
use Rattle.bson_itself.proofs.elements.+itself.Given as goal

abbrev pub decreases-are_items : goal.decreases-are_items
decreases-are_items l = 5 * l.levels + 3

abbrev pub decreases-are_pairs : goal.decreases-are_pairs
decreases-are_pairs l = 5 * l.levels + 4

abbrev pub decreases-array_len : goal.decreases-array_len
decreases-array_len l = 5 * l.levels

abbrev pub decreases-document_len : goal.decreases-document_len
decreases-document_len l = 5 * l.levels

abbrev pub decreases-value_len : goal.decreases-value_len
decreases-value_len l = 5 * l.levels + 2

abbrev pub decreases-scoped_len : goal.decreases-scoped_len
decreases-scoped_len l = 5 * l.levels + 1

abbrev pub invariant-are_items-loop-rest : goal.invariant-are_items-loop-rest
invariant-are_items-loop-rest l = TreesLeft l.leaf l.bytes l.levels l.index l.rest

abbrev pub decreases-are_items-loop-rest : goal.decreases-are_items-loop-rest
decreases-are_items-loop-rest l = length l.rest

abbrev pub invariant-are_pairs-loop-rest : goal.invariant-are_pairs-loop-rest
invariant-are_pairs-loop-rest l = (before : List Utf8) × HasKeys l.keys before × PairsLeft l.leaf l.bytes l.levels before l.rest

abbrev pub decreases-are_pairs-loop-rest : goal.decreases-are_pairs-loop-rest
decreases-are_pairs-loop-rest l = length l.rest
