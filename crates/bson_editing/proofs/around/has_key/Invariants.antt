use Rattle.std.proofs.Common.{◌≡◌}
use Rattle.bson_rawdoc.specs.DocumentView.{document_bytes}
use Rattle.bson_rawdoc.specs.Walk.{walk}
use Rattle.bson_editing.specs.Edited.{has_key}
use Rattle.bson_editing.proofs.around.has_key.Given as goal

abbrev pub invariant-loop-element : goal.invariant-loop-element
invariant-loop-element l =
    (goal.iterator-loop-element).can_next l.element-iterator × (goal.iterator-loop-element).is_finite l.element-iterator
    × (has_key l.key (walk (document_bytes l.document)) ≡ has_key l.key l.element-iterator)
