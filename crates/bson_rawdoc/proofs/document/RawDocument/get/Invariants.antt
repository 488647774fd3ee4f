use Rattle.std.proofs.Common.{◌≡◌}
use Rattle.bson_rawdoc.specs.DocumentView.{document_bytes}
use Rattle.bson_rawdoc.specs.Get.{get}
use Rattle.bson_rawdoc.specs.Walk.{walk}
use Rattle.bson_rawdoc.proofs.document.RawDocument.get.Given as goal

abbrev pub invariant-loop-element : goal.invariant-loop-element
invariant-loop-element l =
    (goal.iterator-loop-element).can_next l.element-iterator × (goal.iterator-loop-element).is_finite l.element-iterator
    × (get l.key (walk (document_bytes l.self)) ≡ get l.key l.element-iterator)
