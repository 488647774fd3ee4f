use Rattle.std.proofs.Common.{◌≡◌, ◌++◌, drop, string_bytes}
use Rattle.bson_evolve_differences.specs.Views.{differences_view}
use Rattle.bson_buffers.specs.Compares.{difference_texts}
use Rattle.bson_buffers.proofs.differing.difference_texts.Given as goal

abbrev pub invariant-loop-difference : goal.invariant-loop-difference
invariant-loop-difference l = string_bytes l.texts ++ difference_texts (differences_view (drop l.difference-index l.found)) ≡ difference_texts (differences_view l.found)
