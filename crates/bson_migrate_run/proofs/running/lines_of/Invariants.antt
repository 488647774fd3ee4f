use Rattle.std.proofs.Common.{◌≡◌, ◌++◌, drop, string_bytes}
use Rattle.bson_migrate_run.specs.Lines.{refused_lines}
use Rattle.bson_migrate_run.proofs.running.lines_of.Given as goal

abbrev pub invariant-loop-document : goal.invariant-loop-document
invariant-loop-document l = string_bytes l.lines ++ refused_lines (drop l.document-index l.refused) ≡ refused_lines l.refused
