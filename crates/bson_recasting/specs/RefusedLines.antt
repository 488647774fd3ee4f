-- The line that is printed of a document that is not recast. Source: this library's own programs.
use Rattle.std.specs.Prelude.{◌++◌}
use Rattle.bson_kinds.specs.Text.{Utf8}
use Rattle.bson_values.specs.Refusal.{ReadFault, WriteFault, Failure}
use Rattle.bson_program.specs.ShapeWord.{newline}
use Rattle.bson_tree_recast.specs.Printed.{read_refused, write_refused}

abbrev pub read_refused_line : Failure ReadFault → Utf8
read_refused_line f = read_refused f ++ newline

abbrev pub write_refused_line : Failure WriteFault → Utf8
write_refused_line f = write_refused f ++ newline
