-- The text of an error of a recast. Source: this library's own texts.
use Rattle.std.specs.Prelude.{◌++◌, codes}
use Rattle.bson_kinds.specs.Text.{Utf8}
use Rattle.bson_values.specs.ErrorView.{read_failure, write_failure}
use Rattle.bson_values.specs.Refusal.{ReadFault, WriteFault, Failure}
use Rattle.bson_values.specs.Printed.{printed_failure, printed_read_fault, printed_write_fault}
use Rattle.bson_tree_recast.specs.declared.error.RecastError.{RecastError}
use Rattle.bson_tree_recast.specs.declared.error.RecastError.TheVariants.{Read, Write, NoMemory}

-- what is said of a document that is not read for this failure
abbrev pub read_refused : Failure ReadFault → Utf8
read_refused f = codes "read refused: " ++ printed_failure printed_read_fault f

-- what is said of a value that is not written for this failure
abbrev pub write_refused : Failure WriteFault → Utf8
write_refused f = codes "write refused: " ++ printed_failure printed_write_fault f

abbrev pub recast_error_text : RecastError → Utf8
recast_error_text (Read e) = read_refused (read_failure e)
recast_error_text (Write e) = write_refused (write_failure e)
recast_error_text NoMemory = codes "out of memory"
