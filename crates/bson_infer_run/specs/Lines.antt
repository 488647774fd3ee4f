-- The lines that are printed. Source: this library's own programs.
use Rattle.std.specs.Prelude.{ℕ, ◌++◌, codes}
use Rattle.std.specs.Fmt.{decimal}
use Rattle.bson_kinds.specs.Text.{Utf8}
use Rattle.bson_program.specs.ShapeWord.{newline}
use Rattle.bson_faults.specs.Printed.{printed_fault}
use Rattle.bson_faults.specs.declared.raw.Error.{Error}
use Rattle.bson_infer_run.specs.declared.error.InferError.{InferError}
use Rattle.bson_infer_run.specs.declared.error.InferError.TheVariants.{NotSound, NoMemory}

abbrev pub usage_line : Utf8
usage_line = codes "usage: bson_infer\n"

-- the line for the document with this number, which has a fault
abbrev pub faulty_line : (number : ℕ) → Error → Utf8
faulty_line number e = codes "document " ++ (decimal number ++ (codes ": " ++ (printed_fault e ++ newline)))

-- the text of an error of an inference
abbrev pub infer_error_text : InferError → Utf8
infer_error_text (NotSound number) = codes "document " ++ (decimal number ++ codes ": not sound")
infer_error_text NoMemory = codes "out of memory"

-- the line for the document with this number, which is not sound
abbrev pub unsound_line : (number : ℕ) → Utf8
unsound_line number = codes "document " ++ (decimal number ++ codes ": not sound\n")
