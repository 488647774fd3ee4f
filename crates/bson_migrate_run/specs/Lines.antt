-- The lines that are printed. Source: this library's own programs.
use Rattle.std.specs.Prelude.{◌≡◌, ℕ, List, [], ◌∷◌, ◌++◌, false, codes}
use Rattle.std.specs.Fmt.{decimal}
use Rattle.bson_kinds.specs.Text.{Utf8}
use Rattle.bson_values.specs.Refusal.{WriteFault, Failure}
use Rattle.bson_recasting.specs.RefusedLines.{read_refused_line, write_refused_line}
use Rattle.bson_tree_recast.specs.Printed.{recast_error_text}
use Rattle.bson_program.specs.OneShape.{Usage}
use Rattle.bson_program.specs.ShapeWord.{newline}
use Rattle.bson_tree_recast.specs.Recast.{Recast, writes, unread, unwritten, Unwritten}
use Rattle.bson_migrate_run.specs.declared.migrating.MigrateError.{MigrateError}
use Rattle.bson_migrate_run.specs.declared.migrating.MigrateError.TheVariants.{Broken, NoMemory}
use Rattle.bson_migrate_run.specs.declared.migrating.Refused.{Refused}
use Rattle.bson_migrate_run.specs.Migrating.{NotRecast}

-- The migration has no options.
abbrev pub migrate_usage : Usage
migrate_usage = record { line = codes "usage: bson_migrate SHAPE\n"; is_option = λ word. false }

-- what is said of the document with this number
abbrev pub of_document : (number : ℕ) → Utf8 → Utf8
of_document number said = codes "document " ++ (decimal number ++ (codes ": " ++ said))

-- what is said of a refused document, without the end of the line
abbrev pub refused_text : Refused → Utf8
refused_text x = of_document x.number (recast_error_text x.error)

-- the text of an error of a migration
abbrev pub migrate_error_text : MigrateError → Utf8
migrate_error_text (Broken place) = codes "broken at " ++ decimal place
migrate_error_text NoMemory = codes "out of memory"

-- the lines of a list of refused documents
abbrev pub refused_lines : List Refused → Utf8
refused_lines [] = []
refused_lines (x ∷ xs) = (refused_text x ++ newline) ++ refused_lines xs

-- The line for a document that is not recast. Where the value is refused and is also too long, it may be the line for either.
abbrev pub IsLine : (number : ℕ) → Recast → Utf8 → Type 0
IsLine number (writes bytes) line = ⊥
IsLine number (unread f) line = line ≡ of_document number (read_refused_line f)
IsLine number (unwritten expected too_long) line = (f : Failure WriteFault) × Unwritten (unwritten expected too_long) f × (line ≡ of_document number (write_refused_line f))

-- a line for each document that is not recast
abbrev pub AreLines : List NotRecast → Utf8 → Type 0
AreLines [] text = text ≡ []
AreLines (d ∷ ds) text = (line : Utf8) × (rest : Utf8) × IsLine d.number d.recast line × (text ≡ line ++ rest) × AreLines ds rest
