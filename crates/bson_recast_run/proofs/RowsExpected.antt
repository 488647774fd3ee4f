-- What must be written for rows.
use Rattle.std.proofs.Common.{ℕ, List, Option, Some, None, Result, Ok, Err, refl, inl}
use Rattle.std.specs.Prelude.{IfOk}
use Rattle.std.specs.Io.KnownBytes.{Keeps}
use Rattle.std.specs.declared.alloc.AllocError.{AllocError}
use Rattle.bson_kinds.specs.Text.{Bytes, Utf8}
use Rattle.bson_program.specs.Command.{IsAskedFor}
use Rattle.bson_program.specs.Ends.{SourceChange}
use Rattle.bson_program.specs.Prepared.{Says}
use Rattle.bson_program.specs.Program.{IsExpected}
use Rattle.bson_program.specs.declared.answer.Answer.{Answer}
use Rattle.bson_recast_run.specs.declared.options.Request.TheVariants as requests
use Rattle.bson_recast_run.specs.declared.status.Status.{Status}
use Rattle.bson_recast_run.specs.Rows.{AnswersRows, recast_program}

-- an input that was not touched
pub keeps_same : (o : Option Bytes) → Keeps o o
keeps_same None = tt
keeps_same (Some bytes) = refl

-- what must be written for rows must be written for words that ask for them, where the input was not touched
pub rows_expected : (words : List Utf8) (input : SourceChange) (rows : ℕ) (r : Result (Answer Status) AllocError) → IsAskedFor recast_program.command words (requests.Make rows) → Keeps input.before input.after
    → IfOk r (Says (AnswersRows rows)) → IfOk r (Says (IsExpected recast_program words input))
rows_expected words input rows (Ok a) asked kept h = inl (record { job = requests.Make rows; asked = asked; answer = (kept, h) })
rows_expected words input rows (Err e) asked kept h = tt
