-- What was prepared must be written.
use Rattle.std.proofs.Common.{◌≡◌, List, Result, Ok, Err, sym, subst, inl}
use Rattle.std.specs.Prelude.{IfOk}
use Rattle.std.specs.declared.alloc.AllocError.{AllocError}
use Rattle.bson_kinds.specs.Text.{Bytes, Utf8}
use Rattle.bson_program.specs.Command.{IsAskedFor}
use Rattle.bson_program.specs.Ends.{SourceChange, ReadAs}
use Rattle.bson_program.specs.Input.{InputEnds, OnInput}
use Rattle.bson_program.specs.Prepared.{Says}
use Rattle.bson_program.specs.Program.{Program, IsExpected}
use Rattle.bson_program.specs.Run.{Expected}
use Rattle.bson_program.specs.declared.answer.Answer.{Answer}

-- what must be written for a whole input must be written for the input
pub whole_expected : {Status : Type 0} (ends : InputEnds Status) (Answers : Bytes → Expected Status) (input : SourceChange) (bytes same : Bytes) (r : Result (Answer Status) AllocError)
    → ReadAs input bytes → same ≡ bytes → IfOk r (Says (Answers same)) → IfOk r (Says (OnInput ends Answers input))
whole_expected ends Answers input bytes same (Ok a) read is h = inl (record { bytes = same; read = subst (ReadAs input) (sym is) read; answer = h })
whole_expected ends Answers input bytes same (Err e) read is h = tt

-- what must be written for a job on the input must be written for words that ask for it
pub job_expected : {Job Status : Type 0} (p : Program Job Status) (words : List Utf8) (input : SourceChange) (job : Job) (r : Result (Answer Status) AllocError)
    → IsAskedFor p.command words job → IfOk r (Says (p.Answers job input)) → IfOk r (Says (IsExpected p words input))
job_expected p words input job (Ok a) asked h = inl (record { job = job; asked = asked; answer = h })
job_expected p words input job (Err e) asked h = tt
