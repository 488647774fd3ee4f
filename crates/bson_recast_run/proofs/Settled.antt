-- What must be written for a document settles the status.
use Rattle.std.proofs.Common.{◌≡◌, ℕ, Bool, Option, Some, None, ap, refl, sym}
use Rattle.bson_kinds.specs.Text.{Bytes}
use Rattle.bson_values.specs.Refusal.{WriteFault, Failure}
use Rattle.bson_program.proofs.Answered.{Settles}
use Rattle.bson_program.proofs.Inputs.{input_settles}
use Rattle.bson_program.specs.Ends.{SourceChange}
use Rattle.bson_recast_run.specs.declared.options.Job.{Job}
use Rattle.bson_recast_run.specs.declared.options.Request.{Request}
use Rattle.bson_recast_run.specs.declared.options.Request.TheVariants as requests
use Rattle.bson_recast_run.specs.declared.status.Status.{Status}
use Rattle.bson_recast_run.specs.declared.status.Status.TheVariants as statuses
use Rattle.bson_recast_run.specs.Digits.{document_in}
use Rattle.bson_tree_recast.specs.Recast.{Recast, writes, unread, unwritten, Unwritten}
use Rattle.bson_recast_run.specs.Options.{recast_with}
use Rattle.bson_recast_run.specs.Rows.{AnswersRecast, AnswersNotDigits, AnswersDocument, AnswersJob, AnswersRows, AnswersRequest, recast_status, document_status, request_status, recast_input, recast_program}

status_unwritten : (r : Recast) (f : Failure WriteFault) → Unwritten r f → recast_status r ≡ statuses.WriteRefused
status_unwritten (writes bytes) f h = absurd h
status_unwritten (unread e) f h = absurd h
status_unwritten (unwritten expected too_long) f h = refl

status_is : (hex : Bool) (r : Recast) (status : Status) (out line : Bytes) → AnswersRecast hex r status out line → status ≡ recast_status r
status_is hex r statuses.Done out line h = sym (ap recast_status h.answer)
status_is hex r statuses.ReadRefused out line h = sym (ap recast_status h.answer)
status_is hex r statuses.WriteRefused out line h = sym (status_unwritten r h.failure h.answer)
status_is hex r status out line h = absurd h

not_digits_is : (status : Status) (out line : Bytes) → AnswersNotDigits status out line → status ≡ statuses.ReadRefused
not_digits_is statuses.ReadRefused out line h = refl
not_digits_is status out line h = absurd h

document_is : (job : Job) (held : Option Bytes) (status : Status) (out line : Bytes) → AnswersDocument job held status out line → status ≡ document_status job held
document_is job (Some document) status out line h = status_is job.options.hex (recast_with job.options.way job.shape document) status out line h
document_is job None status out line h = not_digits_is status out line h

made_is : (rows : ℕ) (status : Status) (out line : Bytes) → AnswersRows rows status out line → status ≡ statuses.Done
made_is rows statuses.Done out line h = refl
made_is rows status out line h = absurd h

request_is : (asked : Request) (input : SourceChange) (doc : Bytes) → input.before ≡ Some doc → input.faults_after ≡ input.faults_before → (status : Status) (out line : Bytes) → AnswersRequest asked input status out line → status ≡ request_status asked doc
request_is (requests.Recast job) input doc told quiet =
    input_settles recast_input (AnswersJob job) input doc told quiet (λ bytes. document_status job (document_in job.options.hex bytes)) (λ bytes. document_is job (document_in job.options.hex bytes))
request_is (requests.Make rows) input doc told quiet = λ status out line h. made_is rows status out line h.1

pub settled : Settles recast_program
settled = record { settles = request_is }
