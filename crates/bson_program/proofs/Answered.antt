-- A run that finishes with its answer meets the table of answers.
use Rattle.std.proofs.Common.{◌≡◌, ◌≤◌, ◌<◌, length, List, Option, Some, None, Result, Ok, Err, refl, ap, sym, subst, ◌∙◌, inl, inr, arith, string_bytes}
use Rattle.std.specs.Prelude.{◌⊎◌, ℕ, IfSome, IfOk}
use Rattle.std.specs.declared.alloc.AllocError.{AllocError}
use Rattle.bson_base.specs.Sound.{max_bytes}
use Rattle.bson_kinds.specs.Text.{Bytes, Utf8}
use Rattle.bson_io.specs.Ends.{last_count, RoseOrLast}
use Rattle.bson_program.proofs.Inputs.{read_whole}
use Rattle.bson_program.specs.Ends.{SourceChange}
use Rattle.bson_program.specs.Input.{InputEnds, OnInput}
use Rattle.bson_program.specs.Prepared.{Says, IsFinished}
use Rattle.bson_program.specs.Program.{Program, IsExpected, requested_status, status_expected, IsAnswered}
use Rattle.bson_program.specs.Run.{Run, Expected, AllQuiet, AreKept, AreCut, Told, CutShort}
use Rattle.bson_program.specs.declared.answer.Answer.{Answer}

-- What must be written for a job settles the status, where the input tells its bytes and did not fail.
pub record Settles {Job Status : Type 0} (p : Program Job Status) : Type 0 where
  pub settles : (job : Job) (input : SourceChange) (doc : Bytes) → input.before ≡ Some doc → input.faults_after ≡ input.faults_before → (status : Status) (out lines : Bytes)
      → p.Answers job input status out lines → status ≡ p.status job doc

-- a sink of which no count rose, and is not at its last value, did not fail
quiet_sink : (before after : ℕ) → after ≡ before → after < last_count → RoseOrLast before after → ⊥
quiet_sink before after same below rose = omega (arith, same, below, rose)

quiet_sinks : {Status : Type 0} (r : Run Status) (bytes lines : Bytes) → AllQuiet r → AreCut bytes lines r.out r.err → ⊥
quiet_sinks r bytes lines quiet cut = by_cause cut.cause where
  by_cause : RoseOrLast r.out.faults_before r.out.faults_after ⊎ RoseOrLast r.err.faults_before r.err.faults_after → ⊥
  by_cause (inl rose) = quiet_sink r.out.faults_before r.out.faults_after quiet.out quiet.out_below rose
  by_cause (inr rose) = quiet_sink r.err.faults_before r.err.faults_after quiet.err quiet.err_below rose

abbrev IsEnded : {Job Status : Type 0} → Program Job Status → Run Status → Type 0
IsEnded p r = Told (IsExpected p r.words r.input) r ⊎ ((r.status ≡ p.endings.sink_fault) × CutShort (IsExpected p r.words r.input) r) ⊎ ((r.status ≡ p.endings.no_memory) × AreKept r.out r.err)

module _ {Job Status : Type 0} (p : Program Job Status) (settled : Settles p) where
  -- the status with which something must be written is the one that must be returned
  expected_status : (words : List Utf8) (input : SourceChange) (doc : Bytes) → input.before ≡ Some doc → input.faults_after ≡ input.faults_before → (status : Status) (out lines : Bytes)
      → IsExpected p words input status out lines → status ≡ status_expected p words doc
  expected_status words input doc told quiet status out lines (inl h) = settled.settles h.job input doc told quiet status out lines h.answer ∙ sym (ap (λ r. requested_status p r doc) h.asked.is)
  expected_status words input doc told quiet status out lines (inr h) = h.ended ∙ sym (ap (λ r. requested_status p r doc) h.refused.is)

  complete : (r : Run Status) (doc : Bytes) → r.input.before ≡ Some doc → AllQuiet r → IsEnded p r → (r.status ≡ status_expected p r.words doc) ⊎ (r.status ≡ p.endings.no_memory)
  complete r doc told quiet (inl h) = inl (expected_status r.words r.input doc told quiet.source r.status h.bytes h.lines h.expected)
  complete r doc told quiet (inr (inl h)) = absurd (quiet_sinks r h.1.bytes h.1.lines quiet h.1.cut)
  complete r doc told quiet (inr (inr h)) = inr h.0

  -- the same of an input that may not tell its bytes
  complete_if : (r : Run Status) (before : Option Bytes) → r.input.before ≡ before → AllQuiet r → IsEnded p r → IfSome before (λ bytes. (r.status ≡ status_expected p r.words bytes) ⊎ (r.status ≡ p.endings.no_memory))
  complete_if r None is quiet ended = tt
  complete_if r (Some doc) is quiet ended = complete r doc is quiet ended

  ended : (r : Run Status) (prepared : Result (Answer Status) AllocError) → IfOk prepared (Says (IsExpected p r.words r.input)) → IsFinished p.endings prepared r.out r.err r.status → IsEnded p r
  ended r (Ok a) expected (inl h) = inl (record { bytes = a.bytes.items; lines = string_bytes a.lines; expected = subst (λ s. IsExpected p r.words r.input s a.bytes.items (string_bytes a.lines)) (sym h.0) expected; written = h.1 })
  ended r (Ok a) expected (inr h) = inr (inl (h.0, record { status = a.status; bytes = a.bytes.items; lines = string_bytes a.lines; expected = expected; cut = h.1 }))
  ended r (Err x) expected h = inr (inr h)

  pub answered : (r : Run Status) (prepared : Result (Answer Status) AllocError) → IfOk prepared (Says (IsExpected p r.words r.input)) → IsFinished p.endings prepared r.out r.err r.status
      → r.input.faults_before ≤ r.input.faults_after → r.out.faults_before ≤ r.out.faults_after → r.err.faults_before ≤ r.err.faults_after → IsAnswered p r
  answered r prepared expected finished input_later out_later err_later =
      let is = ended r prepared expected finished in
      record { ended = is; complete = λ quiet. complete_if r r.input.before refl quiet is; input_later = input_later; out_later = out_later; err_later = err_later }

same_job : {Job : Type 0} (q : Result Job Utf8) (j k : Job) → q ≡ Ok k → q ≡ Ok j → j ≡ k
same_job q j k a b = cc

-- Where nothing outside failed, what must be written for the job was told, or memory ran out.
module _ {Job Status : Type 0} (p : Program Job Status) (r : Run Status) (job : Job) (quiet : AllQuiet r) (asked : p.command.request r.words ≡ Ok job) where
  job_told : Told (IsExpected p r.words r.input) r → Told (p.Answers job r.input) r
  job_told h = record { bytes = h.bytes; lines = h.lines; expected = by_expected h.expected; written = h.written } where
    by_expected : IsExpected p r.words r.input r.status h.bytes h.lines → p.Answers job r.input r.status h.bytes h.lines
    by_expected (inl row) = subst (λ j. p.Answers j r.input r.status h.bytes h.lines) (same_job (p.command.request r.words) row.job job asked row.asked.is) row.answer
    by_expected (inr row) = absurd (let e = sym row.refused.is ∙ asked in cc)

  by_end : IsEnded p r → Told (p.Answers job r.input) r ⊎ ((r.status ≡ p.endings.no_memory) × AreKept r.out r.err)
  by_end (inl h) = inl (job_told h)
  by_end (inr (inl h)) = absurd (quiet_sinks r h.1.bytes h.1.lines quiet h.1.cut)
  by_end (inr (inr h)) = inr h

  pub quiet_told : IsAnswered p r → Told (p.Answers job r.input) r ⊎ ((r.status ≡ p.endings.no_memory) × AreKept r.out r.err)
  quiet_told answers = by_end answers.ended

-- the same of a program that reads an input of these bytes
pub quiet_read : {Job Status : Type 0} (p : Program Job Status) (ends : InputEnds Status) (Answers : Bytes → Expected Status) (r : Run Status) (job : Job) (doc : Bytes) → AllQuiet r → p.command.request r.words ≡ Ok job
    → ((status : Status) (out lines : Bytes) → p.Answers job r.input status out lines → OnInput ends Answers r.input status out lines) → r.input.before ≡ Some doc → length doc ≤ max_bytes → IsAnswered p r
    → Told (Answers doc) r ⊎ ((r.status ≡ p.endings.no_memory) × AreKept r.out r.err)
quiet_read p ends Answers r job doc quiet asked on_input told most answers = of_doc (quiet_told p r job quiet asked answers) where
  of_doc : Told (p.Answers job r.input) r ⊎ ((r.status ≡ p.endings.no_memory) × AreKept r.out r.err) → Told (Answers doc) r ⊎ ((r.status ≡ p.endings.no_memory) × AreKept r.out r.err)
  of_doc (inl h) =
      inl (record { bytes = h.bytes; lines = h.lines; expected = read_whole ends Answers r.input doc told quiet.source most r.status h.bytes h.lines (on_input r.status h.bytes h.lines h.expected); written = h.written })
  of_doc (inr h) = inr h
