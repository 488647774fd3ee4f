-- What a run wrote is written again by a run with the same words.
use Rattle.std.proofs.Common.{◌≡◌, ◌≤◌, [], length, Bool, true, false, Ok, Option, Some, None, refl, ap, sym, subst, ◌∙◌, arith, inl, inr}
use Rattle.std.specs.Prelude.{◌⊎◌}
use Rattle.std.specs.Io.KnownBytes.{Appends}
use Rattle.bson_base.specs.Sound.{max_bytes}
use Rattle.bson_kinds.specs.Text.{Bytes, AreBytes}
use Rattle.bson_kinds.proofs.Outcomes.{ok_is}
use Rattle.bson_shape.specs.Form.{Form}
use Rattle.bson_shape.specs.Makers.{IsShape}
use Rattle.bson_laws.specs.Reads.{reads_document}
use Rattle.bson_laws.specs.Settled.{IsSettled}
use Rattle.bson_program.proofs.Inputs.{whole}
use Rattle.bson_program.specs.Command.{IsAskedFor}
use Rattle.bson_program.specs.Ends.{ReadAs}
use Rattle.bson_program.specs.Program.{IsExpected, IsAnswered}
use Rattle.bson_program.specs.Run.{Run, AllQuiet, AreKept, AreWritten, Told, CutShort}
use Rattle.bson_de_raw.specs.ReadsLossy.{reads_lossy}
use Rattle.bson_recast_run.specs.declared.options.Job.{Job}
use Rattle.bson_recast_run.specs.declared.options.Request.{Request}
use Rattle.bson_recast_run.specs.declared.options.Request.TheVariants as requests
use Rattle.bson_recast_run.specs.declared.options.Way.{Way}
use Rattle.bson_recast_run.specs.declared.options.Way.TheVariants as ways
use Rattle.bson_recast_run.specs.declared.status.Status.{Status}
use Rattle.bson_recast_run.specs.declared.status.Status.TheVariants as statuses
use Rattle.bson_recast_run.specs.Digits.{document_in, shown}
use Rattle.bson_recast_run.specs.Options.{recast_command, request, AskForDigits, IsByValue, recast_with}
use Rattle.bson_tree_recast.specs.Recast.{writes}
use Rattle.bson_recast_run.specs.Rows.{AnswersDocument, AnswersRequest, recast_program, WritesExactly}
use Rattle.bson_recast_run.proofs.AskedFor.{options_asked}
use Rattle.bson_recast_run.proofs.DigitsBack.{document_are, shown_holds}
use Rattle.bson_recast_run.proofs.Headline.{writes_job}
use Rattle.bson_recasting.proofs.Again.{written_fits, recast_again, lossy_again}

-- the same in each way that is by value
with_again : (way : Way) (s : Form) (bytes out : Bytes) → IsByValue way → IsShape s → IsSettled s → AreBytes bytes → recast_with way s bytes ≡ writes out → recast_with way s out ≡ writes out
with_again ways.Plain s bytes out by shape expected are e = recast_again s bytes out shape expected are e
with_again ways.Lossy s bytes out by shape expected are e = lossy_again s bytes out shape expected are e
with_again ways.Tree s bytes out by shape expected are e = absurd by

with_fits : (way : Way) (s : Form) (bytes out : Bytes) → IsByValue way → recast_with way s bytes ≡ writes out → length out ≤ max_bytes
with_fits ways.Plain s bytes out by e = written_fits (reads_document s) bytes out e
with_fits ways.Lossy s bytes out by e = written_fits (reads_lossy s) bytes out e
with_fits ways.Tree s bytes out by e = absurd by

-- ---- two runs

-- what an empty output holds after bytes were appended
grown : (before after : Option Bytes) (bytes out : Bytes) → before ≡ Some [] → after ≡ Some out → Appends before after bytes → bytes ≡ out
grown before after bytes out empty holds grew =
    let both : Appends (Some []) (Some out) bytes = subst (λ a. Appends (Some []) a bytes) holds (subst (λ b. Appends b after bytes) empty grew) in
    sym both

-- what was written for a document that an input held
pub record IsDone (job : Job) (held : Option Bytes) (out : Bytes) : Type 0 where
  pub document : Bytes
  pub holds : held ≡ Some document
  pub written : Bytes
  pub answer : recast_with job.options.way job.shape document ≡ writes written
  pub are_bytes : AreBytes written
  pub shows : out ≡ shown job.options.hex written

done_for : (job : Job) (held : Option Bytes) (out line : Bytes) → AnswersDocument job held statuses.Done out line → IsDone job held out
done_for job (Some document) out line h = record { document = document; holds = refl; written = h.document; answer = h.answer; are_bytes = h.are_bytes; shows = h.shows }
done_for job None out line h = absurd h

-- a run that ended well: the job that was asked for, the input, and what was written
pub record HasWritten (r : Run Status) : Type 0 where
  pub job : Job
  pub asked : IsAskedFor recast_command r.words (requests.Recast job)
  pub bytes : Bytes
  pub read : ReadAs r.input bytes
  pub out : Bytes
  pub done : IsDone job (document_in job.options.hex bytes) out
  pub out_grew : Appends r.out.before r.out.after out

has_written : (r : Run Status) (job : Job) → request r.words ≡ Ok (requests.Recast job) → r.status ≡ statuses.Done → IsAnswered recast_program r → HasWritten r
has_written r job asks done answers = by_end answers.ended where
  by_expected : (bytes lines : Bytes) → AreWritten bytes lines r.out r.err → IsExpected recast_program r.words r.input statuses.Done bytes lines → HasWritten r
  by_expected bytes lines written (inr row) = absurd (let e = row.ended in cc)
  by_expected bytes lines written (inl row) = by_request row.job row.asked row.answer where
    by_request : (asked : Request) → IsAskedFor recast_command r.words asked → AnswersRequest asked r.input statuses.Done bytes lines → HasWritten r
    by_request (requests.Make rows) is h = absurd (let e = sym asks ∙ is.is in cc)
    by_request (requests.Recast job) is (inl h) =
        record { job = job; asked = is; bytes = h.bytes; read = h.read; out = bytes; done = done_for job (document_in job.options.hex h.bytes) bytes lines h.answer; out_grew = written.out_grew }
    by_request (requests.Recast job) is (inr (inl h)) = absurd (let e = h.ended in cc)
    by_request (requests.Recast job) is (inr (inr h)) = absurd (let e = h.ended in cc)

  by_end : Told (IsExpected recast_program r.words r.input) r ⊎ ((r.status ≡ statuses.SinkFault) × CutShort (IsExpected recast_program r.words r.input) r) ⊎ ((r.status ≡ statuses.NoMemory) × AreKept r.out r.err) → HasWritten r
  by_end (inl h) = by_expected h.bytes h.lines h.written (subst (λ x. IsExpected recast_program r.words r.input x h.bytes h.lines) done h.expected)
  by_end (inr (inl h)) = absurd (let e = sym done ∙ h.0 in cc)
  by_end (inr (inr h)) = absurd (let e = sym done ∙ h.0 in cc)

-- what was shown is no longer than an input may be: not so where it is shown in digits
shown_fits : (hex : Bool) (document out : Bytes) → length document ≤ max_bytes → out ≡ shown hex document → (hex ≡ true → length out ≤ max_bytes) → length out ≤ max_bytes
shown_fits false document out small is digits = omega (arith, small, ap length is)
shown_fits true document out small is digits = digits refl

-- A run by value that ended well on an input of bytes, at a shape that does not depend on whether the reader is human, wrote `out` to an empty output: a run with the
-- same words on `out` writes exactly it, or nothing. Digits may be more than an input may have.
pub run_again : (first second : Run Status) (job : Job) (given out : Bytes) → request first.words ≡ Ok (requests.Recast job) → IsByValue job.options.way → IsSettled job.shape → IsAnswered recast_program first → first.status ≡ statuses.Done → AreBytes given → first.input.before ≡ Some given
    → first.out.before ≡ Some [] → first.out.after ≡ Some out → (AskForDigits first.words → length out ≤ max_bytes) → IsAnswered recast_program second → second.words ≡ first.words
    → second.input.before ≡ Some out → AllQuiet second → WritesExactly second out
run_again first second job given out asked value expected answers done are told empty holds short again words input quiet =
    let h = has_written first job asked done answers in
    let d = h.done in
    let o = h.job.options in
    let s = h.job.shape in
    let is_input : h.bytes ≡ given = whole first.input.before first.input.after h.bytes given h.read.taken h.read.ended told in
    let is_out : h.out ≡ out = grown first.out.before first.out.after h.out out empty holds h.out_grew in
    let same_request : requests.Recast job ≡ requests.Recast h.job = ok_is (requests.Recast job) (requests.Recast h.job) (sym asked ∙ h.asked.is) in
    let same_job : job ≡ h.job = cc in
    let settled : IsSettled s = subst (λ (j : Job). IsSettled j.shape) same_job expected in
    let by : IsByValue o.way = subst (λ (j : Job). IsByValue j.options.way) same_job value in
    let held : document_in o.hex given ≡ Some d.document = sym (ap (document_in o.hex) is_input) ∙ d.holds in
    let shows : out ≡ shown o.hex d.written = sym is_out ∙ d.shows in
    let small : length out ≤ max_bytes =
    shown_fits o.hex d.written out (with_fits o.way s d.document d.written by d.answer) shows (λ hex. short (ap (λ p. p.hex) (options_asked first.words h.job h.asked.is) ∙ hex)) in
    let next : recast_with o.way s d.written ≡ writes d.written = with_again o.way s d.document d.written by h.asked.asks.made settled (document_are o.hex given d.document are held) d.answer in
    subst (WritesExactly second) (sym shows)
    (writes_job h.job out d.written d.written second again small (ap (document_in o.hex) shows ∙ shown_holds o.hex d.written d.are_bytes) next (ap request words ∙ h.asked.is) input quiet)
