-- What is written under the headline's conditions.
use Rattle.std.proofs.Common.{◌≡◌, ◌≤◌, [], ◌∷◌, ◌++◌, length, Bool, true, false, cond, Option, Some, None, Ok, refl, ap, subst, ◌∙◌, inl, inr, append-nil}
use Rattle.std.specs.Prelude.{◌⊎◌, ◌&&◌, ℕ, nat_eq}
use Rattle.std.specs.Io.KnownBytes.{Keeps, Appends}
use Rattle.std.proofs.lemmas.Bool.{eqb-true}
use Rattle.bson_base.specs.Sound.{IsSound, max_bytes}
use Rattle.bson_kinds.specs.Text.{Bytes, Utf8}
use Rattle.bson_base.specs.Tree.{Tree, enc}
use Rattle.bson_shape.specs.Form.{dropped, denied, Form, leaf, optional, lossy, human_readable, by_mode, newtype, unit_structure, sequence, map, tuple, tuple_structure, structure, enumeration, reference, definitions, no_fields}
use Rattle.bson_shape.specs.Makers.{IsShape}
use Rattle.bson_shape.specs.Notation.{text, bare, quoted}
use Rattle.bson_shape.specs.Leaf.{word}
use Rattle.bson_shape.proofs.Words.{bare-word}
use Rattle.bson_values.specs.Value.{Value}
use Rattle.bson_laws.specs.Means.{means}
use Rattle.bson_laws.specs.Plain.{IsPlain}
use Rattle.bson_laws.specs.Recursive.{view}
use Rattle.bson_recast_run.specs.declared.options.Job.{Job}
use Rattle.bson_recast_run.specs.declared.options.Request.TheVariants as requests
use Rattle.bson_recast_run.specs.declared.status.Status.{Status}
use Rattle.bson_recast_run.specs.declared.status.Status.TheVariants as statuses
use Rattle.bson_recast_run.specs.PrintedLines.{recast_usage}
use Rattle.bson_program.proofs.Answered.{quiet_read}
use Rattle.bson_program.specs.Program.{IsAnswered}
use Rattle.bson_program.specs.Run.{Run, AllQuiet, AreKept, Told}
use Rattle.bson_recast_run.specs.Digits.{document_in, shown}
use Rattle.bson_recast_run.specs.Options.{no_options, job_of, request, recast_with}
use Rattle.bson_tree_recast.specs.Recast.{writes}
use Rattle.bson_recast_run.specs.Rows.{AnswersRecast, AnswersDocument, AnswersJob, recast_input, recast_program, WritesExactly}
use Rattle.bson_recast_run.proofs.AskedFor.{asked_alone}
use Rattle.bson_recasting.proofs.Migrates.{recasts_it}

-- ---- the words

not_both : (b c : Bool) → b ≡ false → (b && c) ≡ false
not_both true c e = absurd cc
not_both false c e = refl

-- a bare name does not begin with a dash
bare_no_dash : (c : ℕ) (name : Utf8) → bare (c ∷ name) ≡ true → nat_eq 45 c ≡ false
bare_no_dash c name e = by_case (nat_eq 45 c) refl where
  by_case : (b : Bool) → nat_eq 45 c ≡ b → b ≡ false
  by_case true is = absurd (let dash : 45 ≡ c = eqb-true 45 c is in let bad : bare (45 ∷ name) ≡ true = ap (λ x. bare (x ∷ name)) dash ∙ e in let worse : false ≡ true = bad in cc)
  by_case false is = refl

begins_no_option : (b : Bool) (name rest : Utf8) → bare name ≡ b → recast_usage.is_option (cond b name (quoted name) ++ rest) ≡ false
begins_no_option false name rest e = refl
begins_no_option true [] rest e = absurd cc
begins_no_option true (c ∷ name) rest e = not_both (nat_eq 45 c) _ (bare_no_dash c name e)

-- a bare name begins no option
bare_no_option : (name : Utf8) → bare name ≡ true → recast_usage.is_option name ≡ false
bare_no_option [] e = absurd cc
bare_no_option (c ∷ name) e = not_both (nat_eq 45 c) _ (bare_no_dash c name e)

-- no notation begins as an option does
pub no_option : (s : Form) → recast_usage.is_option (text s) ≡ false
no_option (leaf l) = bare_no_option (word l) (bare-word l)
no_option (optional s) = refl
no_option (lossy s) = refl
no_option (human_readable s) = refl
no_option (by_mode readable compact) = refl
no_option (newtype name s) = begins_no_option (bare name) name _ refl
no_option (unit_structure name) = begins_no_option (bare name) name _ refl
no_option (sequence s) = refl
no_option (map key s) = refl
no_option (tuple ps) = refl
no_option (tuple_structure name ps) = begins_no_option (bare name) name _ refl
no_option (enumeration vs) = refl
no_option (reference name) = refl
no_option (definitions h s) = refl
no_option (structure dropped [] fs) = refl
no_option (structure denied [] fs) = refl
no_option (structure u (c ∷ name) fs) = begins_no_option (bare (c ∷ name)) (c ∷ name) _ refl

-- ---- what is written

-- what is appended where nothing is
keeps_from : (a b : Option Bytes) → Appends a b [] → Keeps a b
keeps_from None b h = tt
keeps_from (Some x) None h = absurd h
keeps_from (Some x) (Some y) h = h ∙ append-nil x

-- what must be written where the recast writes this document
writes_expected : (hex : Bool) (document : Bytes) (status : Status) (bytes line : Bytes) → AnswersRecast hex (writes document) status bytes line → (status ≡ statuses.Done) × (bytes ≡ shown hex document) × (line ≡ [])
writes_expected hex document statuses.Done bytes line h = (refl, h.shows ∙ ap (shown hex) (let e = h.answer in cc), h.no_line)
writes_expected hex document statuses.ReadRefused bytes line h = absurd (let e = h.answer in cc)
writes_expected hex document statuses.WriteRefused bytes line h = absurd h.answer
writes_expected hex document status bytes line h = absurd h

-- Asked for a job on this input, which holds a document whose recast writes another, exactly that is written, or nothing.
pub writes_job : (job : Job) (doc held out : Bytes) (r : Run Status) → IsAnswered recast_program r → length doc ≤ max_bytes → document_in job.options.hex doc ≡ Some held
    → recast_with job.options.way job.shape held ≡ writes out → request r.words ≡ Ok (requests.Recast job) → r.input.before ≡ Some doc → AllQuiet r → WritesExactly r (shown job.options.hex out)
writes_job job doc held out r answers small holds recast_is asked told quiet =
    by_end (quiet_read recast_program recast_input (AnswersJob job) r (requests.Recast job) doc quiet asked (λ status bytes line h. h) told small answers) where
      by_end : Told (AnswersJob job doc) r ⊎ ((r.status ≡ statuses.NoMemory) × AreKept r.out r.err) → WritesExactly r (shown job.options.hex out)
      by_end (inl h) =
          let of_held : AnswersDocument job (Some held) r.status h.bytes h.lines = subst (λ d. AnswersDocument job d r.status h.bytes h.lines) holds h.expected in
          let expected = writes_expected job.options.hex out r.status h.bytes h.lines (subst (λ c. AnswersRecast job.options.hex c r.status h.bytes h.lines) recast_is of_held) in
          inl (expected.0, subst (Appends r.out.before r.out.after) expected.1 h.written.out_grew, keeps_from r.err.before r.err.after (subst (Appends r.err.before r.err.after) expected.2 h.written.err_grew))
      by_end (inr h) = inr h

-- Given the notation of a shape and the bytes of a sound document, whose value at the shape means a sound document, exactly that document is written, or nothing.
pub headline : (s : Form) (t u : Tree) (d : Value) (r : Run Status) → IsAnswered recast_program r → IsShape s → IsPlain s → IsSound t → view no_fields s t ≡ Some d → means d ≡ Some u → IsSound u → r.words ≡ text s ∷ [] → r.input.before ≡ Some (enc t) → AllQuiet r → WritesExactly r (enc u)
headline s t u d r answers shape plain sound seen mean clean words told quiet =
    writes_job (job_of no_options s) (enc t) (enc t) (enc u) r answers sound.fits refl (recasts_it s (enc t) t u d shape plain sound seen mean clean refl) (asked_alone s r.words (no_option s) shape words) told quiet
