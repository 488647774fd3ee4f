-- A run of the stream beside the migration of the same file.
use Rattle.std.proofs.Common.{◌≡◌, ℕ, ◌<◌, ◌^◌, Bool, true, false, List, [], ◌∷◌, length, codes, Some, None, Ok, Err, refl, ap, sym, subst, ◌∙◌, inl, inr, arith, append-nil}
use Rattle.std.specs.Prelude.{◌⊎◌, if◌then◌else◌}
use Rattle.std.specs.Io.KnownBytes.{Appends, IsAtEnd}
use Rattle.bson_kinds.specs.Text.{Bytes, Utf8}
use Rattle.bson_io.specs.Ends.{last_count, RoseOrLast}
use Rattle.bson_rawdoc.specs.Cut.{Cut, cut}
use Rattle.bson_shape.specs.Form.{Form}
use Rattle.bson_shape.specs.Machine.{Not_notation, parsed, run, step, form_due}
use Rattle.bson_shape.specs.Makers.{IsShape}
use Rattle.bson_shape.specs.Notation.{text}
use Rattle.bson_shape.proofs.Texts.{parsed-shape}
use Rattle.bson_program.specs.Command.{IsAskedFor, IsRefused}
use Rattle.bson_program.specs.Run.{Run, AllQuiet, AreWritten}
use Rattle.bson_program.specs.ShapeWord.{or_line}
use Rattle.bson_migrate_run.specs.Migrating.{NotRecast, migrated, broken, outputs, not_recast, migration_by, migration_of}
use Rattle.bson_migrate_run.specs.Rows.{migration_status}
use Rattle.bson_migrate_run.specs.declared.status.MigrateStatus.{MigrateStatus}
use Rattle.bson_migrate_run.specs.declared.status.MigrateStatus.TheVariants as statuses
use Rattle.bson_streaming.specs.Answers as answers
use Rattle.bson_streaming.specs.Answers.{lines, has_refused, AreGiven}
use Rattle.bson_streaming.specs.Streamed.{Answered, IsStreamed}
use Rattle.bson_streaming.specs.declared.closing.Ending.{Ending}
use Rattle.bson_streaming.specs.declared.closing.Ending.TheVariants as endings
use Rattle.bson_streaming.proofs.Files.{came_within, whole_came, broken_cut}
use Rattle.bson_stream_run.specs.Migrates.{Writes, Migrates}
use Rattle.bson_stream_run.specs.Recasts.{recasts}
use Rattle.bson_stream_run.specs.Rows.{status_of, IsShapeRun, IsRun, salvages, streams}
use Rattle.bson_stream_run.specs.Words.{stream_command}
use Rattle.bson_stream_run.proofs.Recast.{is_some_list, outputs_same, lines_same, refused_same}

salvage_is_none : parsed (codes "--salvage") ≡ Err (Not_notation 0)
unfolding parsed run step form_due
salvage_is_none = refl

no_shape : (s : Form) (word : Utf8) → IsShape s → text s ∷ [] ≡ word ∷ [] → parsed word ≡ Err (Not_notation 0) → ⊥
no_shape s word shape words none =
    let same : text s ≡ word = cc in
    let clash : Ok s ≡ Err (Not_notation 0) = sym (parsed-shape s shape) ∙ ap parsed same ∙ none in
    cc

-- ---- the words

-- the words ask for this shape alone
asked_same : (s t : Form) (words : List Utf8) → IsShape s → words ≡ text s ∷ [] → IsAskedFor stream_command words t → t ≡ s
asked_same s t words shape is asked =
    let found : Ok t ≡ or_line (parsed (text s)) = sym asked.is ∙ ap stream_command.request is in
    let both : Ok t ≡ Ok s = found ∙ ap or_line (parsed-shape s shape) in
    cc

not_refused : (s : Form) (words : List Utf8) (line : Utf8) → IsShape s → words ≡ text s ∷ [] → IsRefused stream_command words line → ⊥
not_refused s words line shape is refused =
    let found : Err line ≡ or_line (parsed (text s)) = sym refused.is ∙ ap stream_command.request is in
    let clash : Err line ≡ Ok s = found ∙ ap or_line (parsed-shape s shape) in
    cc

-- ---- the stream

quiet_sink : (before after : ℕ) → after ≡ before → after < last_count → RoseOrLast before after → ⊥
quiet_sink before after same below h = absurd (omega (arith, same, below, h))

by_list : (o : Bytes) (ds : List NotRecast) (b : Bool) → is_some_list ds ≡ b → migration_status (migrated o ds) ≡ (if b then statuses.SomeRefused else statuses.Done)
by_list o [] true e = absurd cc
by_list o [] false e = refl
by_list o (d ∷ ds) true e = refl
by_list o (d ∷ ds) false e = absurd cc

module _ (s : Form) (file : Bytes) (r : Run MigrateStatus) (told : r.input.before ≡ Some file) (small : length file < 2 ^ 64) (quiet : AllQuiet r) where
  whole : (e : Ending) (a : Answered recasts s s r.input r.out r.err e) (b : Bool) → a.rest ≡ [] → IsAtEnd r.input.after → has_refused a.answers ≡ b → r.status ≡ (if b then statuses.SomeRefused else statuses.Done)
      → AreWritten (answers.outputs a.answers) (lines 0 a.answers) r.out r.err → Migrates s file r
  whole e a b nothing at some status w =
      let same : a.came ≡ file = whole_came file a.came a.rest r.input.before r.input.after told a.taken nothing at in
      let given = subst (λ f. AreGiven recasts s (cut f).pieces a.answers a.so_far) same a.documents.given in
      let none : (cut file).broken ≡ None = subst (λ f. (cut f).broken ≡ None) same a.documents.whole in
      let is : migration_of s file ≡ migrated (outputs s (cut file).pieces) (not_recast s 0 (cut file).pieces) =
      ap (λ x. migration_by x (outputs s (cut file).pieces) (not_recast s 0 (cut file).pieces)) none in
      inl (subst (λ m. Writes s file m r) (sym is) (record {
        status = status ∙ sym (by_list (outputs s (cut file).pieces) (not_recast s 0 (cut file).pieces) b (refused_same s a.so_far 0 (cut file).pieces a.answers given ∙ some));
        lines = lines 0 a.answers;
        are_lines = lines_same s a.so_far 0 (cut file).pieces a.answers given;
        out_grew = subst (Appends r.out.before r.out.after) (sym (outputs_same s a.so_far (cut file).pieces a.answers given)) w.out_grew;
        err_grew = w.err_grew;
      }))

  broke : (a : Answered recasts s s r.input r.out r.err endings.Broken) → r.status ≡ statuses.Broken → Migrates s file r
  broke a status =
      let at : cut file ≡ record { pieces = (cut a.came).pieces; broken = Some (length a.came) } =
      broken_cut file a.came a.rest r.input.before r.input.after told a.taken a.documents.whole a.stops in
      let pieces : (cut a.came).pieces ≡ (cut file).pieces = sym (ap (λ (c : Cut). c.pieces) at) in
      let given = subst (λ ps. AreGiven recasts s ps a.answers a.so_far) pieces a.documents.given in
      let is : migration_of s file ≡ broken (length a.came) = ap (λ (c : Cut). migration_by c.broken (outputs s c.pieces) (not_recast s 0 c.pieces)) at in
      inl (subst (λ m. Writes s file m r) (sym is) (record {
        status = status;
        lines = lines 0 a.answers;
        are_lines = lines_same s a.so_far 0 (cut file).pieces a.answers given;
        out_grew = subst (Appends r.out.before r.out.after) (sym (outputs_same s a.so_far (cut file).pieces a.answers given)) a.written.out_grew;
        err_grew = a.written.err_grew;
      }))

  by_ending : (e : Ending) → r.status ≡ status_of e → IsStreamed recasts s s r.input r.out r.err e → Migrates s file r
  by_ending endings.Done status a =
      whole endings.Done a false a.stops.0 a.stops.1 a.stops.2 status (subst (λ l. AreWritten (answers.outputs a.answers) l r.out r.err) (append-nil (lines 0 a.answers)) a.written)
  by_ending endings.SomeRefused status a =
      whole endings.SomeRefused a true a.stops.0 a.stops.1 a.stops.2 status (subst (λ l. AreWritten (answers.outputs a.answers) l r.out r.err) (append-nil (lines 0 a.answers)) a.written)
  by_ending endings.Broken status a = broke a status
  by_ending endings.TooLong status a = absurd (omega (arith, small, a.stops, came_within file a.came a.rest r.input.before r.input.after told a.taken))
  by_ending endings.SourceFault status a = absurd (omega (arith, quiet.source, a.faults))
  by_ending endings.SinkFault status c = absurd (no_fault c.cause) where
    no_fault : RoseOrLast r.out.faults_before r.out.faults_after ⊎ RoseOrLast r.err.faults_before r.err.faults_after → ⊥
    no_fault (inl h) = quiet_sink r.out.faults_before r.out.faults_after quiet.out quiet.out_below h
    no_fault (inr h) = quiet_sink r.err.faults_before r.err.faults_after quiet.err quiet.err_below h
  by_ending endings.NoMemory status a = inr status

  by_row : IsShape s → r.words ≡ text s ∷ [] → IsShapeRun r → Migrates s file r
  by_row shape words (inl x) =
      by_ending x.ending x.ended (subst (λ t. IsStreamed recasts t t r.input r.out r.err x.ending) (asked_same s x.shape r.words shape words x.asked) x.streamed)
  by_row shape words (inr (inl x)) = absurd (not_refused s r.words x.line shape words x.refused)
  by_row shape words (inr (inr x)) = inr x.status

pub stream_migrates : (r : Run MigrateStatus) (s : Form) (file : Bytes) → IsRun r → IsShape s → r.words ≡ text s ∷ [] → r.input.before ≡ Some file → length file < 2 ^ 64 → AllQuiet r → Migrates s file r
stream_migrates r s file (salvages words x) shape is told small quiet = absurd (no_shape s (codes "--salvage") shape (sym is ∙ words) salvage_is_none)
stream_migrates r s file (streams other x) shape is told small quiet = by_row s file r told small quiet shape is x
