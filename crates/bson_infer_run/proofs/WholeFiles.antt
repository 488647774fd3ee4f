-- What is written for a whole file of sound documents.
use Rattle.std.proofs.Common.{◌≡◌, ◌≤◌, ◌∙◌, [], length, Some, Ok, refl, ap, subst, inl, inr}
use Rattle.std.specs.Prelude.{◌⊎◌}
use Rattle.std.specs.Io.KnownBytes.{Appends}
use Rattle.bson_base.specs.Sound.{max_bytes}
use Rattle.bson_kinds.specs.Text.{Bytes}
use Rattle.bson_base.specs.Tree.{Trees}
use Rattle.bson_shape.specs.Form.{Form}
use Rattle.bson_program.proofs.Answered.{quiet_read}
use Rattle.bson_program.specs.Program.{IsAnswered}
use Rattle.bson_program.specs.Run.{Run, AllQuiet, AreKept, Told}
use Rattle.bson_infer_laws.specs.Encodings.{encodings}
use Rattle.bson_infer_laws.specs.Inferred.{inferred}
use Rattle.bson_infer_run.specs.Files.{found, inferring_of}
use Rattle.bson_infer_run.specs.Infer.{AreSound}
use Rattle.bson_infer_run.specs.Lines.{usage_line}
use Rattle.bson_infer_run.specs.NoWords.{request}
use Rattle.bson_infer_run.specs.Rows.{Answers, inferring_status, output_of, lines_of, infer_input, infer_program, WritesShape}
use Rattle.bson_infer_run.specs.declared.status.InferStatus.{InferStatus}
use Rattle.bson_infer_run.specs.declared.status.InferStatus.TheVariants as statuses
use Rattle.bson_infer_run.proofs.EncodedFiles.{encoded_file}

pub writes_shape : (file : Bytes) (s : Form) (r : Run InferStatus) → IsAnswered infer_program r → r.words ≡ [] → r.input.before ≡ Some file → length file ≤ max_bytes → inferring_of file ≡ found s → AllQuiet r
    → WritesShape r s ⊎ ((r.status ≡ statuses.NoMemory) × AreKept r.out r.err)
writes_shape file s r answers words told small is quiet =
    by_end (quiet_read infer_program infer_input (λ bytes. Answers (inferring_of bytes)) r tt file quiet (ap (request usage_line) words) (λ status bytes lines h. h) told small answers) where
      by_end : Told (Answers (inferring_of file)) r ⊎ ((r.status ≡ statuses.NoMemory) × AreKept r.out r.err) → WritesShape r s ⊎ ((r.status ≡ statuses.NoMemory) × AreKept r.out r.err)
      by_end (inl h) =
          inl (record {
            status = h.expected.ended ∙ ap inferring_status is;
            out_grew = subst (Appends r.out.before r.out.after) (h.expected.writes ∙ ap output_of is) h.written.out_grew;
            err_grew = subst (Appends r.err.before r.err.after) (h.expected.says ∙ ap lines_of is) h.written.err_grew;
          })
      by_end (inr h) = inr h

pub writes_documents : (ts : Trees) (r : Run InferStatus) → IsAnswered infer_program r → AreSound ts → r.words ≡ [] → r.input.before ≡ Some (encodings ts) → length (encodings ts) ≤ max_bytes → AllQuiet r
    → WritesShape r (inferred ts) ⊎ ((r.status ≡ statuses.NoMemory) × AreKept r.out r.err)
writes_documents ts r answers sound words told small quiet = writes_shape (encodings ts) (inferred ts) r answers words told small (encoded_file ts sound) quiet
