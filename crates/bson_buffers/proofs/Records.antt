-- The records of refused documents.
use Rattle.std.proofs.Common.{◌≡◌, ℕ, ◌+◌, List, [], ◌∷◌, ◌++◌, length, drop, string_bytes, refl, ap, sym, ◌∙◌}
use Rattle.std.specs.Prelude.{◌≢◌}
use Rattle.std.proofs.lemmas.List.{append_assoc, length-append}
use Rattle.bson_kinds.specs.Text.{Bytes, Utf8}
use Rattle.bson_values.specs.ErrorView.{read_failure, write_failure}
use Rattle.bson_tree_recast.specs.declared.error.RecastError.{RecastError}
use Rattle.bson_tree_recast.specs.declared.error.RecastError.TheVariants.{Read, Write, NoMemory}
use Rattle.bson_tree_recast.specs.Recast.{Recast, writes, unread, unwritten, IsRefusal}
use Rattle.bson_migrate_run.specs.declared.migrating.Refused.{Refused}
use Rattle.bson_migrate_run.specs.Migrating.{NotRecast, AreListed}
use Rattle.bson_migrate_run.proofs.LinesExpected.{same_failure}
use Rattle.bson_migrate_run.proofs.Listing.{no_refusal}
use Rattle.bson_buffers.specs.Lists.{offset_in, Reason, unread_for, IsReasonOf, record_of, AreRecords}
use Rattle.bson_buffers.specs.Prover.Listed.{reason_for, texts_of, records_from}
use Rattle.bson_buffers.specs.declared.refusal.Refusal.{Refusal}

reason_is : (r : Recast) (e : RecastError) → IsRefusal r e → e ≢ NoMemory → IsReasonOf r (reason_for e)
reason_is (writes b) e h some = absurd (no_refusal b e h some)
reason_is (unread f) (Read e) h some = ap unread_for (same_failure f (read_failure e) h)
reason_is (unread f) (Write e) h some = absurd h
reason_is (unread f) NoMemory h some = absurd (some refl)
reason_is (unwritten expected long) (Read e) h some = absurd cc
reason_is (unwritten expected long) (Write e) h some = (write_failure e, h, refl)
reason_is (unwritten expected long) NoMemory h some = absurd (some refl)

-- the records of the refused documents are those that must be written
pub are_records : (file : Bytes) (start : ℕ) (ds : List NotRecast) (xs : List Refused) → AreListed ds xs → AreRecords file start ds (records_from file start xs) (texts_of xs)
are_records file start [] [] h = (refl, refl)
are_records file start [] (x ∷ xs) h = absurd h
are_records file start (d ∷ ds) [] h = absurd h
are_records file start (d ∷ ds) (x ∷ xs) h =
    let r = reason_for x.error in
    let rest = records_from file (start + length r.text) xs in (
      r,
      rest,
      texts_of xs,
      reason_is d.recast x.error h.0.refusal h.0.cause,
      ap (λ n. record_of file start n r ∷ rest) h.0.number,
      refl,
      are_records file (start + length r.text) ds xs h.1,
    )

-- the parts of a record
pub record_is : (file : Bytes) (number offset status start text_length cause_start : ℕ) (r : Reason) → offset ≡ offset_in file number → status ≡ r.status → text_length ≡ length r.text → cause_start ≡ length r.front
    → record { index = number; offset = offset; status = status; text_start = start; text_length = text_length; cause_start = cause_start } ≡ record_of file start number r
record_is file number offset status start text_length cause_start r at s l c = λ i. record { index = number; offset = at i; status = s i; text_start = start; text_length = l i; cause_start = c i }

-- ---- one more of them

module _ (file : Bytes) (x : Refused) (rest : List Refused) (text text' : Utf8) (grew : text' ≡ text ++ (reason_for x.error).text) where
  pub text_more : (all : Utf8) → text ++ texts_of (x ∷ rest) ≡ all → text' ++ texts_of rest ≡ all
  text_more all h = ap (λ t. t ++ texts_of rest) grew ∙ append_assoc text (reason_for x.error).text (texts_of rest) ∙ h

  pub records_more : (records records' all : List Refusal) → records' ≡ records ++ record_of file (length text) x.number (reason_for x.error) ∷ [] → records ++ records_from file (length text) (x ∷ rest) ≡ all
      → records' ++ records_from file (length text') rest ≡ all
  records_more records records' all pushed h =
      let one = record_of file (length text) x.number (reason_for x.error) in
      let start : length text' ≡ length text + length (reason_for x.error).text = ap length grew ∙ length-append text (reason_for x.error).text in
      ap (λ n. records' ++ records_from file n rest) start
      ∙ ap (λ rs. rs ++ records_from file (length text + length (reason_for x.error).text) rest) pushed
      ∙ append_assoc records (one ∷ []) (records_from file (length text + length (reason_for x.error).text) rest)
      ∙ h
