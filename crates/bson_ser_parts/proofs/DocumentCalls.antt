-- What each call of the writer of a document or an array answers, by what it left in the output.
use Rattle.std.proofs.Common.{Bool, true, false, ◌≡◌, ℕ, ◌+◌, ◌≤◌, ◌^◌, ◌++◌, length, take, Result, Ok, Err, refl, ap, sym, subst, ◌∙◌, arith}
use Rattle.std.specs.Fmt.{decimal}
use Rattle.bson_base.specs.Sound.{max_levels}
use Rattle.bson_kinds.specs.Text.{Bytes}
use Rattle.bson_base.specs.Tree.{elements, array_elements}
use Rattle.bson_values.specs.Cause.{bad_step}
use Rattle.bson_values.specs.Refusal.{unwritable, under_index}
use Rattle.bson_values.specs.Stop.{IsPlaced}
use Rattle.bson_values.specs.ErrorView.{write_failure}
use Rattle.bson_values.specs.Value.{Value, sequence, map, Items, item, Entries, entry}
use Rattle.bson_values.specs.declared.ser.Error.{Error}
use Rattle.bson_io.specs.Output.{Output}
use Rattle.bson_laws.specs.Means.{key_text}
use Rattle.bson_laws.specs.Spell.{spell_as, spell_items_as, spell_key, spell_entries_as, key_size, size_as}
use Rattle.bson_writing.specs.Halting.{Halts, halt_view, IsHereOrMemory}
use Rattle.bson_writing.specs.Joined.{items_joined, entries_joined, with_item, with_entry, index_after}
use Rattle.bson_writing.specs.Levels.{in_whole}
use Rattle.bson_writing.specs.declared.halt.Halt.{Halt}
use Rattle.bson_writing.specs.declared.halt.Halt.TheVariants.{TooLong}
use Rattle.bson_ser_stream.specs.Writing.{with_element, with_entry as with_entry_element, length_place}
use Rattle.bson_ser_stream.specs.Halting.{Grows, Ends, EndHalts}
use Rattle.bson_ser_parts.specs.Taking.{AnswersBadStep}
use Rattle.bson_ser_parts.specs.Documents.{IsOpen, HasItems, HasEntries, DocumentFailed, TakesItem, TakesEntry, EndsItems, EndsEntries}
use Rattle.bson_ser_parts.specs.declared.document.DocumentWriter.{DocumentWriter}
use Rattle.bson_ser_parts.proofs.Joined.{item_taken, index_after_one, index_within, size_with_item, entry_taken}
use Rattle.bson_ser_parts.proofs.Kept.{begun_kept, taken_back}
use Rattle.bson_ser_parts.proofs.Answered.{told, placed_here, long_fails}
use Rattle.bson_ser_parts.proofs.Documented.{item_fails, entry_fails, array_length, array_ends, array_unended, document_length, document_ends, document_unended}

-- the writer goes on as it was, but for its output and the index
pub record GoesOn (old new : DocumentWriter) : Type 0 where
  pub failed : new.failed ≡ old.failed
  pub form : new.readable ≡ old.readable
  pub document : new.document ≡ old.document
  pub array : new.array ≡ old.array

still_open : (begun : Bytes) (readable : Bool) (old new : DocumentWriter) → GoesOn old new → IsOpen begun readable old → IsOpen begun readable new
still_open begun readable old new on still = record {
  going = on.failed ∙ still.going;
  form = on.form ∙ still.form;
  place = ap (λ d. d.start) on.document ∙ still.place;
  levels = ap (λ d. d.levels) on.document ∙ still.levels;
}

items_kept : (begun : Bytes) (readable : Bool) (w : DocumentWriter) (vs : Items) → HasItems begun readable w vs → take (length begun) w.out.now.bytes ≡ begun
items_kept begun readable w vs has = begun_kept (array_elements 0) begun length_place w.out.now.bytes (spell_items_as readable 0 vs in_whole) has.bytes

entries_kept : (begun : Bytes) (readable : Bool) (w : DocumentWriter) (es : Entries) → HasEntries begun readable w es → take (length begun) w.out.now.bytes ≡ begun
entries_kept begun readable w es has = begun_kept elements begun length_place w.out.now.bytes (spell_entries_as readable es in_whole) has.bytes

-- the writer has failed, and took back what was appended
pub record TookBack (old new : DocumentWriter) (mid : Output) (before now : ℕ) : Type 0 where
  pub failed : new.failed ≡ true
  pub grows : Grows old.out.now mid before now
  pub cut : new.out.now.bytes ≡ take old.document.start mid.bytes

failed_open : (begun : Bytes) (readable : Bool) (old new : DocumentWriter) (mid : Output) (before now : ℕ) → IsOpen begun readable old → take (length begun) old.out.now.bytes ≡ begun → TookBack old new mid before now → DocumentFailed begun new
failed_open begun readable old new mid before now still kept back = (back.failed, taken_back begun old.document.start old.out.now mid new.out.now.bytes before now still.place kept back.grows back.cut)

-- ---- an element

module _ (old new : DocumentWriter) (v : Value) where
  -- a value was taken
  pub item_took : GoesOn old new → new.index ≡ old.index + 1 → with_element old.out.now.bytes (decimal old.index) (under_index old.index (spell_as old.readable v old.document.levels)) ≡ Ok new.out.now.bytes → TakesItem old new v (Ok tt)
  item_took on next one begun readable before after has = record {
    still = still_open begun readable old new on has.still;
    array = on.array ∙ has.array;
    index = omega (arith, next, has.index, index_after_one 0 before v);
    bytes = item_taken readable in_whole (begun ++ length_place) old.out.now.bytes new.out.now.bytes before v has.bytes
        (sym (λ j. with_element old.out.now.bytes (decimal (has.index j)) (under_index (has.index j) (spell_as (has.still.form j) v (has.still.levels j)))) ∙ one);
  }

  -- a value was refused
  pub item_refuses : (e : Error) (h : Halt) (mid : Output) (before now : ℕ) → TookBack old new mid before now
      → Halts (length (decimal old.index) + 2 + size_as old.readable v) old.out.now.spare (with_element old.out.now.bytes (decimal old.index) (under_index old.index (spell_as old.readable v old.document.levels))) h
      → IsPlaced (halt_view h) (write_failure e) → TakesItem old new v (Err e)
  item_refuses e h mid before now back halts is begun readable taken after has =
      let o = old.out.now in
      let by_index : Halts (length (decimal (index_after 0 taken)) + 2 + size_as old.readable v) o.spare (with_element o.bytes (decimal (index_after 0 taken)) (under_index (index_after 0 taken) (spell_as old.readable v old.document.levels))) h =
      subst (λ i. Halts (length (decimal i) + 2 + size_as old.readable v) o.spare (with_element o.bytes (decimal i) (under_index i (spell_as old.readable v old.document.levels))) h) has.index halts in
      let i = index_after 0 taken in
      let by_form : Halts (length (decimal i) + 2 + size_as readable v) o.spare (with_element o.bytes (decimal i) (under_index i (spell_as readable v old.document.levels))) h =
      subst (λ r. Halts (length (decimal i) + 2 + size_as r v) o.spare (with_element o.bytes (decimal i) (under_index i (spell_as r v old.document.levels))) h) has.still.form by_index in
      let by_level : Halts (length (decimal i) + 2 + size_as readable v) o.spare (with_element o.bytes (decimal i) (under_index i (spell_as readable v in_whole))) h =
      subst (λ n. Halts (length (decimal i) + 2 + size_as readable v) o.spare (with_element o.bytes (decimal i) (under_index i (spell_as readable v n))) h) has.still.levels by_form in (
        failed_open begun readable old new mid before now has.still (items_kept begun readable old taken has) back,
        told readable (sequence (items_joined taken (item v after))) max_levels (size_as readable (sequence (with_item taken v))) (write_failure e) (item_fails readable begun o.bytes h (write_failure e) taken after v o.spare has.bytes by_level is),
      )

  -- no index is left
  pub item_long : (e : Error) (now : ℕ) → TookBack old new old.out.now now now → 2 ^ 64 ≤ old.index + 1 → IsPlaced (halt_view TooLong) (write_failure e) → TakesItem old new v (Err e)
  item_long e now back long is begun readable taken after has = (
    failed_open begun readable old new old.out.now now now has.still (items_kept begun readable old taken has) back,
    told readable (sequence (items_joined taken (item v after))) max_levels (size_as readable (sequence (with_item taken v))) (write_failure e)
        (long_fails (write_failure e) (size_as readable (sequence (with_item taken v))) _ (omega (arith, long, has.index, index_within readable 0 taken, size_with_item readable 0 taken v)) is),
  )

-- ---- an entry

module _ (old new : DocumentWriter) (k v : Value) where
  pub entry_took : GoesOn old new → with_entry_element old.out.now.bytes (spell_key k) (spell_as old.readable v old.document.levels) ≡ Ok new.out.now.bytes → TakesEntry old new k v (Ok tt)
  entry_took on one begun readable before after has = record {
    still = still_open begun readable old new on has.still;
    array = on.array ∙ has.array;
    bytes = entry_taken readable in_whole (begun ++ length_place) old.out.now.bytes new.out.now.bytes before k v has.bytes
        (sym (λ j. with_entry_element old.out.now.bytes (spell_key k) (spell_as (has.still.form j) v (has.still.levels j))) ∙ one);
  }

  pub entry_refuses : (e : Error) (h : Halt) (mid : Output) (before now : ℕ) → TookBack old new mid before now
      → Halts (key_size (key_text k) + 2 + size_as old.readable v) old.out.now.spare (with_entry_element old.out.now.bytes (spell_key k) (spell_as old.readable v old.document.levels)) h
      → IsPlaced (halt_view h) (write_failure e) → TakesEntry old new k v (Err e)
  entry_refuses e h mid before now back halts is begun readable taken after has =
      let o = old.out.now in
      let by_form : Halts (key_size (key_text k) + 2 + size_as readable v) o.spare (with_entry_element o.bytes (spell_key k) (spell_as readable v old.document.levels)) h =
      subst (λ r. Halts (key_size (key_text k) + 2 + size_as r v) o.spare (with_entry_element o.bytes (spell_key k) (spell_as r v old.document.levels)) h) has.still.form halts in
      let by_level : Halts (key_size (key_text k) + 2 + size_as readable v) o.spare (with_entry_element o.bytes (spell_key k) (spell_as readable v in_whole)) h =
      subst (λ n. Halts (key_size (key_text k) + 2 + size_as readable v) o.spare (with_entry_element o.bytes (spell_key k) (spell_as readable v n)) h) has.still.levels by_form in (
        failed_open begun readable old new mid before now has.still (entries_kept begun readable old taken has) back,
        told readable (map (entries_joined taken (entry k v after))) max_levels (size_as readable (map (with_entry taken k v))) (write_failure e) (entry_fails readable begun o.bytes h (write_failure e) taken after k v o.spare has.bytes by_level is),
      )

-- ---- a call of the wrong form

module _ (old new : DocumentWriter) (e : Error) (h : Halt) (now : ℕ) (back : TookBack old new old.out.now now now) (here_is : IsHereOrMemory (unwritable bad_step) h) (is : IsPlaced (halt_view h) (write_failure e)) where
  pub no_element : (begun : Bytes) (readable : Bool) (es : Entries) → HasEntries begun readable old es → DocumentFailed begun new × AnswersBadStep {X = Unit {0}} (Err e)
  no_element begun readable es has = (failed_open begun readable old new old.out.now now now has.still (entries_kept begun readable old es has) back, placed_here (unwritable bad_step) h (write_failure e) here_is is)

  pub no_entry : (begun : Bytes) (readable : Bool) (vs : Items) → HasItems begun readable old vs → DocumentFailed begun new × AnswersBadStep {X = Unit {0}} (Err e)
  no_entry begun readable vs has = (failed_open begun readable old new old.out.now now now has.still (items_kept begun readable old vs has) back, placed_here (unwritable bad_step) h (write_failure e) here_is is)

-- ---- the end

module _ (w : DocumentWriter) (new : Output) (before now : ℕ) (ends : Ends w.out.now new w.document.start before now) where
  pub items_ended : EndsItems w new.bytes (Ok tt)
  items_ended begun readable vs has = array_ends readable begun w.out.now.bytes w.document.start has.still.place vs has.bytes w.out.now new before now refl ends

  pub entries_ended : EndsEntries w new.bytes (Ok tt)
  entries_ended begun readable es has = document_ends readable begun w.out.now.bytes w.document.start has.still.place es has.bytes w.out.now new before now refl ends

module _ (w : DocumentWriter) (left : Bytes) (e : Error) (h : Halt) (mid : Output) (before now : ℕ) (grows : Grows w.out.now mid before now) (cut : left ≡ take w.document.start mid.bytes) (halts : w.document.start + 4 ≤ length w.out.now.bytes → EndHalts w.out.now w.document.start h)
    (is : IsPlaced (halt_view h) (write_failure e)) where
  pub items_unended : EndsItems w left (Err e)
  items_unended begun readable vs has =
      let o = w.out.now in (
        taken_back begun w.document.start o mid left before now has.still.place (items_kept begun readable w vs has) grows cut,
        told readable (sequence vs) max_levels (size_as readable (sequence vs)) (write_failure e)
            (array_unended readable begun o.bytes w.document.start has.still.place vs has.bytes o h (write_failure e) refl (halts (omega (arith, array_length readable begun o.bytes w.document.start has.still.place vs has.bytes))) is),
      )

  pub entries_unended : EndsEntries w left (Err e)
  entries_unended begun readable es has =
      let o = w.out.now in (
        taken_back begun w.document.start o mid left before now has.still.place (entries_kept begun readable w es has) grows cut,
        told readable (map es) max_levels (size_as readable (map es)) (write_failure e)
            (document_unended readable begun o.bytes w.document.start has.still.place es has.bytes o h (write_failure e) refl (halts (omega (arith, document_length readable begun o.bytes w.document.start has.still.place es has.bytes))) is),
      )

-- what holds of an output and a result holds of the same

pub same_items_end : (w : DocumentWriter) (out new : Output) (r s : Result (Unit {0}) Error) → out ≡ new → r ≡ s → EndsItems w new.bytes s → EndsItems w out.bytes r
same_items_end w out new r s o e h = subst (λ x. EndsItems w out.bytes x) (sym e) (subst (λ y. EndsItems w y.bytes s) (sym o) h)

pub same_entries_end : (w : DocumentWriter) (out new : Output) (r s : Result (Unit {0}) Error) → out ≡ new → r ≡ s → EndsEntries w new.bytes s → EndsEntries w out.bytes r
same_entries_end w out new r s o e h = subst (λ x. EndsEntries w out.bytes x) (sym e) (subst (λ y. EndsEntries w y.bytes s) (sym o) h)

-- a writer that has failed has taken nothing that it could end or go on from
pub not_open : (begun : Bytes) (readable : Bool) (w : DocumentWriter) → w.failed ≡ true → IsOpen begun readable w → ⊥
not_open begun readable w is still = let no : true ≡ false = sym is ∙ still.going in absurd cc

-- a flag is not both
pub not_both : (b : Bool) → b ≡ true → b ≡ false → ⊥
not_both true t f = absurd cc
not_both false t f = absurd cc
