-- What each call of the writer of a variant answers, by what it left in the output.
use Rattle.std.proofs.Common.{Bool, true, false, ◌≡◌, inl, ℕ, ◌+◌, ◌-◌, ◌≤◌, ◌^◌, ◌++◌, length, take, Ok, Err, ap, sym, subst, ◌∙◌, arith, append_assoc}
use Rattle.std.specs.Prelude.{string_bytes}
use Rattle.std.specs.Fmt.{decimal}
use Rattle.std.proofs.lemmas.List.{length-append}
use Rattle.bson_base.specs.Sound.{max_levels}
use Rattle.bson_kinds.specs.Text.{Bytes, Utf8}
use Rattle.bson_base.specs.Tree.{elements, array_elements}
use Rattle.bson_kinds.proofs.Outcomes.{map_ok}
use Rattle.bson_values.specs.Cause.{bad_step}
use Rattle.bson_values.specs.Refusal.{unwritable, at_key, under_index}
use Rattle.bson_values.specs.Stop.{IsPlaced}
use Rattle.bson_values.specs.ErrorView.{write_failure}
use Rattle.bson_values.specs.Value.{Value, tuple_variant, structure_variant, Items, item, FieldValues, field_value}
use Rattle.bson_values.specs.declared.ser.Error.{Error}
use Rattle.bson_values.specs.declared.stop.Stop.TheVariants.{Refused, NoMemory}
use Rattle.bson_io.specs.Output.{Output}
use Rattle.bson_laws.specs.Spell.{Writing, named, spell_as, spell_items_as, spell_fields_as, size_as}
use Rattle.bson_writing.specs.Halting.{Halts, halt_view, IsHereOrMemory, IsUnder}
use Rattle.bson_writing.specs.Joined.{items_joined, fields_joined, with_item, with_field, index_after}
use Rattle.bson_writing.specs.Levels.{in_variant}
use Rattle.bson_writing.specs.declared.halt.Halt.{Halt}
use Rattle.bson_writing.specs.declared.halt.Halt.TheVariants.{Stopped, TooLong}
use Rattle.bson_ser_stream.specs.Writing.{with_bytes, with_element, length_place, front, Fails}
use Rattle.bson_ser_stream.specs.Halting.{Grows}
use Rattle.bson_ser_parts.specs.Taking.{AnswersBadStep}
use Rattle.bson_ser_parts.specs.Pairs.{behind_name, contents_kind, IsIn, PairEnds, PairEndHalts}
use Rattle.bson_ser_parts.specs.Variants.{VariantWriter, IsOpen, HasItems, HasFields, VariantFailed, TakesItem, TakesField, EndsItems, EndsFields}
use Rattle.bson_ser_parts.proofs.Joined.{item_taken, index_after_one, index_within, size_with_item, field_taken}
use Rattle.bson_ser_parts.proofs.Kept.{begun_kept, taken_back}
use Rattle.bson_ser_parts.proofs.Answered.{told, placed_here, long_fails}
use Rattle.bson_ser_parts.proofs.Varied.{item_fails, field_fails, items_end, items_length, fields_end, fields_length, written_fits}

-- the writer goes on as it was, but for its output and the index
pub record GoesOn (old new : VariantWriter) : Type 0 where
  pub failed : new.failed ≡ old.failed
  pub form : new.readable ≡ old.readable
  pub pair : new.pair ≡ old.pair
  pub name : new.name ≡ old.name
  pub tuple : new.tuple ≡ old.tuple

still_open : (begun : Bytes) (readable : Bool) (name : Utf8) (tuple : Bool) (old new : VariantWriter) → GoesOn old new → IsOpen begun readable name tuple old → IsOpen begun readable name tuple new
still_open begun readable name tuple old new on still = record {
  going = on.failed ∙ still.going;
  form = on.form ∙ still.form;
  named = ap string_bytes on.name ∙ still.named;
  free = still.free;
  holds = on.tuple ∙ still.holds;
  document = ap (λ p. p.document.start) on.pair ∙ still.document;
  kind = ap (λ p. p.kind_place) on.pair ∙ still.kind;
  contents = ap (λ p. p.contents.start) on.pair ∙ still.contents;
  levels = ap (λ p. p.contents.levels) on.pair ∙ still.levels;
}

-- what the output held when the writer began is at its front
behind_kept : {A : Type 0} (bytes : A → Bytes) (begun old : Bytes) (name : Utf8) (r : Writing A) → with_bytes bytes (behind_name begun name ++ length_place) r ≡ Ok old → take (length begun) old ≡ begun
behind_kept bytes begun old name r e =
    begun_kept bytes begun (length_place ++ front name ++ length_place) old r
    (ap (λ b. with_bytes bytes b r) (sym (ap (λ b. b ++ length_place) (append_assoc begun length_place (front name)) ∙ append_assoc begun (length_place ++ front name) length_place)) ∙ e)

items_kept : (begun : Bytes) (readable : Bool) (name : Utf8) (w : VariantWriter) (vs : Items) → HasItems begun readable name w vs → take (length begun) w.out.now.bytes ≡ begun
items_kept begun readable name w vs has = behind_kept (array_elements 0) begun w.out.now.bytes name (spell_items_as readable 0 vs in_variant) has.bytes

fields_kept : (begun : Bytes) (readable : Bool) (name : Utf8) (w : VariantWriter) (fs : FieldValues) → HasFields begun readable name w fs → take (length begun) w.out.now.bytes ≡ begun
fields_kept begun readable name w fs has = behind_kept elements begun w.out.now.bytes name (spell_fields_as readable fs in_variant) has.bytes

-- the writer has failed, and took back what was appended
pub record TookBack (old new : VariantWriter) (mid : Output) (before now : ℕ) : Type 0 where
  pub failed : new.failed ≡ true
  pub grows : Grows old.out.now mid before now
  pub cut : new.out.now.bytes ≡ take old.pair.document.start mid.bytes

failed_open : (begun : Bytes) (readable : Bool) (name : Utf8) (tuple : Bool) (old new : VariantWriter) (mid : Output) (before now : ℕ) → IsOpen begun readable name tuple old → take (length begun) old.out.now.bytes ≡ begun → TookBack old new mid before now → VariantFailed begun new
failed_open begun readable name tuple old new mid before now still kept back = (back.failed, taken_back begun old.pair.document.start old.out.now mid new.out.now.bytes before now still.document kept back.grows back.cut)

-- ---- an element

module _ (old new : VariantWriter) (v : Value) where
  pub item_took : GoesOn old new → new.index ≡ old.index + 1 → with_element old.out.now.bytes (decimal old.index) (under_index old.index (spell_as old.readable v old.pair.contents.levels)) ≡ Ok new.out.now.bytes → TakesItem old new v (Ok tt)
  item_took on next one begun readable name before after has = record {
    still = still_open begun readable name true old new on has.still;
    index = omega (arith, next, has.index, index_after_one 0 before v);
    bytes = item_taken readable in_variant (behind_name begun name ++ length_place) old.out.now.bytes new.out.now.bytes before v has.bytes
        (sym (λ j. with_element old.out.now.bytes (decimal (has.index j)) (under_index (has.index j) (spell_as (has.still.form j) v (has.still.levels j)))) ∙ one);
  }

  pub item_refuses : (e : Error) (h g : Halt) (mid : Output) (before now : ℕ) → TookBack old new mid before now
      → Halts (length (decimal old.index) + 2 + size_as old.readable v) old.out.now.spare (with_element old.out.now.bytes (decimal old.index) (under_index old.index (spell_as old.readable v old.pair.contents.levels))) h
      → IsUnder (at_key (string_bytes old.name)) h g → IsPlaced (halt_view g) (write_failure e) → TakesItem old new v (Err e)
  item_refuses e h g mid before now back halts inner is begun readable name taken after has =
      let o = old.out.now in
      let by_index : Halts (length (decimal (index_after 0 taken)) + 2 + size_as old.readable v) o.spare (with_element o.bytes (decimal (index_after 0 taken)) (under_index (index_after 0 taken) (spell_as old.readable v old.pair.contents.levels))) h =
      subst (λ i. Halts (length (decimal i) + 2 + size_as old.readable v) o.spare (with_element o.bytes (decimal i) (under_index i (spell_as old.readable v old.pair.contents.levels))) h) has.index halts in
      let i = index_after 0 taken in
      let by_form : Halts (length (decimal i) + 2 + size_as readable v) o.spare (with_element o.bytes (decimal i) (under_index i (spell_as readable v old.pair.contents.levels))) h =
      subst (λ r. Halts (length (decimal i) + 2 + size_as r v) o.spare (with_element o.bytes (decimal i) (under_index i (spell_as r v old.pair.contents.levels))) h) has.still.form by_index in
      let by_level : Halts (length (decimal i) + 2 + size_as readable v) o.spare (with_element o.bytes (decimal i) (under_index i (spell_as readable v in_variant))) h =
      subst (λ n. Halts (length (decimal i) + 2 + size_as readable v) o.spare (with_element o.bytes (decimal i) (under_index i (spell_as readable v n))) h) has.still.levels by_form in (
        failed_open begun readable name true old new mid before now has.still (items_kept begun readable name old taken has) back,
        told readable (tuple_variant name (items_joined taken (item v after))) max_levels (size_as readable (tuple_variant name (with_item taken v))) (write_failure e)
            (item_fails readable begun o.bytes name has.still.free h g (write_failure e) taken after v o.spare has.bytes by_level (subst (λ n. IsUnder (at_key n) h g) has.still.named inner) is),
      )

  pub item_long : (e : Error) (now : ℕ) → TookBack old new old.out.now now now → 2 ^ 64 ≤ old.index + 1 → IsPlaced (halt_view TooLong) (write_failure e) → TakesItem old new v (Err e)
  item_long e now back long is begun readable name taken after has = (
    failed_open begun readable name true old new old.out.now now now has.still (items_kept begun readable name old taken has) back,
    told readable (tuple_variant name (items_joined taken (item v after))) max_levels (size_as readable (tuple_variant name (with_item taken v))) (write_failure e)
        (long_fails (write_failure e) (size_as readable (tuple_variant name (with_item taken v))) _ (omega (arith, long, has.index, index_within readable 0 taken, size_with_item readable 0 taken v)) is),
  )

-- ---- a field

module _ (old new : VariantWriter) (key : Utf8) (v : Value) where
  pub field_took : GoesOn old new → with_element old.out.now.bytes key (named key (spell_as old.readable v old.pair.contents.levels)) ≡ Ok new.out.now.bytes → TakesField old new key v (Ok tt)
  field_took on one begun readable name before after has = record {
    still = still_open begun readable name false old new on has.still;
    bytes = field_taken readable in_variant (behind_name begun name ++ length_place) old.out.now.bytes new.out.now.bytes before key v has.bytes
        (sym (λ j. with_element old.out.now.bytes key (named key (spell_as (has.still.form j) v (has.still.levels j)))) ∙ one);
  }

  pub field_refuses : (e : Error) (h g : Halt) (mid : Output) (before now : ℕ) → TookBack old new mid before now
      → Halts (length key + 2 + size_as old.readable v) old.out.now.spare (with_element old.out.now.bytes key (named key (spell_as old.readable v old.pair.contents.levels))) h
      → IsUnder (at_key (string_bytes old.name)) h g → IsPlaced (halt_view g) (write_failure e) → TakesField old new key v (Err e)
  field_refuses e h g mid before now back halts inner is begun readable name taken after has =
      let o = old.out.now in
      let by_form : Halts (length key + 2 + size_as readable v) o.spare (with_element o.bytes key (named key (spell_as readable v old.pair.contents.levels))) h =
      subst (λ r. Halts (length key + 2 + size_as r v) o.spare (with_element o.bytes key (named key (spell_as r v old.pair.contents.levels))) h) has.still.form halts in
      let by_level : Halts (length key + 2 + size_as readable v) o.spare (with_element o.bytes key (named key (spell_as readable v in_variant))) h =
      subst (λ n. Halts (length key + 2 + size_as readable v) o.spare (with_element o.bytes key (named key (spell_as readable v n))) h) has.still.levels by_form in (
        failed_open begun readable name false old new mid before now has.still (fields_kept begun readable name old taken has) back,
        told readable (structure_variant name (fields_joined taken (field_value key v after))) max_levels (size_as readable (structure_variant name (with_field taken key v))) (write_failure e)
            (field_fails readable begun o.bytes name has.still.free h g (write_failure e) taken after key v o.spare has.bytes by_level (subst (λ n. IsUnder (at_key n) h g) has.still.named inner) is),
      )

-- ---- a call of the wrong form

module _ (old new : VariantWriter) (e : Error) (h : Halt) (now : ℕ) (back : TookBack old new old.out.now now now) (here_is : IsHereOrMemory (unwritable bad_step) h) (is : IsPlaced (halt_view h) (write_failure e)) where
  pub no_element : (begun : Bytes) (readable : Bool) (name : Utf8) (fs : FieldValues) → HasFields begun readable name old fs → VariantFailed begun new × AnswersBadStep {X = Unit {0}} (Err e)
  no_element begun readable name fs has = (failed_open begun readable name false old new old.out.now now now has.still (fields_kept begun readable name old fs has) back, placed_here (unwritable bad_step) h (write_failure e) here_is is)

  pub no_entry : (begun : Bytes) (readable : Bool) (name : Utf8) (vs : Items) → HasItems begun readable name old vs → VariantFailed begun new × AnswersBadStep {X = Unit {0}} (Err e)
  no_entry begun readable name vs has = (failed_open begun readable name true old new old.out.now now now has.still (items_kept begun readable name old vs has) back, placed_here (unwritable bad_step) h (write_failure e) here_is is)

-- ---- the end

-- the places that an still writer has are in the output, in their order
in_place : (begun : Bytes) (readable : Bool) (name : Utf8) (tuple : Bool) (w : VariantWriter) → IsOpen begun readable name tuple w → length (behind_name begun name) + 4 ≤ length w.out.now.bytes → IsIn w.pair w.out.now
in_place begun readable name tuple w still long = record {
  document = omega (arith, still.document, still.kind, length-append begun length_place);
  kind = omega (arith, still.kind, still.contents, length-append (begun ++ length_place) (front name));
  contents = omega (arith, still.contents, long);
}

-- what holds of memory and of size holds of the whole
pair_fails : {B : Type 0} (h : Halt) (w : VariantWriter) (total : ℕ) (expected : Writing B) (e : Error) → length w.out.now.bytes + 2 - w.pair.document.start ≡ total → PairEndHalts w.pair w.out.now h → IsPlaced (halt_view h) (write_failure e) → Fails total expected (write_failure e)
pair_fails (Stopped NoMemory) w total expected e long halts is = inl is
pair_fails (Stopped (Refused r)) w total expected e long halts is = absurd halts
pair_fails TooLong w total expected e long halts is = long_fails (write_failure e) total expected (omega (arith, halts, long)) is

module _ (w : VariantWriter) (new : Output) (ends : PairEnds w.pair (contents_kind w.tuple) w.out.now new) where
  pub items_ended : EndsItems w new.bytes (Ok tt)
  items_ended begun readable name vs has =
      let o = has.still in
      let made = subst (λ t. PairEnds w.pair (contents_kind t) w.out.now new) o.holds ends in
      let whole = items_end readable begun w.out.now.bytes name o.free w.pair.document.start w.pair.kind_place w.pair.contents.start o.document o.kind o.contents vs has.bytes ∙ ap Ok (sym made.bytes) in
      (whole, written_fits readable (tuple_variant name vs) begun new.bytes w.pair.document.start o.document whole made.fits)

  pub fields_ended : EndsFields w new.bytes (Ok tt)
  fields_ended begun readable name fs has =
      let o = has.still in
      let made = subst (λ t. PairEnds w.pair (contents_kind t) w.out.now new) o.holds ends in
      let whole = fields_end readable begun w.out.now.bytes name o.free w.pair.document.start w.pair.kind_place w.pair.contents.start o.document o.kind o.contents fs has.bytes ∙ ap Ok (sym made.bytes) in
      (whole, written_fits readable (structure_variant name fs) begun new.bytes w.pair.document.start o.document whole made.fits)

module _ (w : VariantWriter) (left : Bytes) (e : Error) (h : Halt) (mid : Output) (kept : IsIn w.pair w.out.now → take w.pair.document.start mid.bytes ≡ take w.pair.document.start w.out.now.bytes) (cut : left ≡ take w.pair.document.start mid.bytes)
    (halts : IsIn w.pair w.out.now → PairEndHalts w.pair w.out.now h) (is : IsPlaced (halt_view h) (write_failure e)) where
  left_is : (begun : Bytes) → w.pair.document.start ≡ length begun → take (length begun) w.out.now.bytes ≡ begun → IsIn w.pair w.out.now → left ≡ begun
  left_is begun at front_is within = cut ∙ kept within ∙ ap (λ n. take n w.out.now.bytes) at ∙ front_is

  pub items_unended : EndsItems w left (Err e)
  items_unended begun readable name vs has =
      let o = has.still in
      let long = items_length readable begun w.out.now.bytes name o.free w.pair.document.start w.pair.kind_place w.pair.contents.start o.document o.kind o.contents vs has.bytes in
      let m = map_ok (λ x. (behind_name begun name ++ length_place) ++ array_elements 0 x) (spell_items_as readable 0 vs in_variant) w.out.now.bytes has.bytes in
      let within = in_place begun readable name true w o (omega (arith, ap length m.2, length-append (behind_name begun name ++ length_place) (array_elements 0 m.0), length-append (behind_name begun name) length_place)) in (
        left_is begun o.document (items_kept begun readable name w vs has) within,
        told readable (tuple_variant name vs) max_levels (size_as readable (tuple_variant name vs)) (write_failure e) (pair_fails h w _ _ e long (halts within) is),
      )

  pub fields_unended : EndsFields w left (Err e)
  fields_unended begun readable name fs has =
      let o = has.still in
      let long = fields_length readable begun w.out.now.bytes name o.free w.pair.document.start w.pair.kind_place w.pair.contents.start o.document o.kind o.contents fs has.bytes in
      let m = map_ok (λ x. (behind_name begun name ++ length_place) ++ elements x) (spell_fields_as readable fs in_variant) w.out.now.bytes has.bytes in
      let within = in_place begun readable name false w o (omega (arith, ap length m.2, length-append (behind_name begun name ++ length_place) (elements m.0), length-append (behind_name begun name) length_place)) in (
        left_is begun o.document (fields_kept begun readable name w fs has) within,
        told readable (structure_variant name fs) max_levels (size_as readable (structure_variant name fs)) (write_failure e) (pair_fails h w _ _ e long (halts within) is),
      )

-- a writer that has failed has taken nothing that it could end or go on from
pub not_open : (begun : Bytes) (readable : Bool) (name : Utf8) (tuple : Bool) (w : VariantWriter) → w.failed ≡ true → IsOpen begun readable name tuple w → ⊥
not_open begun readable name tuple w is still = let no : true ≡ false = sym is ∙ still.going in absurd cc

-- a flag is not both
pub not_both : (b : Bool) → b ≡ true → b ≡ false → ⊥
not_both true t f = absurd cc
not_both false t f = absurd cc
