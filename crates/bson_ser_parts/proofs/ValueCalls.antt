-- What each call of the writer of a struct of a reserved name answers.
use Rattle.std.proofs.Common.{Bool, true, false, ◌≡◌, ◌⊎◌, inl, inr, ℕ, [], length, take, Result, Ok, Err, refl, ap, sym, subst, ◌∙◌}
use Rattle.std.specs.Prelude.{Some, OnOk, is_err}
use Rattle.bson_kinds.specs.Reserved.{reserved_kind}
use Rattle.bson_kinds.specs.Text.{Bytes, Utf8}
use Rattle.bson_kinds.specs.declared.element_type.ElementType.{ElementType}
use Rattle.bson_values.specs.Cause.{bad_step}
use Rattle.bson_values.specs.Refusal.{Failure, WriteFault, unwritable, here, no_memory, with_path}
use Rattle.bson_values.specs.Stop.{IsPlaced}
use Rattle.bson_values.specs.ErrorView.{write_failure}
use Rattle.bson_values.specs.Value.{Value, structure, FieldValues}
use Rattle.bson_datum.specs.View.{fields_view}
use Rattle.bson_values.specs.declared.ser.Error.{Error}
use Rattle.bson_io.specs.Output.{Output}
use Rattle.bson_laws.specs.Unwrap.{unwrap, scoped_code}
use Rattle.bson_laws.specs.Spell.{struct_at, struct_size, reserved_at, reserved_size, spell_fields_as, spell_list, size_fields_as, size_list, spell, size}
use Rattle.bson_writing.specs.Halting.{halt_view}
use Rattle.bson_writing.specs.Joined.{with_field}
use Rattle.bson_writing.specs.Levels.{in_whole}
use Rattle.bson_writing.specs.declared.halt.Halt.{Halt}
use Rattle.bson_ser_stream.specs.Writing.{with_tree}
use Rattle.bson_ser_stream.specs.Halting.{Puts}
use Rattle.bson_ser_stream.proofs.Limits.{fails, placed_is}
use Rattle.bson_ser_parts.specs.Fronts.{AreFirst}
use Rattle.bson_ser_parts.proofs.Answered.{told}
use Rattle.bson_ser_parts.specs.Values.{ValueWriter, HasFields, TakesField, EndsFields}
use Rattle.bson_ser_parts.specs.Taking.{HasFailed}

-- a field was taken
pub field_took : (old new : ValueWriter) (key : Utf8) (v : Value) → new.failed ≡ old.failed → new.kind ≡ old.kind → new.out.now.bytes ≡ old.out.now.bytes → fields_view new.fields.items ≡ with_field (fields_view old.fields.items) key v
    → AreFirst old.kind (with_field (fields_view old.fields.items) key v) → TakesField old new key v (Ok tt)
field_took old new key v going kind out fields first begun name before has = (
  record {
    going = going ∙ has.going;
    kind = has.kind ∙ ap Some (sym kind);
    fields = fields ∙ ap (λ fs. with_field fs key v) has.fields;
    out = out ∙ has.out;
  },
  subst (λ fs. AreFirst old.kind (with_field fs key v)) has.fields first,
)

bad_or_memory : (f : Failure WriteFault) (first : Type 0) → (first → ⊥) → IsPlaced (Some (here (unwritable bad_step))) f → (f ≡ no_memory) ⊎ ((first → ⊥) × (f ≡ with_path (here (unwritable bad_step))))
bad_or_memory f first never is = elim (placed_is (here (unwritable bad_step)) f is) [ inl want ↦ inl want | inr known ↦ inr (never, known) ]

-- why a field is refused, by what the writer then is
abbrev pub FieldRefused : (old : ValueWriter) (key : Utf8) → Value → (failed : Bool) (left : Bytes) → Failure WriteFault → Type 0
FieldRefused old key v failed left f =
    (begun : Bytes) (name : Utf8) (before : FieldValues) → HasFields begun name old before
    → HasFailed begun failed left × ((f ≡ no_memory) ⊎ ((AreFirst old.kind (with_field before key v) → ⊥) × (f ≡ with_path (here (unwritable bad_step)))))

-- no list goes on so
pub field_refuses : (old : ValueWriter) (key : Utf8) (v : Value) (f : Failure WriteFault) → (AreFirst old.kind (with_field (fields_view old.fields.items) key v) → ⊥) → IsPlaced (Some (here (unwritable bad_step))) f → FieldRefused old key v true old.out.now.bytes f
field_refuses old key v f never is begun name before has =
    ((refl, has.out), bad_or_memory f (AreFirst old.kind (with_field before key v)) (λ h. never (subst (λ fs. AreFirst old.kind (with_field fs key v)) (sym has.fields) h)) is)

-- no memory for its copy
pub field_lacks_memory : (old : ValueWriter) (key : Utf8) (v : Value) → FieldRefused old key v true old.out.now.bytes no_memory
field_lacks_memory old key v begun name before has = ((refl, has.out), inl refl)

-- ---- the end

spell_is : (name : Utf8) (k : ElementType) (fs : FieldValues) → reserved_kind name ≡ Some k → reserved_at k (unwrap k fs) (scoped_code (spell_list false fs in_whole [])) ≡ spell (structure name fs) in_whole
spell_is name k fs is = sym (ap (λ o. struct_at o in_whole (spell_fields_as false fs) (λ x. reserved_at x (unwrap x fs) (scoped_code (spell_list false fs in_whole [])))) is)

size_is : (name : Utf8) (k : ElementType) (fs : FieldValues) → reserved_kind name ≡ Some k → reserved_size k (unwrap k fs) (scoped_code (size_list false fs [])) ≡ size (structure name fs)
size_is name k fs is = sym (ap (λ o. struct_size o (size_fields_as false fs) (λ x. reserved_size x (unwrap x fs) (scoped_code (size_list false fs [])))) is)

-- the struct of these fields was put, or there is a reason not to
abbrev pub PutsFields : (k : ElementType) → FieldValues → Output → Output → ℕ → ℕ → Result ElementType Halt → Type 0
PutsFields k fs old new before now r = Puts k (reserved_size k (unwrap k fs) (scoped_code (size_list false fs []))) (reserved_at k (unwrap k fs) (scoped_code (spell_list false fs in_whole []))) old new before now r

-- the same by the whole value
whole_put : (name : Utf8) (k : ElementType) (fs : FieldValues) (old new : Output) (before now : ℕ) (r : Result ElementType Halt) → reserved_kind name ≡ Some k → PutsFields k fs old new before now r → Puts k (size (structure name fs)) (spell (structure name fs) in_whole) old new before now r
whole_put name k fs old new before now r is h =
    subst (λ n. Puts k n (spell (structure name fs) in_whole) old new before now r) (size_is name k fs is)
    (subst (λ d. Puts k (reserved_size k (unwrap k fs) (scoped_code (size_list false fs []))) d old new before now r) (spell_is name k fs is) h)

module _ (w : ValueWriter) (new : Output) (before now : ℕ) where
  pub fields_ended : (k : ElementType) → PutsFields w.kind (fields_view w.fields.items) w.out.now new before now (Ok k) → EndsFields w new.bytes (Ok tt)
  fields_ended k h begun name fs has =
      let put = whole_put name w.kind fs w.out.now new before now (Ok k) has.kind (subst (λ x. PutsFields w.kind x w.out.now new before now (Ok k)) has.fields h) in
      (ap (λ b. with_tree b (spell (structure name fs) in_whole)) (sym has.out) ∙ put.bytes, put.fits)

  pub fields_unended : (left : Bytes) (e : Error) (h : Halt) (start : ℕ) → start ≡ length w.out.now.bytes → PutsFields w.kind (fields_view w.fields.items) w.out.now new before now (Err h) → left ≡ take start new.bytes → IsPlaced (halt_view h) (write_failure e)
      → EndsFields w left (Err e)
  fields_unended left e h start at puts cut is begun name fs has =
      let put = whole_put name w.kind fs w.out.now new before now (Err h) has.kind (subst (λ x. PutsFields w.kind x w.out.now new before now (Err h)) has.fields puts) in (
        cut ∙ ap (λ n. take n new.bytes) at ∙ put.grows.kept ∙ has.out,
        told false (structure name fs) in_whole (size (structure name fs)) (write_failure e) (fails h (write_failure e) (size (structure name fs)) w.out.now.spare w.out.now.bytes (spell (structure name fs) in_whole) put.bytes is),
      )

pub not_going : (begun : Bytes) (name : Utf8) (fs : FieldValues) (w : ValueWriter) → w.failed ≡ true → HasFields begun name w fs → ⊥
not_going begun name fs w is has = let no : true ≡ false = sym is ∙ has.going in absurd cc

-- a flag is not both
pub not_both : (b : Bool) → b ≡ true → b ≡ false → ⊥
not_both true t f = absurd cc
not_both false t f = absurd cc

-- what holds on success, where there is no failure
pub if_no_error : {T E : Type 0} {P : Type 0} (r : Result T E) → OnOk r P → is_err r ≡ false → P
if_no_error (Ok x) h e = h
if_no_error (Err x) h e = absurd cc
