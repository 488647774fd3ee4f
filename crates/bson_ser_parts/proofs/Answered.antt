-- What a call answers where a part is refused, or the end.
use Rattle.std.proofs.Common.{Bool, ◌≡◌, ℕ, ◌+◌, ◌-◌, ◌≤◌, inl, inr, length, Result, Err, sym, subst, arith}
use Rattle.std.specs.Prelude.{Some, IfErr, OnErr}
use Rattle.bson_base.specs.Sound.{max_bytes, max_levels}
use Rattle.bson_values.specs.Refusal.{Refusal, WriteFault, here, Failure, no_memory}
use Rattle.bson_values.specs.Stop.{IsPlaced}
use Rattle.bson_values.specs.Value.{Value}
use Rattle.bson_values.specs.declared.stop.Stop.TheVariants.{Refused, NoMemory}
use Rattle.bson_io.specs.Output.{Output}
use Rattle.bson_laws.specs.Spell.{Writing, spell_as}
use Rattle.bson_writing.specs.Halting.{Halts, halt_view, IsHereOrMemory}
use Rattle.bson_writing.specs.declared.halt.Halt.{Halt}
use Rattle.bson_writing.specs.declared.halt.Halt.TheVariants.{Stopped, TooLong}
use Rattle.bson_ser_stream.specs.Writing.{IsExpected, Fails, level_inside}
use Rattle.bson_ser_stream.specs.Halting.{EndHalts}
use Rattle.bson_ser_stream.proofs.Limits.{placed_is, part_too_long}
use Rattle.bson_ser_parts.specs.Taking.{Refuses}

-- what refuses a value on its way is never its length
pub told : (readable : Bool) (v : Value) (levels size : ℕ) (f : Failure WriteFault) → Fails size (spell_as readable v levels) f → Refuses size (spell_as readable v levels) f
told readable v levels size f h = (h, part_too_long readable v levels size f h)

-- a cause of the value itself is answered as it is
pub placed_here : (f : WriteFault) (h : Halt) (g : Failure WriteFault) → IsHereOrMemory f h → IsPlaced (halt_view h) g → IsPlaced (Some (here f)) g
placed_here f (Stopped (Refused r)) g is h = subst (λ x. IsPlaced (Some x) g) is h
placed_here f (Stopped NoMemory) g is h = subst (λ x. IsPlaced (Some (here f)) x) (sym h) tt
placed_here f TooLong g is h = absurd is

-- why one part is not written tells why the whole is not
pub part_fails : {A B : Type 0} (h : Halt) (f : Failure WriteFault) (size total spare : ℕ) (one : Writing A) (expected : Writing B) → ((r : Refusal WriteFault) → one ≡ Err r → expected ≡ Err r) → size ≤ total
    → Halts size spare one h → IsPlaced (halt_view h) f → Fails total expected f
part_fails (Stopped NoMemory) f size total spare one expected on within halts is = inl is
part_fails (Stopped (Refused x)) f size total spare one expected on within halts is = elim (placed_is _ f is) [ inl want ↦ inl want | inr known ↦ inr (inl (subst (λ d. IsExpected d f) (sym (on _ halts)) known)) ]
part_fails TooLong f size total spare one expected on within halts is = elim (placed_is _ f is) [ inl want ↦ inl want | inr long ↦ inr (inr (long, omega (arith, halts, within))) ]

-- too many bytes
pub long_fails : {B : Type 0} (f : Failure WriteFault) (total : ℕ) (expected : Writing B) → max_bytes + 1 ≤ total → IsPlaced (halt_view TooLong) f → Fails total expected f
long_fails f total expected long is = elim (placed_is _ f is) [ inl want ↦ inl want | inr known ↦ inr (inr (known, omega (arith, long))) ]

-- a document or an array is not ended
pub end_fails : {B : Type 0} (h : Halt) (f : Failure WriteFault) (mid : Output) (start total : ℕ) (expected : Writing B) → length mid.bytes + 1 - start ≡ total → EndHalts mid start h → IsPlaced (halt_view h) f → Fails total expected f
end_fails (Stopped NoMemory) f mid start total expected long halts is = inl is
end_fails (Stopped (Refused r)) f mid start total expected long halts is = absurd halts
end_fails TooLong f mid start total expected long halts is = long_fails f total expected (omega (arith, halts, long)) is

-- a document or an array with a level left is begun unless memory runs out
pub begin_memory : (h : Halt) (spare : ℕ) (f : Failure WriteFault) → Halts 4 spare (level_inside max_levels) h → IsPlaced (halt_view h) f → f ≡ no_memory
begin_memory (Stopped NoMemory) spare f halts is = is
begin_memory (Stopped (Refused r)) spare f halts is = absurd cc
begin_memory TooLong spare f halts is = absurd (omega (arith, halts))

-- ---- a result that is a failure

pub if_err : {T E : Type 0} (P : E → Type 0) (r : Result T E) (e : E) → r ≡ Err e → P e → IfErr r P
if_err P r e is h = subst (λ x. IfErr x P) (sym is) h

pub on_err : {T E : Type 0} (P : Type 0) (r : Result T E) (e : E) → r ≡ Err e → P → OnErr r P
on_err P r e is h = subst (λ x. OnErr x P) (sym is) h
