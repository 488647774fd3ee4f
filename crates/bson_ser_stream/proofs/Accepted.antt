-- What the fields of a reserved struct are accepted as, written.
use Rattle.std.proofs.Common.{◌≡◌, ℕ, Result, sym, subst}
use Rattle.bson_kinds.specs.declared.element_type.ElementType.{ElementType}
use Rattle.bson_io.specs.Output.{Output}
use Rattle.bson_reserved.specs.AcceptedView.{accepted_view, accepted_kind}
use Rattle.bson_laws.specs.Written.{spell_unwrapped, written_size}
use Rattle.bson_reserved.specs.declared.accepted.Accepted.{Accepted}
use Rattle.bson_ser_stream.specs.Halting.{Puts}
use Rattle.bson_writing.specs.declared.halt.Halt.{Halt}

module _ (old new : Output) (before now : ℕ) (r : Result ElementType Halt) where
  -- this was appended, or there is a reason not to
  abbrev pub PutsAccepted : Accepted → Type 0
  PutsAccepted a = Puts (accepted_kind a) (written_size (spell_unwrapped (accepted_view a))) (spell_unwrapped (accepted_view a)) old new before now r

  -- where the size of it is known
  pub puts_accepted : (a b : Accepted) (n : ℕ) → a ≡ b → written_size (spell_unwrapped (accepted_view b)) ≡ n → Puts (accepted_kind b) n (spell_unwrapped (accepted_view b)) old new before now r → PutsAccepted a
  puts_accepted a b n is long h = subst PutsAccepted (sym is) (subst (λ m. Puts (accepted_kind b) m (spell_unwrapped (accepted_view b)) old new before now r) (sym long) h)
