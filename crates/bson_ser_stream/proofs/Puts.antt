-- A value that is written, and the reasons why one is not.
use Rattle.std.proofs.Common.{◌≡◌, ℕ, ◌<◌, ◌≤◌, ◌++◌, length, true, false, inl, inr, Result, Ok, Err, refl, ap, sym, ◌∙◌, arith}
use Rattle.std.proofs.lemmas.Bool.{cases_lt, false≢true}
use Rattle.std.specs.Prelude.{IsOk}
use Rattle.std.specs.Result.{IsErrAnd}
use Rattle.std.proofs.lemmas.List.{take_all}
use Rattle.bson_base.specs.Sound.{max_bytes}
use Rattle.bson_kinds.specs.Text.{Bytes}
use Rattle.bson_base.specs.Tree.{Tree, enc}
use Rattle.bson_kinds.specs.declared.element_type.ElementType.{ElementType}
use Rattle.bson_values.specs.Refusal.{WriteFault, here}
use Rattle.bson_values.specs.declared.stop.Stop.TheVariants.{Refused, NoMemory}
use Rattle.bson_io.specs.Output as output
use Rattle.bson_io.specs.Output.{Output}
use Rattle.bson_laws.specs.Written.{Writing, written_size}
use Rattle.bson_ser_stream.specs.Writing.{with_tree, places, count_of}
use Rattle.bson_writing.specs.Halting.{IsOutOfMemory, IsHereOrMemory, Halts}
use Rattle.bson_ser_stream.specs.Halting.{Grows, Puts}
use Rattle.bson_writing.specs.declared.halt.Halt.{Halt}
use Rattle.bson_writing.specs.declared.halt.Halt.TheVariants.{Stopped, TooLong}

-- nothing was appended
pub Grows-none : (old : Output) (now : ℕ) → Grows old old now now
Grows-none old now = record { kept = take_all (length old.bytes) old.bytes (omega arith); room = omega arith; least = omega arith; most = omega arith }

pub Grows-refused : (old new : Output) (before now : ℕ) → output.Refused old new before now → Grows old new before now
Grows-refused old new before now h =
    let long = ap length h.bytes in
    record { kept = take_all (length old.bytes) new.bytes (omega (arith, long)) ∙ h.bytes; room = omega (arith, long, h.spare); least = omega (arith, long, h.steps); most = omega (arith, long, h.steps) }

ok_expected : (old : Bytes) (expected : Writing Tree) → IsOk (with_tree old expected) → IsOk expected
ok_expected old (Ok t) h = refl
ok_expected old (Err r) h = absurd cc

refused_ok : (f : WriteFault) (expected : Writing Tree) → expected ≡ Err (here f) → IsOk expected → ⊥
refused_ok f (Ok t) e h = absurd cc
refused_ok f (Err r) e h = absurd cc

memory_halts : (size : ℕ) (expected : Writing Tree) (old : Output) (h : Halt) → IsOutOfMemory h → (IsOk expected → old.spare < size) → Halts size old.spare (with_tree old.bytes expected) h
memory_halts size expected old (Stopped NoMemory) out short = λ ok. short (ok_expected old.bytes expected ok)
memory_halts size expected old (Stopped (Refused r)) out short = absurd out
memory_halts size expected old TooLong out short = absurd out

refusal_halts : (size : ℕ) (expected : Writing Tree) (f : WriteFault) (old : Output) (h : Halt) → expected ≡ Err (here f) → IsHereOrMemory f h → Halts size old.spare (with_tree old.bytes expected) h
refusal_halts size expected f old (Stopped (Refused r)) is at = ap (with_tree old.bytes) is ∙ ap Err (sym at)
refusal_halts size expected f old (Stopped NoMemory) is at = λ ok. absurd (refused_ok f expected is (ok_expected old.bytes expected ok))
refusal_halts size expected f old TooLong is at = absurd at

module _ (its : ElementType) (size : ℕ) (expected : Writing Tree) (old new : Output) (before now : ℕ) (grows : Grows old new before now) where
  -- the value of the definition, which has no places, was appended
  pub puts_value : (t : Tree) → expected ≡ Ok t → new.bytes ≡ old.bytes ++ enc t → size ≤ max_bytes → places t ≡ 0 → Puts its size expected old new before now (Ok its)
  puts_value t is made fits none =
      let count : count_of places expected ≡ places t = ap (count_of places) is in
      record { kind = refl; bytes = ap (with_tree old.bytes) is ∙ ap Ok (sym made); fits = fits; grows = grows; least = omega (arith, grows.least, count, none) }

  -- memory ran out, and the value of the definition has no room
  pub out_of_memory : (r : Result ElementType Halt) → IsErrAnd r IsOutOfMemory → (IsOk expected → old.spare < size) → Puts its size expected old new before now r
  out_of_memory (Ok k) out short = absurd out
  out_of_memory (Err h) out short = record { kind = tt; bytes = memory_halts size expected old h out short; fits = tt; grows = grows; least = tt }

  -- the value is refused, as the definition says
  pub puts_refusal : (f : WriteFault) (h : Halt) → expected ≡ Err (here f) → IsHereOrMemory f h → Puts its size expected old new before now (Err h)
  puts_refusal f h is at = record { kind = tt; bytes = refusal_halts size expected f old h is at; fits = tt; grows = grows; least = tt }

  -- the value has more bytes than a document may
  pub puts_too_long : max_bytes < size → Puts its size expected old new before now (Err TooLong)
  puts_too_long long = record { kind = tt; bytes = long; fits = tt; grows = grows; least = tt }

-- the size of an answer is that of the value of the definition
pub size_expected : (expected : Writing Tree) (t : Tree) → expected ≡ Ok t → written_size expected ≡ length (enc t)
size_expected expected t is = ap written_size is

-- a piece that did not fit
pub no_room : (piece spare : ℕ) → (piece ≤ spare → false ≡ true) → spare < piece
no_room piece spare free = elim (cases_lt spare piece) [ inl less ↦ less | inr fits ↦ absurd (false≢true (free fits)) ]

within_size : (expected : Writing Tree) (n : ℕ) → ((t : Tree) → expected ≡ Ok t → length (enc t) ≡ n) → written_size expected ≤ n
within_size (Ok t) n long = omega (arith, long t refl)
within_size (Err r) n long = omega arith

of_size : (expected : Writing Tree) (n : ℕ) → ((t : Tree) → expected ≡ Ok t → length (enc t) ≡ n) → IsOk expected → n ≤ written_size expected
of_size (Ok t) n long ok = omega (arith, long t refl)
of_size (Err r) n long ok = absurd cc

halts_at : (expected : Writing Tree) (n : ℕ) (old : Output) (h : Halt) → ((t : Tree) → expected ≡ Ok t → length (enc t) ≡ n) → Halts (written_size expected) old.spare (with_tree old.bytes expected) h → Halts n old.spare (with_tree old.bytes expected) h
halts_at expected n old (Stopped (Refused r)) long halts = halts
halts_at expected n old (Stopped NoMemory) long halts = λ ok. omega (arith, halts ok, within_size expected n long)
halts_at expected n old TooLong long halts = omega (arith, halts, within_size expected n long)

ok_is : (expected : Writing Tree) (old new : Bytes) → with_tree old expected ≡ Ok new → IsOk expected
ok_is (Ok t) old new e = refl
ok_is (Err r) old new e = absurd cc

-- an answer whose size is known where the definition gives a value
pub puts_at : (its : ElementType) (n : ℕ) (expected : Writing Tree) (old new : Output) (before now : ℕ) (r : Result ElementType Halt) → ((t : Tree) → expected ≡ Ok t → length (enc t) ≡ n)
    → Puts its (written_size expected) expected old new before now r → Puts its n expected old new before now r
puts_at its n expected old new before now (Ok k) long h = record { kind = h.kind; bytes = h.bytes; fits = omega (arith, h.fits, of_size expected n long (ok_is expected old.bytes new.bytes h.bytes)); grows = h.grows; least = h.least }
puts_at its n expected old new before now (Err halt) long h = record { kind = tt; bytes = halts_at expected n old halt long h.bytes; fits = tt; grows = h.grows; least = tt }
