-- A sound document, whose value at a shape means a sound document, is recast as that document; and what is read is refused for its size alone.
use Rattle.std.proofs.Common.{◌≡◌, Bool, true, false, Result, Ok, Err, refl, ap, sym, subst, ◌∙◌, inl, inr, arith}
use Rattle.std.specs.Prelude.{◌⊎◌, ◌<◌, ◌≤◌, ℕ, nat_lt, Some}
use Rattle.std.specs.Global.{Vec}
use Rattle.std.proofs.lemmas.Bool.{le-ltb, ltb-true}
use Rattle.bson_kinds.specs.Text.{Bytes, AreBytes}
use Rattle.bson_base.specs.Sound.{IsSound, max_bytes}
use Rattle.bson_base.specs.Tree.{Tree, enc}
use Rattle.bson_shape.specs.Form.{Form, lossy, no_fields}
use Rattle.bson_shape.specs.Makers.{IsShape}
use Rattle.bson_values.specs.Value.{Value}
use Rattle.bson_values.specs.Cause.{too_long}
use Rattle.bson_values.specs.Refusal.{ReadFault, WriteFault, unwritable, here, Failure}
use Rattle.bson_values.specs.ErrorView.{read_failure, write_failure}
use Rattle.bson_laws.specs.Means.{means}
use Rattle.bson_laws.specs.Plain.{OwnsTexts, IsPlain}
use Rattle.bson_laws.specs.Reads.{reads_document}
use Rattle.bson_laws.specs.Spell.{Writing, IsWrittenUnlessLarge, HoldsNumbers, spell_document, size}
use Rattle.bson_laws.specs.Recursive.{view}
use Rattle.bson_laws.specs.Writable.{IsWritable}
use Rattle.bson_laws.proofs.AtShapes.{views_reads, document_written, document_numbers}
use Rattle.bson_laws.proofs.Spelled.{spell_means}
use Rattle.bson_de_raw.specs.ReadsLossy.{reads_lossy}
use Rattle.bson_de_raw.proofs.Lossy.{lossy_numbers, lossy_written, lossy_views_read}
use Rattle.bson_ser_stream.specs.Writing.{IsExpected, too_long_failure}
use Rattle.bson_tree_recast.specs.declared.error.RecastError.{RecastError}
use Rattle.bson_tree_recast.specs.declared.error.RecastError.TheVariants.{Read, Write, NoMemory}
use Rattle.bson_tree_recast.specs.Recast.{writes, unread, written, recast_read, recast_of, Unwritten, IfUnwritten, IsForNoNumber, IsRecast}
use Rattle.bson_recasting.specs.Recasting.{lossy_recast_of, GivesBytes, IsForSize}

-- what is read as a value that means a sound document
module _ (answer : Result Value (Failure ReadFault)) (u : Tree) (d : Value) (read : answer ≡ Ok d) (mean : means d ≡ Some u) (clean : IsSound u) where
  fits : size d ≤ max_bytes
  fits = let whole = spell_means d u mean clean in let small = clean.fits in omega (arith, whole.1, small)

  -- what it comes to is the document
  comes_to : recast_read answer ≡ writes (enc u)
  comes_to = ap recast_read read ∙ ap (written (nat_lt max_bytes (size d))) (spell_means d u mean clean).0 ∙ ap (λ b. written b (Ok u)) (le-ltb _ _ fits)

  gives : (r : Result (Vec ℕ) RecastError) → IsRecast (recast_read answer) r → GivesBytes (enc u) r
  gives (Ok v) h = let both : writes v.items ≡ writes (enc u) = sym h ∙ comes_to in cc
  gives (Err (Read e)) h = let both : unread (read_failure e) ≡ writes (enc u) = sym h ∙ comes_to in cc
  gives (Err (Write e)) h = subst (λ x. Unwritten x (write_failure e)) comes_to h
  gives (Err NoMemory) h = tt

module _ (s : Form) (bytes : Bytes) (t u : Tree) (d : Value) (shape : IsShape s) (plain : IsPlain s) (sound : IsSound t) (seen : view no_fields s t ≡ Some d) (mean : means d ≡ Some u) (clean : IsSound u) (is : bytes ≡ enc t) where
  reads_it : reads_document s bytes ≡ Ok d
  reads_it = ap (reads_document s) is ∙ views_reads s t d shape plain sound seen

  pub recasts_it : recast_of s bytes ≡ writes (enc u)
  recasts_it = comes_to (reads_document s bytes) u d reads_it mean clean

  pub migrates : (r : Result (Vec ℕ) RecastError) → IsRecast (recast_of s bytes) r → GivesBytes (enc u) r
  migrates = gives (reads_document s bytes) u d reads_it mean clean

  -- the same where texts are mended
  pub lossy_migrates : OwnsTexts s → (r : Result (Vec ℕ) RecastError) → IsRecast (lossy_recast_of s bytes) r → GivesBytes (enc u) r
  lossy_migrates owned = gives (reads_lossy s bytes) u d (ap (reads_lossy s) is ∙ lossy_views_read s t d shape owned plain sound seen) mean clean

-- ---- what was read is refused for its size alone

-- the answer to a value that is not written
value_refused : (d : Value) (b : Bool) (w : Writing Tree) (f : Failure WriteFault) → nat_lt max_bytes (size d) ≡ b → Unwritten (written b w) f → IsExpected w f ⊎ ((f ≡ too_long_failure) × (max_bytes < size d))
value_refused d b (Err r) f e (inl is) = inl is
value_refused d b (Err r) f e (inr long) = inr (long.1, ltb-true _ _ (e ∙ long.0))
value_refused d true (Ok t) f e (inl is) = absurd is
value_refused d true (Ok t) f e (inr long) = inr (long.1, ltb-true _ _ e)
value_refused d false (Ok t) f e h = absurd h

-- a value that was read and is not written, for its refusal or for its size
pub record IsValueRefused (answer : Result Value (Failure ReadFault)) (f : Failure WriteFault) : Type 0 where
  pub value : Value
  pub read : answer ≡ Ok value
  pub refused : IsExpected (spell_document value) f ⊎ ((f ≡ too_long_failure) × (max_bytes < size value))

unwritten_is : (f : Failure WriteFault) (answer : Result Value (Failure ReadFault)) → Unwritten (recast_read answer) f → IsValueRefused answer f
unwritten_is f (Err e) h = absurd h
unwritten_is f (Ok d) h = record { value = d; read = refl; refused = value_refused d (nat_lt max_bytes (size d)) (spell_document d) f refl h }

-- a property of each failure of the writer for what was read
of_each : (answer : Result Value (Failure ReadFault)) (P : Failure WriteFault → Type 0) → ((f : Failure WriteFault) → IsValueRefused answer f → P f) → (r : Result (Vec ℕ) RecastError) → IsRecast (recast_read answer) r → IfUnwritten P r
of_each answer P holds (Ok v) h = tt
of_each answer P holds (Err (Read e)) h = tt
of_each answer P holds (Err (Write e)) h = holds (write_failure e) (unwritten_is (write_failure e) answer h)
of_each answer P holds (Err NoMemory) h = tt

-- ---- its size alone

-- what was read is written, unless it is too large
module _ (s : Form) (bytes : Bytes) (writes_it : (d : Value) → reads_document s bytes ≡ Ok d → IsWrittenUnlessLarge (spell_document d)) where
  abbrev read : Value → Result Value (Failure ReadFault)
  read d = Ok d

  value_is : (d e : Value) → reads_document s bytes ≡ Ok d → reads_document s bytes ≡ Ok e → d ≡ e
  value_is d e p q = let both : read d ≡ read e = sym p ∙ q in cc

  expected_for_size : (w : Writing Tree) (f : Failure WriteFault) → IsWrittenUnlessLarge w → IsExpected w f → IsForSize s bytes f
  expected_for_size (Ok t) f u expected = absurd expected
  expected_for_size (Err r) f u expected = inr (r.path, r.fault, expected, u)

  too_large : (f : Failure WriteFault) (h : IsValueRefused (reads_document s bytes) f) → IsForSize s bytes f
  too_large f h = by_cause h.refused where
    by_cause : IsExpected (spell_document h.value) f ⊎ ((f ≡ too_long_failure) × (max_bytes < size h.value)) → IsForSize s bytes f
    by_cause (inl expected) = expected_for_size (spell_document h.value) f (writes_it h.value h.read) expected
    by_cause (inr long) = inl (long.0, λ d is. subst (λ x. max_bytes < size x) (value_is h.value d h.read is) long.1)

pub for_size : (s : Form) (bytes : Bytes) → AreBytes bytes → IsShape s → IsWritable s → (r : Result (Vec ℕ) RecastError) → IsRecast (recast_of s bytes) r → IfUnwritten (IsForSize s bytes) r
for_size s bytes are shape writable r h = of_each (reads_document s bytes) (IsForSize s bytes) (too_large s bytes (λ d read. document_written s bytes d shape writable are read)) r h

-- the same where texts are mended
pub lossy_for_size : (s : Form) (bytes : Bytes) → AreBytes bytes → IsShape s → IsWritable s → (r : Result (Vec ℕ) RecastError) → IsRecast (lossy_recast_of s bytes) r → IfUnwritten (IsForSize (lossy s) bytes) r
lossy_for_size s bytes are shape writable r h = of_each (reads_lossy s bytes) (IsForSize (lossy s) bytes) (too_large (lossy s) bytes (λ d read. lossy_written s bytes d shape writable are read)) r h

-- ---- no number

expected_for_none : (w : Writing Tree) (f : Failure WriteFault) → HoldsNumbers w → IsExpected w f → IsForNoNumber f
expected_for_none (Ok t) f u expected = absurd expected
expected_for_none (Err r) f u expected = subst IsForNoNumber (sym expected) u

-- what was read has no such number
abbrev HasNumbers : Result Value (Failure ReadFault) → Type 0
HasNumbers answer = (d : Value) → answer ≡ Ok d → HoldsNumbers (spell_document d)

no_number : (answer : Result Value (Failure ReadFault)) → HasNumbers answer → (f : Failure WriteFault) (h : IsValueRefused answer f) → IsForNoNumber f
no_number answer holds f h = by_cause h.refused where
  by_cause : IsExpected (spell_document h.value) f ⊎ ((f ≡ too_long_failure) × (max_bytes < size h.value)) → IsForNoNumber f
  by_cause (inl expected) = expected_for_none (spell_document h.value) f (holds h.value h.read) expected
  by_cause (inr long) = expected_for_none (Err (here (unwritable too_long))) f (λ e. e) long.0

pub for_no_number : (s : Form) (bytes : Bytes) → AreBytes bytes → (r : Result (Vec ℕ) RecastError) → IsRecast (recast_of s bytes) r → IfUnwritten IsForNoNumber r
for_no_number s bytes are r h = let read = reads_document s bytes in of_each read IsForNoNumber (no_number read (λ d is. document_numbers s bytes d are is)) r h

-- the same where texts are mended
pub lossy_no_number : (s : Form) (bytes : Bytes) → AreBytes bytes → (r : Result (Vec ℕ) RecastError) → IsRecast (lossy_recast_of s bytes) r → IfUnwritten IsForNoNumber r
lossy_no_number s bytes are r h = let read = reads_lossy s bytes in of_each read IsForNoNumber (no_number read (λ d is. lossy_numbers s bytes d are is)) r h
