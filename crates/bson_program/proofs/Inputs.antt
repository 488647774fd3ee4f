-- What was read of an input that tells its bytes.
use Rattle.std.proofs.Common.{◌≡◌, ◌≤◌, ◌+◌, ◌++◌, length, Option, Some, None, sym, ap, subst, ◌∙◌, arith, append-nil, inl, inr}
use Rattle.std.proofs.lemmas.Bool.{cond-false, cond-true, le-ltb, lt-ltb}
use Rattle.std.proofs.lemmas.List.{length-append}
use Rattle.std.specs.Prelude.{ℕ, nat_lt}
use Rattle.std.specs.Io.KnownBytes.{Consumes, IsAtEnd}
use Rattle.bson_base.specs.Sound.{max_bytes}
use Rattle.bson_kinds.specs.Text.{Bytes}
use Rattle.bson_io.specs.Ends.{TakesExactly}
use Rattle.bson_program.specs.Ends.{SourceChange}
use Rattle.bson_program.specs.Input.{InputEnds, WholeRow, OnInput, input_status}
use Rattle.bson_program.specs.Run.{Expected}

-- at its end all that it told was read
pub whole : (a b : Option Bytes) (bytes told : Bytes) → Consumes a b bytes → IsAtEnd b → a ≡ Some told → bytes ≡ told
whole None b bytes told c e h = absurd cc
whole (Some xs) None bytes told c e h = absurd c
whole (Some xs) (Some ys) bytes told c e h = let same : xs ≡ told = cc in sym (append-nil bytes) ∙ ap (λ z. bytes ++ z) (sym e) ∙ sym c ∙ same

-- it told at least as much as was taken
long : (a b : Option Bytes) (told : Bytes) (count : ℕ) → a ≡ Some told → TakesExactly count a b → count ≤ length told
long None b told count h taken = absurd cc
long (Some xs) None told count h taken = absurd taken.taken
long (Some xs) (Some ys) told count h taken =
    let same : xs ≡ told = cc in
    omega (arith, taken.all, length-append taken.bytes ys, ap length taken.taken, ap length same)

module _ {Status : Type 0} (ends : InputEnds Status) (Answers : Bytes → Expected Status) (input : SourceChange) (doc : Bytes) (told : input.before ≡ Some doc) where
  -- what must be written for a whole input must be written for the bytes that it told
  pub of_told : (status : Status) (out lines : Bytes) → WholeRow Answers input status out lines → (length doc ≤ max_bytes) × Answers doc status out lines
  of_told status out lines h =
      let is : h.bytes ≡ doc = whole input.before input.after h.bytes doc h.read.taken h.read.ended told in
      (omega (arith, h.read.most, ap length is), subst (λ b. Answers b status out lines) is h.answer)

  module _ (quiet : input.faults_after ≡ input.faults_before) where
    -- what must be written for an input that did not fail and is not too long must be written for the bytes that it told
    pub read_whole : length doc ≤ max_bytes → (status : Status) (out lines : Bytes) → OnInput ends Answers input status out lines → Answers doc status out lines
    read_whole most status out lines (inl h) = (of_told status out lines h).1
    read_whole most status out lines (inr (inl h)) = absurd (omega (arith, most, long input.before input.after doc (max_bytes + 1) told h.taken))
    read_whole most status out lines (inr (inr h)) = absurd (omega (arith, h.rose, quiet))

    -- what must be written for an input that did not fail settles the status
    pub input_settles : (of_whole : Bytes → Status) → ((bytes : Bytes) (status : Status) (out lines : Bytes) → Answers bytes status out lines → status ≡ of_whole bytes)
        → (status : Status) (out lines : Bytes) → OnInput ends Answers input status out lines → status ≡ input_status ends of_whole doc
    input_settles of_whole settles status out lines (inl h) =
        let w = of_told status out lines h in
        settles doc status out lines w.1 ∙ sym (cond-false (nat_lt max_bytes (length doc)) ends.too_long (of_whole doc) (le-ltb _ _ w.0))
    input_settles of_whole settles status out lines (inr (inl h)) =
        let most : max_bytes + 1 ≤ length doc = long input.before input.after doc (max_bytes + 1) told h.taken in
        h.ended ∙ sym (cond-true (nat_lt max_bytes (length doc)) ends.too_long (of_whole doc) (lt-ltb _ _ (omega (arith, most))))
    input_settles of_whole settles status out lines (inr (inr h)) = absurd (omega (arith, h.rose, quiet))
