-- The element at a key that is a text and at one that is not, and a text.
use Rattle.std.proofs.Common.{◌≡◌, List, ℕ, Bool, true, false, cond, Some, None, Ok, Err, refl, ap, sym, ◌∙◌}
use Rattle.std.specs.Prelude.{Result, MatchResult, is_ok}
use Rattle.std.specs.Borrow.{Bor}
use Rattle.std.specs.Str.{IsUtf8, is_utf8}
use Rattle.std.proofs.lemmas.Str.{IsUtf8-from_is_utf8, is_utf8-from_IsUtf8}
use Rattle.bson_kinds.specs.Text.{Bytes}
use Rattle.bson_kinds.specs.Kind.{of_byte}
use Rattle.bson_rawdoc.specs.Extent.{cut_at_zero}
use Rattle.bson_faults.specs.declared.raw.Error.TheVariants.{KeyUnclosed, KeyNotUtf8}
use Rattle.bson_rawdoc.specs.Walk.{of_kind, with_key, element_at}

not_true : (b : Bool) → (b ≡ true → ⊥) → b ≡ false
not_true true n = absurd (n refl)
not_true false n = refl

pub not_text : (bs : List ℕ) → ¬ (IsUtf8 bs) → is_utf8 bs ≡ false
not_text bs n = not_true (is_utf8 bs) (λ e. n (IsUtf8-from_is_utf8 bs e))

-- a test that hands on the text where there is one
pub decided : {E : Type 0} (bs : List ℕ) (r : Result (Bor (List ℕ)) E) → MatchResult r (λ s. (s.now ≡ bs) × IsUtf8 bs) (λ _. ¬ (IsUtf8 bs)) → is_ok r ≡ is_utf8 bs
decided bs (Ok s) m = sym (is_utf8-from_IsUtf8 bs m.1)
decided bs (Err e) m = sym (not_text bs m)

pub key_open : (b : ℕ) (bytes : Bytes) → cut_at_zero bytes ≡ None → element_at b bytes ≡ Err KeyUnclosed
unfolding element_at
key_open b bytes none = ap (with_key b) none

module _ (b : ℕ) (bytes : Bytes) (key rest : Bytes) (cut : Some (key, rest) ≡ cut_at_zero bytes) where
  pub key_bad : is_utf8 key ≡ false → element_at b bytes ≡ Err KeyNotUtf8
  unfolding element_at
  key_bad n = ap (with_key b) (sym cut) ∙ ap (λ t. cond t (of_kind b key (of_byte b) rest) (Err KeyNotUtf8)) n

  pub key_good : IsUtf8 key → of_kind b key (of_byte b) rest ≡ element_at b bytes
  unfolding element_at
  key_good u = sym (ap (with_key b) (sym cut) ∙ ap (λ t. cond t (of_kind b key (of_byte b) rest) (Err KeyNotUtf8)) (is_utf8-from_IsUtf8 key u))
