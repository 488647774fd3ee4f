-- Bytes that are framed as a document.
use Rattle.std.proofs.Common.{◌≡◌, ◌≤◌, Bool, true, false, cond, Ok, Err, refl, pos, length}
use Rattle.std.specs.Prelude.{not, nat_lt}
use Rattle.std.specs.Ordering.{int_eq}
use Rattle.std.proofs.lemmas.Bool.{le-ltb, ltb-false}
use Rattle.std.proofs.lemmas.Bool.Decides.{Decides-int_eq}
use Rattle.bson_kinds.specs.Text.{Bytes}
use Rattle.bson_rawdoc.specs.Envelope.{is_closed, envelope}
use Rattle.bson_rawdoc.specs.Numbers.{int32_in}
use Rattle.bson_faults.specs.declared.raw.Error.TheVariants.{TooShort, LengthDiffers, NoTerminator}
use Rattle.bson_kinds.proofs.Apart.{no_ok, false_no}

-- they pass the test of the envelope
abbrev pub IsFramed : Bytes → Type 0
IsFramed b = envelope b ≡ Ok b

-- they are as many as the int32 in front announces, and five at least
pub record IsAnnounced (b : Bytes) : Type 0 where
  pub least : 5 ≤ length b
  pub told : int32_in b ≡ pos (length b)

parts : (p q r : Bool) (b d : Bytes) → cond p (Err TooShort) (cond (not q) (Err LengthDiffers) (cond (not r) (Err NoTerminator) (Ok b))) ≡ Ok d → (b ≡ d) × (p ≡ false) × (q ≡ true) × (r ≡ true)
parts true q r b d e = absurd (no_ok e)
parts false false r b d e = absurd (no_ok e)
parts false true false b d e = absurd (no_ok e)
parts false true true b d e = (cc, refl, refl, refl)

announced : (b : Bytes) → nat_lt (length b) 5 ≡ false → int_eq (int32_in b) (pos (length b)) ≡ true → IsAnnounced b
announced b p e = record { least = ltb-false _ _ p; told = (Decides-int_eq _ _).0 e }

-- bytes that pass are the same bytes, they are announced, and the last of them is a zero
pub frame : (b d : Bytes) → envelope b ≡ Ok d → (b ≡ d) × IsAnnounced b × (is_closed b ≡ true)
frame b d e =
    let h = parts (nat_lt (length b) 5) (int_eq (int32_in b) (pos (length b))) (is_closed b) b d e in
    (h.0, announced b h.1 h.2, h.3)

passed : (a b c : Bool) (x : Bytes) → a ≡ false → b ≡ true → c ≡ true → cond a (Err TooShort) (cond (not b) (Err LengthDiffers) (cond (not c) (Err NoTerminator) (Ok x))) ≡ Ok x
passed true b c x p q r = absurd cc
passed false false c x p q r = absurd cc
passed false true false x p q r = absurd (false_no r)
passed false true true x p q r = refl

pub framed : (b : Bytes) → IsAnnounced b → is_closed b ≡ true → IsFramed b
framed b a c = passed (nat_lt (length b) 5) (int_eq (int32_in b) (pos (length b))) (is_closed b) b (le-ltb _ _ a.least) ((Decides-int_eq _ _).1 a.told) c
