-- Bytes that are a text, and bytes that are none.
use Rattle.std.proofs.Common.{◌≡◌, Bool, true, false, cond, Ok, IsUtf8, refl, ap}
use Rattle.std.specs.Str.{is_utf8}
use Rattle.std.proofs.lemmas.Str.{is_utf8-from_IsUtf8, IsUtf8-from_is_utf8}
use Rattle.bson_kinds.specs.Piece.{Piece}
use Rattle.bson_values.specs.Cause.{not_utf8}
use Rattle.bson_laws.specs.Judged.{refused}
use Rattle.bson_laws.specs.Taken.{as_text}

pub text_good : (p : Piece) → IsUtf8 p.bytes → as_text p ≡ Ok p
text_good p u = ap (λ b. cond b (Ok p) (refused not_utf8)) (is_utf8-from_IsUtf8 p.bytes u)

either : (p : Piece) (b : Bool) → is_utf8 p.bytes ≡ b → (IsUtf8 p.bytes → ⊥) → b ≡ false
either p true e n = absurd (n (IsUtf8-from_is_utf8 p.bytes e))
either p false e n = refl

pub text_bad : (p : Piece) → (IsUtf8 p.bytes → ⊥) → as_text p ≡ refused not_utf8
text_bad p n = ap (λ b. cond b (Ok p) (refused not_utf8)) (either p (is_utf8 p.bytes) refl n)
