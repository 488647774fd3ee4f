-- What std's and the crates' clauses say of a text, by this crate's words.
use Rattle.std.proofs.Common.{◌≡◌, ℕ, ◌*◌, List, length, Option, Some, None, Result, Err, IsOk, ◌↔◌, refl, sym, true≢false}
use Rattle.std.specs.List.{AllPass}
use Rattle.hex.specs.Hex.{decode_sized, is_hex_digit}
use Rattle.hex.specs.declared.error.FromHexError.{FromHexError}
use Rattle.hex.proofs.HexLemmas.{IsOk-decode_sized}

-- ---- hex

pub digits_taken : (s : List ℕ) (n : ℕ) (r : Result (List ℕ) FromHexError) → r ≡ decode_sized s n → IsOk r ↔ ((length s ≡ 2 * n) × AllPass is_hex_digit s)
digits_taken s n r e = rw e (IsOk-decode_sized s n)

-- ---- UUIDs

pub no_uuid : {X E : Type 0} (o : Option (List ℕ)) (r : Result X E) (e : E) → r ≡ Err e → IsOk r ↔ ((u : List ℕ) × (o ≡ Some u)) → o ≡ None
no_uuid {X = X} None r e is h = refl
no_uuid {X = X} (Some u) r e is h = let p : IsOk {T = X} (Err e) = rw is at (h.1 (u, refl)) in absurd (true≢false (sym p))
