-- The text of a double is read back.
use Rattle.std.proofs.Common.{◌≡◌, Bool, true, false, cond, Some, None, refl, sym, ap, ◌∙◌}
use Rattle.std.specs.Prelude.{codes, option_and_then}
use Rattle.std.specs.Float.{Float, binary64, nan, inf, fin, float_is_finite}
use Rattle.std.specs.Float.Parse.{parse_float}
use Rattle.std.specs.Str.{bytes_eq}
use Rattle.std.proofs.lemmas.Slice.Eq.{bytes_eq-Decides}
use Rattle.fast_float.proofs.OnLiterals.{fast_float_on_literals}
use Rattle.bson_kinds.specs.Text.{Utf8}
use Rattle.bson_json_laws.specs.Doubles.{double_bytes, IsFloatText, finite_bytes, double_of_numeral, double_of_text}

nan_parses : parse_float binary64 (codes "NaN") ≡ Some nan
unfolding fast_float_on_literals
nan_parses = refl

infinity_parses : parse_float binary64 (codes "Infinity") ≡ Some (inf false)
unfolding fast_float_on_literals
infinity_parses = refl

minus_infinity_parses : parse_float binary64 (codes "-Infinity") ≡ Some (inf true)
unfolding fast_float_on_literals
minus_infinity_parses = refl

-- a numeral that is read as a finite number is no word that is read as another
differs : (s word : Utf8) (x y : Float) (b : Bool) → bytes_eq s word ≡ b → parse_float binary64 s ≡ Some x → parse_float binary64 word ≡ Some y → (Some x ≡ Some y → ⊥) → bytes_eq s word ≡ false
differs s word x y false e p q other = e
differs s word x y true e p q other = absurd (other (sym p ∙ ap (parse_float binary64) ((bytes_eq-Decides s word).0 e) ∙ q))

pub finite_read : (s : Utf8) (x : Float) → parse_float binary64 s ≡ Some x → float_is_finite x ≡ true → double_of_numeral s ≡ Some (double_bytes x)
unfolding double_of_numeral
finite_read s x p f = ap (option_and_then finite_bytes) p ∙ ap (λ b. cond b (Some (double_bytes x)) None) f

pub float_read : (x : Float) (s : Utf8) → IsFloatText x s → double_of_text s ≡ Some (double_bytes x)
unfolding float_is_finite
float_read nan s h = ap double_of_text h
float_read (inf true) s h = ap double_of_text h
float_read (inf false) s h = ap double_of_text h
float_read (fin negative m e) s h =
    let x = fin negative m e in
    let a = differs s (codes "NaN") x nan _ refl h.1 nan_parses (λ w. cc) in
    let b = differs s (codes "Infinity") x (inf false) _ refl h.1 infinity_parses (λ w. cc) in
    let c = differs s (codes "-Infinity") x (inf true) _ refl h.1 minus_infinity_parses (λ w. cc) in
    rw (a, b, c) (finite_read s x h.1 refl)
