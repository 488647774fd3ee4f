-- Texts of numbers by the tests of the code.
use Rattle.std.proofs.Common.{◌≡◌, true, false, Some, sym, true≢false}
use Rattle.std.specs.Prelude.{codes}
use Rattle.std.specs.Float.{Float, binary64, nan, inf, fin, float_is_finite, is_sign_negative}
use Rattle.std.specs.Float.Parse.{parse_float}
use Rattle.ryu.specs.Plain.{IsPlainNumber}
use lib.Ieee.{is_nan}
use Rattle.json.specs.Print.{IsNumber}
use Rattle.json.proofs.Printed.Floats.{IsNumber-plain}
use Rattle.bson_kinds.specs.Text.{Utf8}
use Rattle.bson_json_laws.specs.Doubles.{IsFloatText, infinity_text}

pub finite_text : (x : Float) (s : Utf8) → float_is_finite x ≡ true → IsPlainNumber s → parse_float binary64 s ≡ Some x → IsFloatText x s
unfolding float_is_finite
finite_text nan s f p h = absurd (true≢false (sym f))
finite_text (inf b) s f p h = absurd (true≢false (sym f))
finite_text (fin n m e) s f p h = (p, h)

pub nan_text : (x : Float) (s : Utf8) → is_nan x ≡ true → s ≡ codes "NaN" → IsFloatText x s
unfolding is_nan
nan_text nan s f e = e
nan_text (inf b) s f e = absurd (true≢false (sym f))
nan_text (fin n m t) s f e = absurd (true≢false (sym f))

pub infinity_is : (x : Float) (s : Utf8) → float_is_finite x ≡ false → is_nan x ≡ false → s ≡ infinity_text (is_sign_negative x) → IsFloatText x s
unfolding float_is_finite is_sign_negative is_nan
infinity_is nan s f n e = absurd (true≢false n)
infinity_is (inf b) s f n e = e
infinity_is (fin b m t) s f n e = absurd (true≢false f)

-- the text of a finite number is a number of JSON
pub finite_number : (x : Float) (s : Utf8) → IsFloatText x s → float_is_finite x ≡ true → IsNumber s
unfolding float_is_finite
finite_number nan s h f = absurd (true≢false (sym f))
finite_number (inf b) s h f = absurd (true≢false (sym f))
finite_number (fin n m e) s h f = IsNumber-plain s h.0
