-- The wrapper keys of extended JSON are those of the library but one.
use Rattle.std.proofs.Common.{◌≡◌, List, [], ◌∷◌, ◌++◌, Bool, true, false, cond, Option, Some, None, refl, sym}
use Rattle.std.specs.Str.{bytes_eq}
use Rattle.bson_kinds.specs.Text.{Utf8}
use Rattle.bson_values.specs.Wrapper.{key, with_key, of_key}
use Rattle.bson_values.specs.declared.wrapper.Wrapper.{Wrapper}
use Rattle.bson_values.specs.declared.wrapper.Wrapper.TheVariants.{NumberDecimalBytes}
use Rattle.bson_json_laws.specs.WrapperKeys.{json_wrappers, wrapper_of}

abbrev pub in_json : Option Wrapper → Option Wrapper
in_json (Some NumberDecimalBytes) = None
in_json o = o

abbrev AreOfJson : List Wrapper → Type 0
AreOfJson [] = Unit {0}
AreOfJson (w ∷ ws) = (in_json (Some w) ≡ Some w) × AreOfJson ws

last_key : (k : Utf8) (b : Bool) → None ≡ in_json (cond b (Some NumberDecimalBytes) None)
last_key k true = refl
last_key k false = refl

one_key : (b : Bool) (w : Wrapper) (o p : Option Wrapper) → in_json (Some w) ≡ Some w → o ≡ in_json p → cond b (Some w) o ≡ in_json (cond b (Some w) p)
one_key true w o p h e = sym h
one_key false w o p h e = e

but_one : (k : Utf8) (ws : List Wrapper) → AreOfJson ws → with_key k ws ≡ in_json (with_key k (ws ++ NumberDecimalBytes ∷ []))
but_one k [] h = last_key k (bytes_eq k (key NumberDecimalBytes))
but_one k (w ∷ ws) h = one_key (bytes_eq k (key w)) w (with_key k ws) (with_key k (ws ++ NumberDecimalBytes ∷ [])) h.0 (but_one k ws h.1)

pub in_json_is : (k : Utf8) → wrapper_of k ≡ in_json (of_key k)
unfolding of_key
in_json_is k = but_one k json_wrappers (refl, (refl, (refl, (refl, (refl, (refl, (refl, (refl, (refl, (refl, (refl, (refl, (refl, (refl, (refl, (refl, (refl, tt)))))))))))))))))
