-- The laws of optional values, from those of their type.
use Rattle.std.specs.Prelude.{◌≡◌, Option, Some, None, Ok, Err, refl, option_map}
use Rattle.bson_kinds.specs.Outcome.{result_map}
use Rattle.bson_base.specs.Tree.{Tree, null}
use Rattle.bson_shape.specs.Form as form
use Rattle.bson_shape.specs.Form.{Form}
use Rattle.bson_values.specs.Value.{Value, some}
use Rattle.bson_laws.specs.Means.{means, norm, some_or_none}
use Rattle.bson_type_data.specs.Answers.{Reading, Writing}
use Rattle.bson_traits.specs.Laws.{Returns, IsNeverNull}
use Rattle.bson_traits.specs.Options.{written_option, taken_option, IsOptional}

-- some value that does not mean Null stays some value
some_stays : (t : Option Tree) (v : Value) → (t ≡ Some null → ⊥) → some_or_none t v ≡ some v
some_stays (Some null) v h = absurd (h refl)
some_stays t v h = refl

option_of : {C : Type 0} (f : Form) (c : C) (t : Value → Reading C) (r : Writing Value) → Returns f c t r → IsNeverNull r → Returns (form.optional f) (Some c) (taken_option t) (result_map some r)
option_of f c t (Err e) a n = tt
option_of f c t (Ok v) a n = record { fits = a.fits; again = rw (some_stays (means v) (norm v) n, a.again) refl }

pub option_returns : {A C : Type 0} (w : A → Writing Value) (c : A → C) (t : Value → Reading C) (f : Form) (P : A → Type 0) → ((x : A) → P x → Returns f (c x) t (w x)) → ((x : A) → P x → IsNeverNull (w x))
    → (x : Option A) → IsOptional P x → Returns (form.optional f) (option_map c x) (taken_option t) (written_option w x)
option_returns w c t f P law never None p = record { fits = tt; again = refl }
option_returns w c t f P law never (Some x) p = option_of f (c x) t (w x) (law x p) (never x p)
