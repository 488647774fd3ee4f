-- A shape that suits both ways is unrolled to such a form, and a simple one to a simple one.
use Rattle.std.proofs.Common.{ℕ, Bool, true, false, cond}
use Rattle.std.specs.Str.{bytes_eq}
use Rattle.bson_kinds.specs.Text.{Utf8}
use Rattle.bson_shape.specs.Form.{Form, leaf, human_readable, by_mode, sequence, newtype, structure, reference, definitions, Fields, no_fields, field}
use Rattle.bson_laws.specs.Unrolled.{Meanings, unrolled, unrolled_name, unrolled_fields, names_in, max_steps, whole}
use Rattle.bson_laws.proofs.Every.{AreKept, every_whole}
use Rattle.bson_laws.proofs.Unrolling.{names_keep}
use Rattle.bson_ways_laws.specs.Simple.{IsSimple, AreSimple, AreDefinitionsSimple}
use Rattle.bson_ways_laws.specs.Ways.{SuitsWaysForm, ways_rows, SuitsBothWays}

-- ---- shapes that suit both ways

form_kept : {A B : Type 0} (m : ℕ) (s : Form) (g : Meanings) → (A → B) → SuitsWaysForm s A → SuitsWaysForm (unrolled m s g) B
form_kept m (human_readable s) g f p = absurd p
form_kept m (by_mode r c) g f p = absurd p
form_kept m (newtype name s) g f p = (p.0, f p.1)
form_kept m (structure u name fs) g f p = (p.0, f p.1)
form_kept m s g f p = f p

ways_kept : AreKept ways_rows
ways_kept = record {
  in_form = form_kept;
  in_map = λ m key g f h p. (f p.0, h p.1);
  in_field = λ name f h p. (p.0, f p.1, h p.2);
  in_variant = λ name f h p. (p.0, f p.1, h p.2);
  in_content = λ m c g f p. f p;
  parts = λ name p. (p.1, p.2);
  opened = λ f p. p;
  seen = λ p. (tt, p);
  left = λ name. tt;
}

pub suits_whole : (s : Form) → SuitsBothWays s → SuitsBothWays (whole s)
suits_whole = every_whole ways_rows ways_kept

-- ---- simple shapes

abbrev AllSimple : Meanings → Type 0
AllSimple g = (name : Utf8) → IsSimple (g name)

module _ (m : ℕ) where
  mutual
    simple_unrolled : (s : Form) (g : Meanings) → AllSimple g → IsSimple s → IsSimple (unrolled m s g)
    simple_unrolled (leaf l) g h p = p
    simple_unrolled (sequence s) g h p = simple_unrolled s g h p
    simple_unrolled (structure u name fs) g h p = (p.0, are_simple fs g h p.1)
    simple_unrolled (reference name) g h p = (tt, h name)
    simple_unrolled (definitions t s) g h p = (tt, simple_unrolled s (names_in m t) (names_keep m AllSimple t (λ name. tt) (λ k q name. simple_name t k q p.0 name)) p.1)
    simple_unrolled s g h p = absurd p

    simple_name : (t : Fields) (g : Meanings) → AllSimple g → AreDefinitionsSimple t → (key : Utf8) → IsSimple (unrolled_name m t g key)
    simple_name no_fields g h p key = tt
    simple_name (field name s t) g h p key = by_case (bytes_eq name key) (simple_unrolled s g h p.0) (simple_name t g h p.1 key) where
      by_case : (b : Bool) → IsSimple (unrolled m s g) → IsSimple (unrolled_name m t g key) → IsSimple (cond b (unrolled m s g) (unrolled_name m t g key))
      by_case true x y = x
      by_case false x y = y

    are_simple : (fs : Fields) (g : Meanings) → AllSimple g → AreSimple fs → AreSimple (unrolled_fields m fs g)
    are_simple no_fields g h p = tt
    are_simple (field name s fs) g h p = (p.0, simple_unrolled s g h p.1, are_simple fs g h p.2)

pub simple_whole : (s : Form) → IsSimple s → IsSimple (whole s)
simple_whole s p = simple_unrolled max_steps s (names_in max_steps no_fields) (names_keep max_steps AllSimple no_fields (λ name. tt) (λ k q name. tt)) p
