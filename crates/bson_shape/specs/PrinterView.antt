-- What the printer writes before each of a list. Source: this library's own notation.
use Rattle.std.specs.Prelude.{ℕ, zero, suc, [], ◌∷◌}
use Rattle.bson_kinds.specs.Text.{Utf8}
use Rattle.bson_shape.specs.Notation.{comma}

abbrev pub comma_at : ℕ → Utf8
comma_at zero = []
comma_at (suc i) = comma ∷ []
