-- What contracts see of a steady source. Source: this library's own types.
use Rattle.std.specs.Prelude.{ℕ, List}
use Rattle.bson_io.specs.declared.steady.SteadySource.{SteadySource}

-- the bytes not yet read
abbrev pub steady_left : SteadySource → List ℕ
steady_left s = s.rest.now
