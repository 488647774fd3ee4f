-- What a buffered source holds and has left. Source: this library's own types.
use Rattle.std.specs.Prelude.{ℕ, ◌-◌, List, take, drop}
use Rattle.std.specs.Io.KnownBytes.{prepend_known}
use Rattle.std.specs.declared.option.Option.{Option}

-- the bytes of a buffer from one place to another
abbrev pub held : (room : List ℕ) → (from to : ℕ) → List ℕ
held room from to = take (to - from) (drop from room)

-- what is left: what is held, and then what the source below has left
abbrev pub left_of : (room : List ℕ) → (from to : ℕ) → Option (List ℕ) → Option (List ℕ)
left_of room from to below = prepend_known (held room from to) below
