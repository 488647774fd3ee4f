-- What listing answers, where a list has room for six parts. Source: the reserved names of MongoDB's crate bson, version 2.
use Rattle.std.specs.Prelude.{◌≡◌, ℕ, ◌<◌, List, ◌++◌, length, Result, Ok, Err}
use Rattle.bson_values.specs.Value.{Value}
use Rattle.bson_laws.specs.Unwrap as unwrap
use Rattle.bson_reserved.specs.ListView.{parts_view}
use Rattle.bson_reserved.specs.declared.list.Full.{Full}
use Rattle.bson_reserved.specs.declared.list.Part.{Part}

-- how many parts a list has room for: no list that is accepted has more
abbrev pub max_parts : ℕ
max_parts = 6

-- The parts were put at the end of the list, or the list would have more parts than it has room for, whatever parts come after them.
abbrev pub Lists : Result (Unit {0}) Full → List Part → List Part → (List (unwrap.Part Value) → List (unwrap.Part Value)) → Type 0
Lists (Ok x) old new before = (rest : List (unwrap.Part Value)) → parts_view old ++ before rest ≡ parts_view new ++ rest
Lists (Err e) old new before = (rest : List (unwrap.Part Value)) → max_parts < length (parts_view old ++ before rest)
