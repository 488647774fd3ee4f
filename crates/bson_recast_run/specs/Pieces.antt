-- What a row's element is made of: what the proof of the call needs, and no definition. Source: bsonspec.org, version 1.1, `element`.
use Rattle.std.specs.Prelude.{ℕ, ◌+◌, [], ◌∷◌, ◌++◌}
use Rattle.bson_kinds.specs.Text.{Bytes}
use Rattle.bson_base.specs.Tree.{le32}

-- the bytes between the digits of the index and those of the name, by how many digits there are
abbrev pub between_digits : (digits number : ℕ) → Bytes
between_digits digits number = 0 ∷ (le32 (digits + 31) ++ (16 ∷ 110 ∷ 0 ∷ (le32 number ++ (2 ∷ 110 ∷ 97 ∷ 109 ∷ 101 ∷ 0 ∷ (le32 (digits + 4) ++ (114 ∷ 111 ∷ 119 ∷ []))))))
