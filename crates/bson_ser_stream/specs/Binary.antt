-- The parts of a binary before its bytes. Source: bsonspec.org, version 1.1, `binary`.
use Rattle.std.specs.Prelude.{◌≡◌, ℕ, ◌+◌, ◌≤◌, [], ◌∷◌, ◌++◌, length, if◌then◌else◌, nat_eq}
use Rattle.bson_kinds.specs.Text.{Bytes}
use Rattle.bson_base.specs.Tree.{le32}
use Rattle.bson_io.specs.Output.{Output}

-- how many bytes are behind the subtype of a binary of n bytes: in the old subtype 2 a second length is before them
abbrev pub behind_length : (subtype : ℕ) → ℕ → ℕ
behind_length subtype n = if nat_eq subtype 2 then n + 4 else n

-- the second length of a binary of n bytes, in the old subtype 2 alone
abbrev pub second_length : (subtype : ℕ) → ℕ → Bytes
second_length subtype n = if nat_eq subtype 2 then le32 n else []

-- what is before the bytes of a binary of n bytes: the length of what is behind its subtype, the subtype, and the second length
abbrev pub binary_front : (subtype : ℕ) → ℕ → Bytes
binary_front subtype n = le32 (behind_length subtype n) ++ (subtype ∷ second_length subtype n)

-- The front of an empty binary at a place was made that of n bytes, at one step for each byte that was written over.
pub record Fills (old new : Output) (start subtype n before now : ℕ) : Type 0 where
  pub bytes : (front bytes : Bytes) → start ≡ length front → old.bytes ≡ (front ++ binary_front subtype 0) ++ bytes → new.bytes ≡ (front ++ binary_front subtype n) ++ bytes
  pub spare : old.spare ≤ new.spare
  pub least : before ≤ now
  pub most : now ≤ before + length (binary_front subtype n)
