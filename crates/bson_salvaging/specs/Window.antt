-- The bytes of a file that are held, and what may still come. Source: std's `Read`.
use Rattle.std.specs.Prelude.{◌≡◌, ◌⊎◌, Bool, true, [], ◌++◌, Option}
use Rattle.std.specs.Io.KnownBytes.{Consumes, IsAtEnd}
use Rattle.bson_kinds.specs.Text.{Bytes}

-- what contracts see of a window: the bytes that are held, and whether the source has given its last
pub record Held : Type 0 where
  pub bytes : Bytes
  pub ended : Bool

-- These bytes may still come behind a window.
abbrev pub MayCome : Held → Bytes → Type 0
MayCome h more = h.ended ≡ true → more ≡ []

-- What is asked of the rest of the file is answered so, whatever comes.
abbrev pub Settles : {A : Type 0} → (Bytes → A) → Held → A → Type 0
Settles ask h answer = (more : Bytes) → MayCome h more → ask (h.bytes ++ more) ≡ answer

-- Bytes came of the source behind those that were held.
pub record Grows (old new : Held) (left left' : Option Bytes) : Type 0 where
  pub more : Bytes
  pub bytes : new.bytes ≡ old.bytes ++ more
  pub taken : Consumes left left' more
  -- none is asked for once it has given its last
  pub over : old.ended ≡ true → (new.ended ≡ true) × (more ≡ []) × (left' ≡ left)
  pub ends : new.ended ≡ true → (old.ended ≡ true) ⊎ IsAtEnd left'
