-- Texts and byte strings, as definitions see them. Source: bsonspec.org, version 1.1, `string` and `cstring`.
use Rattle.std.specs.Prelude.{◌≡◌, ℕ, ◌<◌, List, [], ◌∷◌, Bool, false, true, ◌||◌, ◌&&◌, not, eqb, All}
use Rattle.std.specs.Str.{is_utf8}

-- A byte string: each number is a byte.
abbrev pub Bytes : Type 0
Bytes = List ℕ

-- each number is a byte
abbrev pub AreBytes : Bytes → Type 0
AreBytes = All (λ b. b < 256)

-- A text, as its UTF-8 bytes.
abbrev pub Utf8 : Type 0
Utf8 = List ℕ

-- a zero character is in the text (its UTF-8 form is the zero byte, and no other character has that byte)
abbrev pub has_zero : Utf8 → Bool
has_zero [] = false
has_zero (c ∷ cs) = eqb c 0 || has_zero cs

-- the first character is `$`
abbrev pub begins_with_dollar : Utf8 → Bool
begins_with_dollar [] = false
begins_with_dollar (c ∷ cs) = eqb c 36

-- the name does not begin with `$` and holds no zero character
abbrev pub is_free_name : Utf8 → Bool
is_free_name name = not (has_zero name) && not (begins_with_dollar name)

-- The same, as what is known of a name.
pub record IsFreeName (name : Utf8) : Type 0 where
  pub no_zero : has_zero name ≡ false
  pub no_dollar : begins_with_dollar name ≡ false

-- A name that may be a key in every document: a text that does not begin with `$` and holds no zero character.
pub record IsPlainName (name : Utf8) : Type 0 where
  pub text : is_utf8 name ≡ true
  pub free : IsFreeName name
