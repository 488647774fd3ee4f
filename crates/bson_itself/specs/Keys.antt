-- Keys of documents and of arrays. Source: bsonspec.org, version 1.1, `e_list` and `e_name`.
use Rattle.std.specs.Prelude.{◌≡◌, ◌∷◌, ◌++◌, true, false}
use Rattle.std.specs.Str.{is_utf8}
use Rattle.bson_kinds.specs.Text.{Bytes, has_zero}

-- The bytes are a key, the zero that closes it, and what is behind that. Source: bsonspec.org, version 1.1, `e_name`.
pub record IsKey (bytes : Bytes) (key behind : Bytes) : Type 0 where
  pub text : is_utf8 key ≡ true
  pub no_zero : has_zero key ≡ false
  pub parts : bytes ≡ key ++ 0 ∷ behind
