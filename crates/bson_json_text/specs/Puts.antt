-- What a call on a writer of JSON appended.
use Rattle.std.specs.Prelude.{◌≡◌, [], ◌∷◌, ◌++◌}
use Rattle.json.specs.Token.{begin_object, end_object, begin_array, end_array, key as key_token}
use Rattle.bson_kinds.specs.Text.{Utf8}
use Rattle.json.specs.Json.{Json}
use Rattle.json.specs.Tree.{json_tokens}
use Rattle.json.specs.Written.{Written}
use Rattle.bson_base.specs.Tree.{Tree}
use Rattle.bson_json_laws.specs.JsonOf.{IsJson}
use Rattle.bson_json_laws.specs.declared.form.JsonForm.{JsonForm}

-- the tokens of this JSON value were appended
pub record Appends (j : Json) (old new : Written) : Type 0 where
  pub tokens : new.tokens ≡ old.tokens ++ json_tokens j
  pub before : new.before ≡ old.before

-- those of a JSON value that the value is written as
pub record Puts (form : JsonForm) (t : Tree) (old new : Written) : Type 0 where
  pub json : Json
  pub is_json : IsJson form t json
  pub appended : Appends json old new

-- an object was opened at a key; the next key; an object was closed
pub record Opens (key : Utf8) (old new : Written) : Type 0 where
  pub tokens : new.tokens ≡ old.tokens ++ begin_object ∷ key_token key ∷ []
  pub before : new.before ≡ old.before

pub record Keys (key : Utf8) (old new : Written) : Type 0 where
  pub tokens : new.tokens ≡ old.tokens ++ key_token key ∷ []
  pub before : new.before ≡ old.before

pub record Closes (old new : Written) : Type 0 where
  pub tokens : new.tokens ≡ old.tokens ++ end_object ∷ []
  pub before : new.before ≡ old.before

-- an object or an array was begun, and an array closed
pub record Begins (old new : Written) : Type 0 where
  pub tokens : new.tokens ≡ old.tokens ++ begin_object ∷ []
  pub before : new.before ≡ old.before

pub record BeginsArray (old new : Written) : Type 0 where
  pub tokens : new.tokens ≡ old.tokens ++ begin_array ∷ []
  pub before : new.before ≡ old.before

pub record ClosesArray (old new : Written) : Type 0 where
  pub tokens : new.tokens ≡ old.tokens ++ end_array ∷ []
  pub before : new.before ≡ old.before
