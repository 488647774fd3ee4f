-- The text of a value: the tokens of a JSON value, with no space between them and the shortest escapes. Source: RFC 8259, as the crate `json` of the kit prints it.
use Rattle.std.specs.Prelude.{◌≡◌, ◌++◌}
use Rattle.std.specs.Str.{IsUtf8}
use Rattle.json.specs.Json.{Json}
use Rattle.json.specs.Print.{print}
use Rattle.json.specs.Tree.{json_tokens}
use Rattle.bson_kinds.specs.Text.{Bytes, Utf8}
use Rattle.bson_base.specs.Tree.{Tree}
use Rattle.bson_json_laws.specs.JsonOf.{IsJson}
use Rattle.bson_json_laws.specs.declared.form.JsonForm.{JsonForm}

-- the text is one of the value
pub record IsText (form : JsonForm) (t : Tree) (text : Utf8) : Type 0 where
  pub json : Json
  pub is_json : IsJson form t json
  pub is_print : text ≡ print (json_tokens json)
  pub utf8 : IsUtf8 text

-- one was appended
pub record AppendsText (form : JsonForm) (t : Tree) (old new : Bytes) : Type 0 where
  pub text : Utf8
  pub is_text : IsText form t text
  pub appended : new ≡ old ++ text
