-- The texts of a tree itself are texts. Source: bsonspec.org, version 1.1, `string`.
use Rattle.std.specs.Prelude.{◌≡◌, true}
use Rattle.std.specs.Str.{is_utf8}
use Rattle.bson_base.specs.Tree.{Tree, string, regular_expression, db_pointer, javascript_code, symbol, javascript_code_with_scope, raw}

-- so it has no fault; those of what is in it are not looked at, and it is not given by its bytes
abbrev pub HasTexts : Tree → Type 0
HasTexts (string t) = is_utf8 t ≡ true
HasTexts (regular_expression pattern options) = (is_utf8 pattern ≡ true) × (is_utf8 options ≡ true)
HasTexts (db_pointer namespace id) = is_utf8 namespace ≡ true
HasTexts (javascript_code t) = is_utf8 t ≡ true
HasTexts (symbol t) = is_utf8 t ≡ true
HasTexts (javascript_code_with_scope code scope) = is_utf8 code ≡ true
HasTexts (raw k b) = ⊥
HasTexts t = Unit {0}
