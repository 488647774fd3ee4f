-- Values with texts as trees, where each ill-formed sequence in a text is replaced. Source: bsonspec.org, version 1.1, and `String::from_utf8_lossy`.
use Rattle.std.specs.Prelude.{◌≡◌, Option, Some, None, option_map, option_and_then, Result, Ok, Err, IsOk}
use Rattle.std.specs.Str.Lossy.{utf8_lossy}
use Rattle.bson_base.specs.BsonView.{tree_of}
use Rattle.bson_kinds.specs.Outcome.{result_map}
use Rattle.bson_base.specs.Sorted.{sorted}
use Rattle.bson_base.specs.Tree as tree
use Rattle.bson_base.specs.Tree.{Tree, no_pairs}
use Rattle.bson_base.specs.declared.bson.Bson.{Bson}
use Rattle.bson_rawdoc.specs.RawValue.{RawValue, string, regular_expression, db_pointer, javascript_code, symbol, javascript_code_with_scope}
use Rattle.bson_faults.specs.declared.raw.Error.{Error}
use Rattle.bson_faults.specs.declared.raw.Error.TheVariants.{NoMemory}

-- The value of a kind with texts, with the options of a regular expression in order, and without a scope; none at another kind.
abbrev pub lossy_tree : RawValue → Option Tree
lossy_tree (string t) = Some (tree.string (utf8_lossy t))
lossy_tree (regular_expression pattern options) = Some (tree.regular_expression (utf8_lossy pattern) (sorted (utf8_lossy options)))
lossy_tree (db_pointer namespace id) = Some (tree.db_pointer (utf8_lossy namespace) id)
lossy_tree (javascript_code t) = Some (tree.javascript_code (utf8_lossy t))
lossy_tree (symbol t) = Some (tree.symbol (utf8_lossy t))
lossy_tree (javascript_code_with_scope code scope) = Some (tree.javascript_code_with_scope (utf8_lossy code) no_pairs)
lossy_tree v = None

-- This is given for the value, or its fault, or memory ran out where it has no fault.
abbrev pub MendsAs : Result (Option Bson) Error → Result (Option RawValue) Error → Type 0
MendsAs (Ok o) due = result_map (option_and_then lossy_tree) due ≡ Ok (option_map tree_of o)
MendsAs (Err NoMemory) due = IsOk due
MendsAs (Err e) due = due ≡ Err e
