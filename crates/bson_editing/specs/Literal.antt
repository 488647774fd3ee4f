-- The values that an edit can put where one is missing. Source: this library's own notation of edits.
use Rattle.std.specs.Prelude.{string_bytes}
use Rattle.bson_base.specs.Tree.{Tree, null, boolean, int32, int64, string, array, no_trees, document, no_pairs}
use Rattle.bson_editing.specs.declared.literal.Literal.{Literal}
use Rattle.bson_editing.specs.declared.literal.Literal.TheVariants as literals

-- the value that it stands for
abbrev pub tree_of : Literal → Tree
tree_of literals.Null = null
tree_of (literals.Boolean b) = boolean b
tree_of (literals.Int32 n) = int32 n
tree_of (literals.Int64 n) = int64 n
tree_of (literals.Text t) = string (string_bytes t)
tree_of literals.EmptyArray = array no_trees
tree_of literals.EmptyDocument = document no_pairs
