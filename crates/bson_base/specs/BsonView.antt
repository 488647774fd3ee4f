-- What contracts see of the owned values: a `Bson` as a tree, a `Document` as its pairs, the types of their parts as the trees that they are.
-- Source: bsonspec.org, version 1.1.
use Rattle.std.specs.Prelude.{List, [], ◌∷◌, string_bytes}
pub use Rattle.bson_key_map.specs.declared.pair.Pair.{Pair}
pub use Rattle.bson_key_map.specs.Keys.{Key}
use Rattle.bson_base.specs.Instant.{millis}
use Rattle.bson_base.specs.Tree.{Tree, double, string, document, array, binary, undefined, object_id, boolean, date_time, null, regular_expression, db_pointer, javascript_code, symbol, javascript_code_with_scope, int32, timestamp, int64, decimal128, max_key, min_key, Pairs, no_pairs, pair, Trees, no_trees, tree}
use Rattle.bson_base.specs.declared.binary.Binary.{Binary}
use Rattle.bson_base.specs.declared.bson.Bson as bson
use Rattle.bson_base.specs.declared.bson.Bson.{Bson, Row_of-Bson, end_of-Bson, more_of-Bson}
use Rattle.bson_base.specs.RegexView.{RegexTexts}
use Rattle.bson_base.specs.declared.code_with_scope.JavaScriptCodeWithScope.{JavaScriptCodeWithScope}
use Rattle.bson_base.specs.declared.db_pointer.DbPointer.{DbPointer}
use Rattle.bson_base.specs.declared.document.Document.{Document}

-- a binary
abbrev pub binary_of : Binary → Tree
binary_of b = binary b.subtype.0 b.bytes.items

abbrev mutual
  pub tree_of : Bson → Tree
  tree_of (bson.Double d) = double d.0
  tree_of (bson.String t) = string (string_bytes t)
  tree_of (bson.Array' shape row) = array (row_of row)
  tree_of (bson.Document' keys row) = document (pairs_row keys row)
  tree_of (bson.Boolean b) = boolean b
  tree_of bson.Null = null
  tree_of (bson.RegularExpression r) = regular_expression r.pattern r.options
  tree_of (bson.JavaScriptCode t) = javascript_code (string_bytes t)
  tree_of (bson.JavaScriptCodeWithScope' code keys row) = javascript_code_with_scope (string_bytes code) (pairs_row keys row)
  tree_of (bson.Int32 n) = int32 n
  tree_of (bson.Int64 n) = int64 n
  tree_of (bson.Timestamp t) = timestamp t.time t.increment
  tree_of (bson.Binary b) = binary_of b
  tree_of (bson.ObjectId id) = object_id id.0
  tree_of (bson.DateTime d) = date_time (millis d)
  tree_of (bson.Symbol t) = symbol (string_bytes t)
  tree_of (bson.Decimal128 d) = decimal128 d.0
  tree_of bson.Undefined = undefined
  tree_of bson.MaxKey = max_key
  tree_of bson.MinKey = min_key
  tree_of (bson.DbPointer p) = db_pointer (string_bytes p.namespace) p.id.0

  pub row_of : {m : _} → Row_of-Bson m → Trees
  row_of end_of-Bson = no_trees
  row_of (more_of-Bson b rest) = tree (tree_of b) (row_of rest)

  -- each key with its value. A document has as many keys as values, so the second row is never reached.
  pub pairs_row : {m : _} → List (Key × Unit {0}) → Row_of-Bson m → Pairs
  pairs_row [] row = no_pairs
  pairs_row (k ∷ ks) end_of-Bson = no_pairs
  pairs_row (k ∷ ks) (more_of-Bson b rest) = pair (string_bytes k.0) (tree_of b) (pairs_row ks rest)

-- the values of a `Vec` or a slice
abbrev pub trees_of : List Bson → Trees
trees_of [] = no_trees
trees_of (b ∷ bs) = tree (tree_of b) (trees_of bs)

-- the pairs of a `Vec` or a slice
abbrev pub listed_pairs : List (Pair Bson) → Pairs
listed_pairs [] = no_pairs
listed_pairs (p ∷ ps) = pair (string_bytes p.key) (tree_of p.value) (listed_pairs ps)

-- the pairs of a document
abbrev pub pairs_of : Document → Pairs
pairs_of d = listed_pairs d.0

-- code with its scope
abbrev pub scoped_of : JavaScriptCodeWithScope → Tree
scoped_of c = javascript_code_with_scope (string_bytes c.code) (pairs_of c.scope)

-- a reference to a document
abbrev pub pointer_of : DbPointer → Tree
pointer_of p = db_pointer (string_bytes p.namespace) p.id.0

-- a regular expression
abbrev pub regex_of : RegexTexts → Tree
regex_of r = regular_expression r.pattern r.options
