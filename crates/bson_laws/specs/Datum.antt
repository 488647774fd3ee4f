-- A tree as a value of serde's data model, each extended value as the struct of a reserved name. Source: the reserved names of MongoDB's crate bson, version 2.
use Rattle.std.specs.Prelude.{zero, suc, pos, true, [], ◌∷◌, codes}
use Rattle.uuid.specs.Text.{hyphenated_text, lower}
use Rattle.bson_base.specs.Made.{digits, number_text, base64_text}
use Rattle.bson_base.specs.Sorted.{sorted}
use Rattle.bson_kinds.specs.Text.{Bytes, Utf8}
use Rattle.bson_base.specs.Tree as tree
use Rattle.bson_base.specs.Tree.{Tree, Pairs, no_pairs, pair, Trees, no_trees}
use Rattle.bson_values.specs.Value.{i32, i64, ValueOf, boolean, integer, double, str, bytes, unit, newtype, sequence, map, structure, mode, uuid_newtype, ItemsOf, no_items, item, EntriesOf, no_entries, entry, FieldsOf, no_field_values, field_value}

-- each text, name and byte string of the value is what the function gives for its bytes
module _ {T : Type 0} (text : Bytes → T) where
  -- one field, and two
  abbrev pub one : Utf8 → ValueOf T → FieldsOf T
  one key v = field_value (text key) v no_field_values

  abbrev pub two : Utf8 → ValueOf T → Utf8 → ValueOf T → FieldsOf T
  two key v other w = field_value (text key) v (one other w)

  -- a struct without a name
  abbrev pub nameless : FieldsOf T → ValueOf T
  nameless fs = structure (text []) fs

  -- the struct of a reserved name whose one field has the same name
  abbrev pub wrapped : Utf8 → ValueOf T → ValueOf T
  wrapped name v = structure (text name) (one name v)

  abbrev mutual
    -- the value that a tree is; a part that is given by its bytes, which no tree that is read and no sound tree has, would be unit
    pub datum : Tree → ValueOf T
    datum (tree.double bits) = double bits
    datum (tree.string t) = str (text t)
    datum (tree.document ps) = map (pair_data ps)
    datum (tree.array ts) = sequence (tree_data ts)
    datum (tree.binary zero b) = bytes (text b)
    datum (tree.binary (suc n) b) = wrapped (codes "$binary") (nameless (two (codes "base64") (str (text (base64_text b))) (codes "subType") (str (text (digits (suc n ∷ []))))))
    datum tree.undefined = wrapped (codes "$undefined") (boolean true)
    datum (tree.object_id id) = wrapped (codes "$oid") (str (text (digits id)))
    datum (tree.boolean b) = boolean b
    datum (tree.date_time n) = wrapped (codes "$date") (nameless (one (codes "$numberLong") (str (text (number_text n)))))
    datum tree.null = unit
    datum (tree.regular_expression pattern options) = wrapped (codes "$regularExpression") (nameless (two (codes "pattern") (str (text pattern)) (codes "options") (str (text options))))
    datum (tree.db_pointer namespace id) = wrapped (codes "$dbPointer") (nameless (two (codes "$ref") (str (text namespace)) (codes "$id") (nameless (one (codes "$oid") (str (text (digits id)))))))
    datum (tree.javascript_code t) = wrapped (codes "$code") (str (text t))
    datum (tree.symbol t) = wrapped (codes "$symbol") (str (text t))
    datum (tree.javascript_code_with_scope code scope) = structure (text (codes "$codeWithScope")) (two (codes "$code") (str (text code)) (codes "$scope") (map (pair_data scope)))
    datum (tree.int32 n) = integer i32 n
    datum (tree.timestamp time increment) = wrapped (codes "$timestamp") (nameless (two (codes "t") (integer i64 (pos time)) (codes "i") (integer i64 (pos increment))))
    datum (tree.int64 n) = integer i64 n
    datum (tree.decimal128 b) = structure (text (codes "$numberDecimal")) (one (codes "$numberDecimalBytes") (bytes (text b)))
    datum tree.max_key = wrapped (codes "$maxKey") (integer i32 (pos 1))
    datum tree.min_key = wrapped (codes "$minKey") (integer i32 (pos 1))
    datum (tree.raw k b) = unit

    -- the entries of a map that pairs are
    pub pair_data : Pairs → EntriesOf T
    pair_data no_pairs = no_entries
    pair_data (pair key t ps) = entry (str (text key)) (datum t) (pair_data ps)

    -- the items of a sequence that trees are
    pub tree_data : Trees → ItemsOf T
    tree_data no_trees = no_items
    tree_data (tree.tree t ts) = item (datum t) (tree_data ts)

  -- the value that a UUID is: its text in the readable form, its bytes in the compact one
  abbrev pub uuid_datum : Bytes → ValueOf T
  uuid_datum b = newtype (text uuid_newtype) (mode (str (text (hyphenated_text lower b))) (bytes (text b)))

-- texts, names and byte strings as they are
abbrev pub itself : Bytes → Utf8
itself b = b

abbrev mutual
  -- the tree with the options of its regular expressions in order, in scopes too
  pub sorted_tree : Tree → Tree
  sorted_tree (tree.document ps) = tree.document (sorted_pairs ps)
  sorted_tree (tree.array ts) = tree.array (sorted_trees ts)
  sorted_tree (tree.regular_expression pattern options) = tree.regular_expression pattern (sorted options)
  sorted_tree (tree.javascript_code_with_scope code scope) = tree.javascript_code_with_scope code (sorted_pairs scope)
  sorted_tree t = t

  pub sorted_pairs : Pairs → Pairs
  sorted_pairs no_pairs = no_pairs
  sorted_pairs (pair key t ps) = pair key (sorted_tree t) (sorted_pairs ps)

  pub sorted_trees : Trees → Trees
  sorted_trees no_trees = no_trees
  sorted_trees (tree.tree t ts) = tree.tree (sorted_tree t) (sorted_trees ts)
