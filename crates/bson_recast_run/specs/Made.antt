-- A document of rows. Source: this library's own programs.
use Rattle.std.specs.Prelude.{ℕ, zero, suc, ◌++◌, true, pos, codes}
use Rattle.std.specs.Fmt.{decimal}
use Rattle.bson_kinds.specs.Text.{Utf8}
use Rattle.bson_base.specs.Tree.{Tree, document, array, string, boolean, int32, Pairs, no_pairs, pair, Trees, no_trees, tree}

-- the name of the row of a number with these digits
abbrev pub row_name : (digits : Utf8) → Utf8
row_name digits = codes "row" ++ digits

-- the fields of the row of a number: the number, its name, and true
abbrev pub row_fields : ℕ → Pairs
row_fields i = pair (codes "n") (int32 (pos i)) (pair (codes "name") (string (row_name (decimal i))) (pair (codes "ok") (boolean true) no_pairs))

-- so many rows, each with the fields of its number, from this number on
abbrev pub rows_from : (fields : ℕ → Pairs) → (first count : ℕ) → Trees
rows_from fields first zero = no_trees
rows_from fields first (suc count) = tree (document (fields first)) (rows_from fields (suc first) count)

-- a document of rows: one field, the array of so many rows from 0 on
abbrev pub rows_document : (fields : ℕ → Pairs) → (count : ℕ) → Tree
rows_document fields count = document (pair (codes "rows") (array (rows_from fields 0 count)) no_pairs)

-- the document of so many rows that is made
abbrev pub made : (count : ℕ) → Tree
made count = rows_document row_fields count
