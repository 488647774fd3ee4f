-- What contracts see of JavaScript code with the entries of its scope. Source: the reserved names of MongoDB's crate bson, version 2.
use Rattle.std.specs.Prelude.{codes}
use Rattle.bson_kinds.specs.Text.{Utf8}
use Rattle.bson_kinds.specs.Piece.{made}
use Rattle.bson_values.specs.Marked.{Marked, MarkedEntries}
use Rattle.bson_values.specs.Value.{str, map, structure}
use Rattle.bson_laws.specs.Datum.{two}

-- the struct of the code and a map of the entries
abbrev pub scoped_datum : Utf8 → MarkedEntries → Marked
scoped_datum code es = structure (made (codes "$codeWithScope")) (two made (codes "$code") (str (made code)) (codes "$scope") (map es))
