-- A file of documents: their bytes, one behind another. Source: bsonspec.org, version 1.1, `document`.
use Rattle.std.specs.Prelude.{List, [], ◌∷◌, ◌++◌, None, Result}
use Rattle.bson_kinds.specs.Outcome.{◌>>=◌}
use Rattle.bson_kinds.specs.Text.{Bytes}
use Rattle.bson_base.specs.Tree as tree
use Rattle.bson_base.specs.Tree.{Pairs, Trees, no_trees, enc}
use Rattle.bson_rawdoc.specs.Cut.{Cut}
use Rattle.bson_rawdoc.specs.DocumentTree.{document_pairs}
use Rattle.bson_rawdoc.specs.Envelope.{envelope}
use Rattle.bson_faults.specs.declared.raw.Error.{Error}

-- the pairs of the document that the bytes are, or the first fault in them
abbrev pub piece_pairs : Bytes → Result Pairs Error
piece_pairs piece = envelope piece >>= document_pairs

-- the bytes of all documents, one behind another
abbrev pub encodings : Trees → Bytes
encodings no_trees = []
encodings (tree.tree t ts) = enc t ++ encodings ts

-- the bytes of each document
abbrev pub each_encoding : Trees → List Bytes
each_encoding no_trees = []
each_encoding (tree.tree t ts) = enc t ∷ each_encoding ts

-- a whole file, cut into the bytes of these documents
abbrev pub cut_into : Trees → Cut
cut_into ts = record { pieces = each_encoding ts; broken = None }
