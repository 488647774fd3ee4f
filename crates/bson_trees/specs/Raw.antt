-- What contracts see of documents and arrays in their bytes. Source: this library's own types.
use Rattle.bson_kinds.specs.Outcome.{◌>>=◌}
use Rattle.bson_rawdoc.specs.Node.{Node}
use Rattle.bson_kinds.specs.Piece.{Piece}
use Rattle.bson_values.specs.Refusal.{under}
use Rattle.bson_laws.specs.Judged.{Reading, judged, scope_key}
use Rattle.bson_laws.specs.ReadsRaw.{raw_document_of, raw_array_of}

-- the bytes of the document or the array that a value is, and those of a scope
abbrev pub raw_document_at : Node → Reading Piece
raw_document_at n = judged n >>= raw_document_of

abbrev pub raw_array_at : Node → Reading Piece
raw_array_at n = judged n >>= raw_array_of

abbrev pub raw_scope_at : Node → Reading Piece
raw_scope_at n = under scope_key (raw_document_at n)
