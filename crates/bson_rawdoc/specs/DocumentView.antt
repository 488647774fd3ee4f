-- What contracts see of a `RawDocument` and of a `RawArray`. Source: this library's own types.
use Rattle.bson_kinds.specs.Text.{Bytes}
use Rattle.bson_rawdoc.specs.declared.document.RawDocument.{RawDocument}
use Rattle.bson_rawdoc.specs.declared.array.RawArray.{RawArray}

-- its bytes
abbrev pub document_bytes : RawDocument → Bytes
document_bytes d = d.bytes.now

abbrev pub array_bytes : RawArray → Bytes
array_bytes a = document_bytes a.document
