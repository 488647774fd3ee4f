-- What contracts see of a document and of an array in their bytes: the bytes, whoever owns them. Source: this library's own types.
use Rattle.bson_kinds.specs.Text.{Bytes}
use Rattle.bson_rawdoc.specs.DocumentView.{document_bytes, array_bytes}
use Rattle.bson_datum.specs.declared.raw_doc.RawDoc as raw_doc
use Rattle.bson_datum.specs.declared.raw_doc.RawDoc.TheVariants as raw_docs
use Rattle.bson_datum.specs.declared.raw_arr.RawArr as raw_arr
use Rattle.bson_datum.specs.declared.raw_arr.RawArr.TheVariants as raw_arrs

abbrev pub raw_document_view : raw_doc.RawDoc → Bytes
raw_document_view (raw_docs.Borrowed d) = document_bytes d
raw_document_view (raw_docs.Owned bs) = bs

abbrev pub raw_array_view : raw_arr.RawArr → Bytes
raw_array_view (raw_arrs.Borrowed a) = array_bytes a
raw_array_view (raw_arrs.Owned a) = a.document
