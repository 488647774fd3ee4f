-- What contracts see of the document or array around an element. Source: this library's own types.
use Rattle.bson_rawdoc.specs.DocumentView.{document_bytes}
use Rattle.bson_rawdoc.specs.Walk.{walk}
use Rattle.bson_editing.specs.Edited as edits
use Rattle.bson_editing.specs.declared.around.Around.{Around}

abbrev pub around_of : Around → edits.Around
around_of a = record { array = a.array; levels = a.levels; elements = walk (document_bytes a.document) }
