-- What contracts see of an `Unjudged`. Source: this library's own types.
use Rattle.bson_rawdoc.specs.RawValue as raw
use Rattle.bson_rawdoc.specs.DocumentView.{document_bytes}
use Rattle.bson_rawdoc.specs.declared.unjudged.Unjudged.{Unjudged}
use Rattle.bson_rawdoc.specs.declared.unjudged.Unjudged.TheVariants.{String, RegularExpression, DbPointer, JavaScriptCode, Symbol, JavaScriptCodeWithScope}

-- the value whose texts it borrows
abbrev pub unjudged_value : Unjudged → raw.RawValue
unjudged_value (String t) = raw.string t.now
unjudged_value (RegularExpression pattern options) = raw.regular_expression pattern.now options.now
unjudged_value (DbPointer namespace id) = raw.db_pointer namespace.now id.0
unjudged_value (JavaScriptCode t) = raw.javascript_code t.now
unjudged_value (Symbol t) = raw.symbol t.now
unjudged_value (JavaScriptCodeWithScope code scope) = raw.javascript_code_with_scope code.now (document_bytes scope)
