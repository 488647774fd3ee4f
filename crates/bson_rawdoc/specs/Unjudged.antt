-- The values that have texts, before their texts are judged: a text is any bytes here. Source: bsonspec.org, version 1.1, `string`, `cstring` and `code_w_s`.
use Rattle.std.specs.Prelude.{◌-◌, length, take, drop, if◌then◌else◌, Option, Some, None, Result, Ok, Err}
use Rattle.bson_kinds.specs.Text.{Bytes}
use Rattle.bson_kinds.specs.Outcome.{◌>>=◌, result_map}
use Rattle.bson_kinds.specs.declared.element_type.ElementType.TheVariants as kinds
use Rattle.bson_kinds.specs.declared.element_type.ElementType.{ElementType}
use Rattle.bson_rawdoc.specs.Envelope.{is_closed, inside}
use Rattle.bson_rawdoc.specs.Extent.{two_texts_in}
use Rattle.bson_rawdoc.specs.Numbers.{int32_in}
use Rattle.bson_rawdoc.specs.RawValue.{RawValue, string, regular_expression, db_pointer, javascript_code, symbol, javascript_code_with_scope, closed_in, scoped_parts}
use Rattle.bson_faults.specs.declared.raw.Error.{Error}
use Rattle.bson_faults.specs.declared.raw.Error.TheVariants.{BadExtent, TextUnclosed}

-- what is between the length of a text and the zero behind it
abbrev pub text_in : Bytes → Result Bytes Error
text_in bytes = if is_closed bytes then Ok (inside bytes) else Err TextUnclosed

-- a pattern and its options (a regular expression that has its extent has both)
abbrev pub regex_of : Option (Bytes × Bytes) → Result RawValue Error
regex_of None = Err BadExtent
regex_of (Some texts) = Ok (regular_expression texts.0 texts.1)

-- a text, and the twelve bytes of an ObjectId behind it
abbrev pub db_pointer_in : Bytes → Result RawValue Error
db_pointer_in bytes = result_map (λ namespace. db_pointer namespace (drop (length bytes - 12) bytes)) (text_in (take (length bytes - 12) bytes))

abbrev pub code_and_scope : Bytes → Bytes → Result RawValue Error
code_and_scope text scope = text_in text >>= λ code. result_map (javascript_code_with_scope code) (closed_in scope)

-- behind the total length a text, and then a document
abbrev pub scoped_code_in : Bytes → Result RawValue Error
scoped_code_in bytes = scoped_parts (int32_in (drop 4 bytes)) (drop 4 bytes) >>= λ p. code_and_scope p.0 p.1

-- The value of a kind with texts that has these bytes, which are as many as its extent, or its first fault but for texts that are not UTF-8; none at another
-- kind.
abbrev pub unjudged_in : ElementType → Bytes → Result (Option RawValue) Error
unjudged_in kinds.String bytes = result_map (λ t. Some (string t)) (text_in bytes)
unjudged_in kinds.RegularExpression bytes = result_map Some (regex_of (two_texts_in bytes))
unjudged_in kinds.DbPointer bytes = result_map Some (db_pointer_in bytes)
unjudged_in kinds.JavaScriptCode bytes = result_map (λ t. Some (javascript_code t)) (text_in bytes)
unjudged_in kinds.Symbol bytes = result_map (λ t. Some (symbol t)) (text_in bytes)
unjudged_in kinds.JavaScriptCodeWithScope bytes = result_map Some (scoped_code_in bytes)
unjudged_in k bytes = Ok None

-- the scope of a code with scope that has no fault but that its code is not UTF-8
abbrev pub scope_of : Option RawValue → Option Bytes
scope_of (Some (javascript_code_with_scope code scope)) = Some scope
scope_of v = None

abbrev pub scope_in : ElementType → Bytes → Option Bytes
scope_in k bytes = elim (unjudged_in k bytes) [ Ok v ↦ scope_of v | Err e ↦ None ]
