-- The document that a text stands for. Source: MongoDB's extended JSON, version 2, over RFC 8259.
use Rattle.std.specs.Prelude.{ℕ, nat_le, if◌then◌else◌, Option, option_and_then, Ok, Err}
use Rattle.json.specs.Json.{Json, value, if_last}
use Rattle.json.specs.Lex.{tokens}
use Rattle.bson_kinds.specs.Outcome.{◌>>=◌}
use Rattle.bson_kinds.specs.Text.{Utf8}
use Rattle.bson_base.specs.Sound.{max_levels}
use Rattle.bson_base.specs.Tree.{Tree, document, Pairs, depth}
use Rattle.bson_values.specs.Refusal.{here}
use Rattle.bson_json_laws.specs.Read.{read}
use Rattle.bson_json_laws.specs.Unread.{Reading, or_refused, not_json, no_document, too_deep}

-- how deep objects and arrays may nest: twice for each of 200 levels, since a scope stands in an object of its own, and three times for the innermost value
abbrev pub most_nesting : ℕ
most_nesting = 403

-- the JSON value that a text is, where it nests no deeper
abbrev pub json_of_text : Utf8 → Option Json
json_of_text text = option_and_then (λ p. if_last p.0 p.1) (value most_nesting (tokens text))

-- a document of at most 200 levels
abbrev pub only_document : Tree → Reading Pairs
only_document (document ps) = if nat_le (depth (document ps)) max_levels then Ok ps else Err (here too_deep)
only_document t = Err (here no_document)

-- the document that a JSON value stands for, and a text
abbrev pub document_of_json : Json → Reading Pairs
document_of_json j = read j >>= only_document

abbrev pub document_of_text : Utf8 → Reading Pairs
document_of_text text = or_refused not_json (json_of_text text) >>= document_of_json
