-- What contracts see of a `Regex`. Source: bsonspec.org, version 1.1, regular expressions.
use Rattle.bson_kinds.specs.Text.{Utf8}

-- its two texts (that the options are in order is an invariant of `Regex`)
pub record RegexTexts : Type 0 where
  pub pattern : Utf8
  pub options : Utf8
