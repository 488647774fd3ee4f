-- Why a text stands for no document. Source: MongoDB's extended JSON, version 2, "Parsers", and RFC 8259, section 9 (limits of an implementation).
use Rattle.std.specs.Prelude.{Option, Some, None, Result, Ok, Err}
use Rattle.bson_values.specs.Refusal.{Refusal, here}
use Rattle.bson_values.specs.declared.wrapper.Wrapper.{Wrapper}

pub data Unread : Type 0 where
  -- the text is not JSON that nests at most 403 deep
  not_json : Unread
  -- an object has this wrapper key first of all, and has other keys too, or a value that is not of its form
  bad_wrapper : Wrapper → Unread
  -- an object has this key before
  key_twice : Unread
  -- a number is no integer of 64 bits, and too large for a double
  too_large : Unread
  -- the value is no document
  no_document : Unread
  -- a document nests deeper than 200 levels
  too_deep : Unread

-- what is read, or a refusal with its path
abbrev pub Reading : Type 0 → Type 0
Reading A = Result A (Refusal Unread)

-- a value, or this refusal of it where there is none
abbrev pub or_refused : {A : Type 0} → Unread → Option A → Reading A
or_refused f (Some x) = Ok x
or_refused f None = Err (here f)
