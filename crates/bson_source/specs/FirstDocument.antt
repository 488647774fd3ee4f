-- The first document of bytes, by the length that it announces. Source: bsonspec.org, version 1.1, `document`.
use Rattle.std.specs.Prelude.{ℕ, ℤ, pos, length, take, nat_lt, if◌then◌else◌, Option, Some, None, Result, Ok, Err}
use Rattle.bson_kinds.specs.Text.{Bytes}
use Rattle.bson_values.specs.Cause.{too_small}
use Rattle.bson_values.specs.Refusal.{ReadFault, Failure, bare, end_of_stream, unreadable}
use Rattle.bson_rawdoc.specs.Numbers.{int32_in}

-- the number of bytes of a document that an int32 announces, which is at least five
abbrev pub document_length : ℤ → Option ℕ
document_length (pos n) = if nat_lt n 5 then None else Some n
document_length n = None

-- what the first four bytes announce
abbrev pub announced : Bytes → Option ℕ
announced b = document_length (int32_in b)

-- so many bytes, or the four of a length that announces none
abbrev pub or_four : Option ℕ → ℕ
or_four None = 4
or_four (Some n) = n

-- How many bytes are to be taken, by those that came: the four of the length, and then as many as they announce.
abbrev pub bytes_needed : Bytes → ℕ
bytes_needed b = if nat_lt (length b) 4 then 4 else or_four (announced b)

-- the bytes of a document of this length, or all where they are fewer
abbrev pub of_length : Bytes → Option ℕ → Result Bytes (Failure ReadFault)
of_length b None = Err (bare (unreadable too_small))
of_length b (Some n) = Ok (take n b)

-- The first document: the bytes up to the length that the first four announce, or all where they are fewer.
abbrev pub first_document : Bytes → Result Bytes (Failure ReadFault)
first_document b = if nat_lt (length b) 4 then Err (bare end_of_stream) else of_length b (announced b)
