-- What contracts see of leaves. Source: serde's data model.
use Rattle.std.specs.Prelude.{ℕ, ℤ, Bool, if◌then◌else◌, Option, Some, None}
use Rattle.bson_kinds.specs.Text.{Bytes}
use Rattle.bson_kinds.specs.Outcome.{◌>>=◌}
use Rattle.bson_rawdoc.specs.Node.{Node}
use Rattle.bson_kinds.specs.Piece.{Piece, made}
use Rattle.bson_values.specs.Cause.{out_of_range}
use Rattle.bson_values.specs.Marked.{Marked}
use Rattle.bson_values.specs.Value.{in_range, integer}
use Rattle.bson_laws.specs.Judged.{Reading, refused, judged}
use Rattle.bson_laws.specs.Leaves.{LeafKind, numbers}
use Rattle.bson_laws.specs.Taken.{null_of, text_of, bytes_of, character_of, buffer_of, borrow, as_text, as_byte, read_integer}
use Rattle.bson_met.specs.MetView.{integer_at}

-- a value, judged and taken as a text, as a byte string and so on
abbrev pub text_at : (borrows : Bool) → Node → Reading Piece
text_at borrows n = judged n >>= text_of borrows

abbrev pub bytes_at : Node → Reading Piece
bytes_at n = judged n >>= bytes_of

abbrev pub buffer_at : Node → Reading Bytes
buffer_at n = judged n >>= buffer_of

abbrev pub character_at : Node → Reading Marked
character_at n = judged n >>= character_of

abbrev pub null_at : Node → Reading (Unit {0})
null_at n = judged n >>= null_of

abbrev pub byte_at : Node → Reading ℕ
byte_at n = integer_at n >>= as_byte

-- bytes that are a text, borrowed and owned
abbrev pub borrowed_text : Piece → Reading Piece
borrowed_text p = borrow p >>= as_text

abbrev pub owned_text : Piece → Reading Piece
owned_text p = as_text (made p.bytes)

-- the number as a value of the leaf's type, where it is one of the type; a leaf that takes no numbers has none
abbrev pub number_as : LeafKind → ℤ → Option Marked
number_as (numbers type) n = if in_range type n then Some (integer type n) else None
number_as kind n = None

-- the same, refused where it is none; no reader asks it of a leaf that takes no numbers
abbrev pub number_at : LeafKind → ℤ → Reading Marked
number_at (numbers type) n = read_integer type n
number_at kind n = refused (out_of_range n)

-- the number that a value is, as a value of the leaf's type
abbrev pub reads_number : LeafKind → Node → Reading Marked
reads_number kind n = integer_at n >>= number_at kind
