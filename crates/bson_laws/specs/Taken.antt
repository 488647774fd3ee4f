-- What a judged value is taken as. Source: serde's data model.
use Rattle.std.specs.Prelude.{unsigned_abs, ℕ, suc, List, [], ◌∷◌, Bool, true, false, if◌then◌else◌, ℤ, Option, Some, None, Ok}
use Rattle.std.specs.Str.{is_utf8, chars}
use Rattle.bson_kinds.specs.Text.{Bytes}
use Rattle.bson_kinds.specs.Outcome.{◌>>=◌, result_map}
use Rattle.bson_rawdoc.specs.Node.{Node, double, string, document, array, bytes, boolean, null, int32, int64, extended, object_id, Nodes, ended, faulty, then_node, kind_of}
use Rattle.bson_kinds.specs.Piece.{Piece, made}
use Rattle.bson_values.specs.Value as value
use Rattle.bson_values.specs.Value.{IntegerType, u8, in_range}
use Rattle.bson_values.specs.Marked.{Marked}
use Rattle.bson_values.specs.Cause.{raw, invalid_type, out_of_range, not_one_char, not_utf8, not_borrowed}
use Rattle.bson_values.specs.Refusal.{under_index}
use Rattle.bson_laws.specs.Views.{one_character}
use Rattle.bson_laws.specs.Judged.{Reading, refused, judged}

-- ---- kinds that are taken as they are

abbrev pub boolean_of : Node → Reading Bool
boolean_of (boolean b) = Ok b
boolean_of n = refused (invalid_type (kind_of n))

abbrev pub integer_of : Node → Reading ℤ
integer_of (int32 n) = Ok n
integer_of (int64 n) = Ok n
integer_of n = refused (invalid_type (kind_of n))

abbrev pub double_of : Node → Reading Bytes
double_of (double bits) = Ok bits
double_of n = refused (invalid_type (kind_of n))

abbrev pub null_of : Node → Reading (Unit {0})
null_of null = Ok tt
null_of n = refused (invalid_type (kind_of n))

-- the elements of a document, or of the document that a value is opened to
abbrev pub document_of : Node → Reading Nodes
document_of (document slice ns) = Ok ns
document_of (extended x ns) = Ok ns
document_of n = refused (invalid_type (kind_of n))

-- the elements of an array
abbrev pub array_of : Node → Reading Nodes
array_of (array slice ns) = Ok ns
array_of n = refused (invalid_type (kind_of n))

-- ---- texts and byte strings

-- a binary of subtype 0 at a leaf other than `bytes` and `rawbson`: under a mark it is not borrowed
abbrev pub owned_under_mark : (under_mark : Bool) → Piece → Piece
owned_under_mark under_mark b = if under_mark then made b.bytes else b

-- the characters of a text
abbrev pub characters_of : Piece → List ℕ
characters_of t = chars t.bytes

-- a part of the input, which alone can be borrowed
abbrev pub borrow : Piece → Reading Piece
borrow p = if p.in_input then Ok p else refused not_borrowed

abbrev pub borrow_or_own : (borrows : Bool) → Piece → Reading Piece
borrow_or_own true p = borrow p
borrow_or_own false p = Ok (made p.bytes)

-- bytes that are a text
abbrev pub as_text : Piece → Reading Piece
as_text p = if is_utf8 p.bytes then Ok p else refused not_utf8

-- a text, or the bytes of a binary of subtype 0 that are UTF-8; `NotBorrowed` comes before `NotUtf8`
abbrev pub text_of : (borrows : Bool) → Node → Reading Piece
text_of borrows (string t) = borrow_or_own borrows t
text_of borrows (bytes u b) = borrow_or_own borrows (owned_under_mark u b) >>= as_text
text_of borrows n = refused (invalid_type (kind_of n))

-- the bytes of a binary of subtype 0, of a text, of an ObjectId, borrowed
abbrev pub bytes_of : Node → Reading Piece
bytes_of (bytes u b) = borrow b
bytes_of (string t) = borrow t
bytes_of (extended (object_id id) ns) = borrow id
bytes_of n = refused (invalid_type (kind_of n))

-- ---- numbers and characters

-- the number as a value of an integer type, where it is one of the type
abbrev pub read_integer : IntegerType → ℤ → Reading Marked
read_integer type n = if in_range type n then Ok (value.integer type n) else refused (out_of_range n)

abbrev pub read_character : Option ℕ → Reading Marked
read_character (Some c) = Ok (value.character c)
read_character None = refused not_one_char

abbrev pub character_of : Node → Reading Marked
character_of (string t) = read_character (one_character (characters_of t))
character_of n = refused (invalid_type (kind_of n))

-- ---- bytes that may be given as numbers

-- a number as a byte, where it is one
abbrev pub as_byte : ℤ → Reading ℕ
as_byte n = if in_range u8 n then Ok (unsigned_abs n) else refused (out_of_range n)

-- the bytes that the elements of an array from this index on are, up to the fault that ends their list
abbrev pub reads_bytes : ℕ → Nodes → Reading Bytes
reads_bytes i ended = Ok []
reads_bytes i (faulty e) = refused (raw e)
reads_bytes i (then_node key n ns) = under_index i (judged n >>= integer_of >>= as_byte) >>= λ b. result_map (λ bs. b ∷ bs) (reads_bytes (suc i) ns)

-- the bytes of a binary of subtype 0, of a text, of an array of numbers
abbrev pub buffer_of : Node → Reading Bytes
buffer_of (bytes u b) = Ok b.bytes
buffer_of (string t) = Ok t.bytes
buffer_of (array slice ns) = reads_bytes 0 ns
buffer_of n = refused (invalid_type (kind_of n))
