-- Texts and byte strings with their marks: whether each is borrowed. Source: serde's data model, borrowed and owned strings.
use Rattle.std.specs.Prelude.{Bool, true, false}
use Rattle.bson_kinds.specs.Piece.{Piece}
use Rattle.bson_values.specs.ByteStrView.{bytes_view}
use Rattle.bson_values.specs.TextView.{text_view}
use Rattle.bson_values.specs.declared.byte_str.ByteStr as byte_str
use Rattle.bson_values.specs.declared.byte_str.ByteStr.TheVariants as byte_strs
use Rattle.bson_values.specs.declared.text.Text as text
use Rattle.bson_values.specs.declared.text.Text.TheVariants as texts

abbrev pub text_borrowed : text.Text → Bool
text_borrowed (texts.Borrowed s) = true
text_borrowed (texts.Owned s) = false

abbrev pub bytes_borrowed : byte_str.ByteStr → Bool
bytes_borrowed (byte_strs.Borrowed s) = true
bytes_borrowed (byte_strs.Owned v) = false

abbrev pub text_piece : text.Text → Piece
text_piece t = record { bytes = text_view t; in_input = text_borrowed t }

abbrev pub bytes_piece : byte_str.ByteStr → Piece
bytes_piece b = record { bytes = bytes_view b; in_input = bytes_borrowed b }
