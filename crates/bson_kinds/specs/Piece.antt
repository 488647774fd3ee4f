-- Texts and byte strings, and whether they are borrowed from the input. Source: serde's data model, borrowed and owned strings.
use Rattle.std.specs.Prelude.{Bool, true, false}
use Rattle.bson_kinds.specs.Text.{Bytes}

-- a text or a byte string, and whether it is borrowed from the input; in a node, whether it is a part of the input, so that it can be borrowed
pub record Piece : Type 0 where
  pub bytes : Bytes
  pub in_input : Bool

-- a part of the input
abbrev pub borrowed : Bytes → Piece
borrowed bytes = record { bytes = bytes; in_input = true }

-- one that is owned
abbrev pub made : Bytes → Piece
made bytes = record { bytes = bytes; in_input = false }
