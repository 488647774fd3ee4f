-- The shape that bytes from outside are the notation of. Source: this library's own calls with buffers.
use Rattle.std.specs.Prelude.{◌≡◌, ◌⊎◌, ℕ, if◌then◌else◌, codes, false, Result, Ok, Err}
use Rattle.std.specs.Str.{is_utf8}
use Rattle.std.specs.Str.Lossy.{utf8_valid_len}
use Rattle.bson_kinds.specs.Text.{Bytes, Utf8}
use Rattle.bson_shape.specs.Form.{Form}
use Rattle.bson_shape.specs.Fronts.{IsNotNotationAt, IsRefusedAt}
use Rattle.bson_shape.specs.Machine.{Refusal, Not_notation, Refused, parsed}
use Rattle.bson_shape.specs.Makers.{IsShape}
use Rattle.bson_shape.specs.Notation.{text}
use Rattle.bson_shape.specs.Refusals.{refusal_text}
use Rattle.bson_shape.specs.declared.error.ParseError.TheVariants as errors
use Rattle.bson_shape.specs.declared.error.ShapeError.{ShapeError}

-- why bytes are no shape: where, counted in bytes from 0, and what is said of it
pub record NoShape : Type 0 where
  pub place : ℕ
  pub said : Utf8

-- what is said of bytes that are no UTF-8
abbrev pub not_utf8 : Utf8
not_utf8 = codes "not UTF-8"

-- bytes that are no UTF-8: the place is the length of their longest front that is
abbrev pub no_text : Bytes → NoShape
no_text bytes = record { place = utf8_valid_len bytes; said = not_utf8 }

abbrev pub no_shape : Refusal → NoShape
no_shape (Not_notation place) = record { place = place; said = refusal_text (errors.NotNotation place) }
no_shape (Refused r) = record { place = r.place; said = refusal_text (errors.Refused r.place r.cause) }

abbrev pub named : Result Form Refusal → Result Form NoShape
named (Ok s) = Ok s
named (Err r) = Err (no_shape r)

-- the shape that the bytes are the notation of, or why they are none
abbrev pub shape_of_bytes : Bytes → Result Form NoShape
shape_of_bytes bytes = if is_utf8 bytes then named (parsed bytes) else Err (no_text bytes)

-- The bytes are the notation of this shape.
pub record DenotesShape (bytes : Bytes) (shape : Form) : Type 0 where
  pub notation : bytes ≡ text shape
  pub made : IsShape shape
  pub asked : shape_of_bytes bytes ≡ Ok shape

-- The bytes are no UTF-8.
pub record IsNoText (bytes : Bytes) (n : NoShape) : Type 0 where
  pub invalid : is_utf8 bytes ≡ false
  pub says : n ≡ no_text bytes

-- The bytes are the notation of no shape, as the longest front shows with which some notation begins.
pub record IsNoNotation (bytes : Bytes) (n : NoShape) : Type 0 where
  pub stops : IsNotNotationAt bytes n.place
  pub says : n.said ≡ refusal_text (errors.NotNotation n.place)

-- A maker refuses a form of the bytes, for this cause.
pub record IsRefusedForm (bytes : Bytes) (n : NoShape) : Type 0 where
  pub cause : ShapeError
  pub refuses : IsRefusedAt bytes n.place cause
  pub says : n.said ≡ refusal_text (errors.Refused n.place cause)

-- The bytes are the notation of no shape, for this reason.
pub record DenotesNone (bytes : Bytes) (n : NoShape) : Type 0 where
  pub why : IsNoText bytes n ⊎ IsNoNotation bytes n ⊎ IsRefusedForm bytes n
  pub asked : shape_of_bytes bytes ≡ Err n
