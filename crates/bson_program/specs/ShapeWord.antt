-- A word of a command line as the notation of a shape, and the line that refuses one that is none. Source: this library's own programs.
use Rattle.std.specs.Prelude.{◌≡◌, ◌⊎◌, ℕ, [], ◌∷◌, ◌++◌, codes, Option, Some, None, Result, Ok, Err, string_bytes, String}
use Rattle.std.specs.Fmt.{decimal}
use Rattle.std.specs.declared.alloc.Global.{Global}
use Rattle.bson_kinds.specs.Text.{Utf8}
use Rattle.bson_shape.specs.Form.{Form}
use Rattle.bson_shape.specs.Fronts.{IsNotNotationAt, IsRefusedAt}
use Rattle.bson_shape.specs.Machine.{Refusal, Not_notation, Refused, parsed}
use Rattle.bson_shape.specs.Makers.{IsShape}
use Rattle.bson_shape.specs.Notation.{text}
use Rattle.bson_shape.specs.Refusals.{refusal_text}
use Rattle.bson_shape.specs.declared.error.ParseError.{ParseError}
use Rattle.bson_shape.specs.declared.error.ParseError.TheVariants as errors
use Rattle.bson_shape.specs.declared.error.ShapeError.{ShapeError}

abbrev pub newline : Utf8
newline = 10 ∷ []

-- the line for a shape word that is refused at a place
abbrev pub line_at : ℕ → ParseError → Utf8
line_at place e = codes "shape refused at " ++ (decimal place ++ (codes ": " ++ (refusal_text e ++ newline)))

-- the line for an error of the parser; none where memory ran out
abbrev pub line_for : ParseError → Option Utf8
line_for (errors.NotNotation place) = Some (line_at place (errors.NotNotation place))
line_for (errors.Refused place cause) = Some (line_at place (errors.Refused place cause))
line_for errors.NoMemory = None

abbrev pub refusal_line : Refusal → Utf8
refusal_line (Not_notation place) = line_at place (errors.NotNotation place)
refusal_line (Refused r) = line_at r.place (errors.Refused r.place r.cause)

abbrev pub or_line : Result Form Refusal → Result Form Utf8
or_line (Ok s) = Ok s
or_line (Err r) = Err (refusal_line r)

-- the shape that a word is the notation of, or the line that refuses the word
abbrev pub shape_of : (word : Utf8) → Result Form Utf8
shape_of word = or_line (parsed word)

-- The word is the notation of this shape.
pub record IsNotation (word : Utf8) (shape : Form) : Type 0 where
  pub notation : word ≡ text shape
  pub made : IsShape shape

-- The longest front of the word with which some notation begins ends at this place, and no maker refuses in it; the line tells this.
pub record IsNoNotation (word line : Utf8) : Type 0 where
  pub place : ℕ
  pub stops : IsNotNotationAt word place
  pub says : line ≡ line_at place (errors.NotNotation place)

-- A maker refuses a form of the word, for this cause.
pub record IsRefusedForm (word line : Utf8) : Type 0 where
  pub place : ℕ
  pub cause : ShapeError
  pub refuses : IsRefusedAt word place cause
  pub says : line ≡ line_at place (errors.Refused place cause)

-- The line tells why the word is the notation of no shape.
abbrev pub RefusesWord : (word line : Utf8) → Type 0
RefusesWord word line = IsNoNotation word line ⊎ IsRefusedForm word line

-- the shape that a word is the notation of, or the line that refuses the word
abbrev pub IsShapeOf : (word : Utf8) → Result Form (String Global) → Type 0
IsShapeOf word (Ok s) = IsNotation word s × (shape_of word ≡ Ok s)
IsShapeOf word (Err line) = RefusesWord word (string_bytes line) × (shape_of word ≡ Err (string_bytes line))
