-- What the words ask for of a program that takes two plain shapes, an old one and a new one. Source: this library's own programs.
use Rattle.std.specs.Prelude.{◌≡◌, ◌≢◌, ◌⊎◌, ℕ, List, [], ◌∷◌, if◌then◌else◌, Result, Ok, Err, String, string_bytes}
use Rattle.std.specs.declared.alloc.Global.{Global}
use Rattle.bson_kinds.specs.Outcome.{◌>>=◌}
use Rattle.bson_kinds.specs.Text.{Utf8}
use Rattle.bson_shape.specs.Form.{Form}
use Rattle.bson_shape.specs.Fronts.{IsNotNotationAt, IsRefusedAt}
use Rattle.bson_shape.specs.Machine.{Refusal, parsed}
use Rattle.bson_shape.specs.Makers.{IsShape}
use Rattle.bson_shape.specs.Notation.{text}
use Rattle.bson_shape.specs.declared.error.ParseError.TheVariants as errors
use Rattle.bson_shape.specs.declared.error.ShapeError.{ShapeError}
use Rattle.bson_laws.specs.Plain.{IsPlain}
use Rattle.bson_program.specs.Command.{Command}
use Rattle.bson_program.specs.ShapeWord.{IsNotation}
use Rattle.bson_evolve_laws.specs.PlainTest.{is_plain}
use Rattle.bson_evolve_run.specs.Lines.{usage_line, old_word, new_word, line_at, refusal_line, not_plain_line}

-- an old shape and a new one
pub record Shapes : Type 0 where
  pub old : Form
  pub new : Form

abbrev pub shapes_of : Form → Form → Shapes
shapes_of old new = record { old = old; new = new }

abbrev pub or_line : (which : Utf8) → Result Form Refusal → Result Form Utf8
or_line which (Ok s) = Ok s
or_line which (Err r) = Err (refusal_line which r)

-- the shape that the word of this name is the notation of, or the line that refuses it
abbrev pub shape_of : (which word : Utf8) → Result Form Utf8
shape_of which word = or_line which (parsed word)

-- The longest front of the word with which some notation begins ends at this place, and no maker refuses in it; the line tells this, with the name of the word.
pub record IsNoNotation (which word line : Utf8) : Type 0 where
  pub place : ℕ
  pub stops : IsNotNotationAt word place
  pub says : line ≡ line_at which place (errors.NotNotation place)

-- A maker refuses a form of the word of this name, for this cause.
pub record IsRefusedForm (which word line : Utf8) : Type 0 where
  pub place : ℕ
  pub cause : ShapeError
  pub refuses : IsRefusedAt word place cause
  pub says : line ≡ line_at which place (errors.Refused place cause)

-- The line tells why the word of this name is the notation of no shape.
abbrev pub RefusesWord : (which word line : Utf8) → Type 0
RefusesWord which word line = IsNoNotation which word line ⊎ IsRefusedForm which word line

-- A call returns the shape that the word of this name is the notation of, or the line that refuses it.
abbrev pub IsShapeOf : (which word : Utf8) → Result Form (String Global) → Type 0
IsShapeOf which word (Ok s) = IsNotation word s × (shape_of which word ≡ Ok s)
IsShapeOf which word (Err line) = RefusesWord which word (string_bytes line) × (shape_of which word ≡ Err (string_bytes line))

-- Both are made by the makers of shapes, and plain.
pub record AreGood (shapes : Shapes) : Type 0 where
  pub old_made : IsShape shapes.old
  pub new_made : IsShape shapes.new
  pub old_plain : IsPlain shapes.old
  pub new_plain : IsPlain shapes.new

-- The words are the notations of these two plain shapes.
pub record AsksFor (words : List Utf8) (shapes : Shapes) : Type 0 where
  pub notations : words ≡ text shapes.old ∷ text shapes.new ∷ []
  pub good : AreGood shapes

-- There are not two words.
pub record AreNotTwo (words : List Utf8) (line : Utf8) : Type 0 where
  pub other : (old new : Utf8) → words ≢ old ∷ new ∷ []
  pub says : line ≡ usage_line

-- The first is the notation of no shape.
pub record IsOldRefused (words : List Utf8) (line : Utf8) : Type 0 where
  pub old : Utf8
  pub new : Utf8
  pub two : words ≡ old ∷ new ∷ []
  pub refused : RefusesWord old_word old line

-- The first is the notation of a shape, and the second is that of none.
pub record IsNewRefused (words : List Utf8) (line : Utf8) : Type 0 where
  pub old : Form
  pub new : Utf8
  pub two : words ≡ text old ∷ new ∷ []
  pub made : IsShape old
  pub refused : RefusesWord new_word new line

-- Both are notations of shapes, and the first is not plain.
pub record IsOldNotPlain (words : List Utf8) (line : Utf8) : Type 0 where
  pub old : Form
  pub new : Form
  pub two : words ≡ text old ∷ text new ∷ []
  pub old_made : IsShape old
  pub new_made : IsShape new
  pub other : IsPlain old → ⊥
  pub says : line ≡ not_plain_line old_word

-- Both are notations of shapes, the first is plain, and the second is not.
pub record IsNewNotPlain (words : List Utf8) (line : Utf8) : Type 0 where
  pub old : Form
  pub new : Form
  pub two : words ≡ text old ∷ text new ∷ []
  pub old_made : IsShape old
  pub new_made : IsShape new
  pub plain : IsPlain old
  pub other : IsPlain new → ⊥
  pub says : line ≡ not_plain_line new_word

-- The words are not two plain shapes, and the line tells why.
abbrev pub RefusesWords : List Utf8 → (line : Utf8) → Type 0
RefusesWords words line =
    AreNotTwo words line ⊎ (IsOldRefused words line ⊎ (IsNewRefused words line ⊎ (IsOldNotPlain words line ⊎ IsNewNotPlain words line)))

-- two shapes that are plain
abbrev pub plain_shapes : Form → Form → Result Shapes Utf8
plain_shapes old new =
    if is_plain old then (if is_plain new then Ok (shapes_of old new) else Err (not_plain_line new_word))
    else Err (not_plain_line old_word)

-- The shapes that are asked for. Both words are read before it is asked whether a shape is plain.
abbrev pub request : List Utf8 → Result Shapes Utf8
request [] = Err usage_line
request (old ∷ []) = Err usage_line
request (old ∷ new ∷ []) = shape_of old_word old >>= λ a. shape_of new_word new >>= λ b. plain_shapes a b
request (old ∷ new ∷ other ∷ words) = Err usage_line

-- the command line of a program that takes two plain shapes
abbrev pub two_shapes : Command Shapes
two_shapes = record { AsksFor = AsksFor; Refuses = RefusesWords; request = request }
