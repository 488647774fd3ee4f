-- What the words ask for of a program that takes one shape. Source: this library's own programs.
use Rattle.std.specs.Prelude.{◌≡◌, ◌⊎◌, List, [], ◌∷◌, Bool, IsTrue, if◌then◌else◌, Result, Err}
use Rattle.bson_kinds.specs.Text.{Utf8}
use Rattle.bson_shape.specs.Form.{Form}
use Rattle.bson_shape.specs.Makers.{IsShape}
use Rattle.bson_shape.specs.Notation.{text}
use Rattle.bson_program.specs.Command.{Command}
use Rattle.bson_program.specs.ShapeWord.{shape_of, RefusesWord}

-- how the program is used: the line that says so, and which words it takes as options
pub record Usage : Type 0 where
  pub line : Utf8
  pub is_option : Utf8 → Bool

-- The words are the notation of this shape alone.
pub record AsksFor (words : List Utf8) (shape : Form) : Type 0 where
  pub notation : words ≡ text shape ∷ []
  pub made : IsShape shape

-- The words are no legal list: they are not one word alone, or that word is an option.
abbrev pub IsNoList : Usage → List Utf8 → Type 0
IsNoList usage words = (word : Utf8) → words ≡ word ∷ [] → IsTrue (usage.is_option word)

-- They are one word, and the line tells why it is the notation of no shape.
pub record IsNoShape (words : List Utf8) (line : Utf8) : Type 0 where
  pub word : Utf8
  pub one : words ≡ word ∷ []
  pub refused : RefusesWord word line

-- The words ask for no shape, and the line tells why.
abbrev pub RefusesWords : Usage → List Utf8 → (line : Utf8) → Type 0
RefusesWords usage words line = (IsNoList usage words × (line ≡ usage.line)) ⊎ IsNoShape words line

-- the shape that is asked for: by exactly one word, which is no option and the notation of a shape
abbrev pub request : Usage → List Utf8 → Result Form Utf8
request usage [] = Err usage.line
request usage (word ∷ []) = if usage.is_option word then Err usage.line else shape_of word
request usage (word ∷ other ∷ words) = Err usage.line

-- the command line of a program that takes one shape
abbrev pub one_shape : Usage → Command Form
one_shape usage = record { AsksFor = AsksFor; Refuses = RefusesWords usage; request = request usage }
