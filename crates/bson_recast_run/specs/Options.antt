-- The options of the command line, and what it asks for. Source: this library's own programs.
use Rattle.std.specs.Prelude.{◌≡◌, ◌⊎◌, ℕ, List, [], ◌∷◌, ◌++◌, Bool, true, false, not, ◌&&◌, IsTrue, if◌then◌else◌, Option, Some, None, Result, Ok, codes}
use Rattle.std.specs.Str.{bytes_eq}
use Rattle.bson_kinds.specs.Outcome.{result_map}
use Rattle.bson_kinds.specs.Text.{Bytes, Utf8}
use Rattle.bson_shape.specs.Form.{Form}
use Rattle.bson_shape.specs.Makers.{IsShape}
use Rattle.bson_shape.specs.Notation.{text}
use Rattle.bson_program.specs.Command.{Command}
use Rattle.bson_program.specs.OneShape as one_shape
use Rattle.bson_program.specs.ShapeWord.{RefusesWord}
use Rattle.bson_tree_recast.specs.ByTree.{tree_recast_of}
use Rattle.bson_tree_recast.specs.Recast.{Recast, recast_of}
use Rattle.bson_recasting.specs.Recasting.{lossy_recast_of}
use Rattle.bson_recast_run.specs.PrintedLines.{recast_usage}
use Rattle.bson_recast_run.specs.Making.{AskForRows, rows_asked}
use Rattle.bson_recast_run.specs.declared.options.Job.{Job}
use Rattle.bson_recast_run.specs.declared.options.Options.{Options}
use Rattle.bson_recast_run.specs.declared.options.Request.{Request}
use Rattle.bson_recast_run.specs.declared.options.Request.TheVariants as requests
use Rattle.bson_recast_run.specs.declared.options.Way.{Way}
use Rattle.bson_recast_run.specs.declared.options.Way.TheVariants.{Plain, Lossy, Tree}

abbrev pub lossy_option : Utf8
lossy_option = codes "--lossy"

abbrev pub tree_option : Utf8
tree_option = codes "--tree"

abbrev pub hex_option : Utf8
hex_option = codes "--hex"

abbrev pub no_options : Options
no_options = record { way = Plain; hex = false }

-- ---- which words are options

-- the word that asks for a way, where one does
abbrev pub way_option : Way → List Utf8
way_option Plain = []
way_option Lossy = lossy_option ∷ []
way_option Tree = tree_option ∷ []

-- The words are these options, each once, in any order. `--lossy` and `--tree` are two ways, so they are never together.
abbrev pub AreGiven : Way → (hex : Bool) → List Utf8 → Type 0
AreGiven way false words = words ≡ way_option way
AreGiven way true words = (words ≡ way_option way ++ hex_option ∷ []) ⊎ (words ≡ hex_option ∷ way_option way)

abbrev pub AreOptions : Options → List Utf8 → Type 0
AreOptions o words = AreGiven o.way o.hex words

-- The words are options and one word behind them.
pub record IsList (words : List Utf8) (options : Options) (word : Utf8) : Type 0 where
  pub given : List Utf8
  pub are : AreOptions options given
  pub is : words ≡ given ++ word ∷ []

-- The words are options and the notation of this shape.
pub record AsksForJob (words : List Utf8) (job : Job) : Type 0 where
  pub list : IsList words job.options (text job.shape)
  pub made : IsShape job.shape

-- The words are no legal list: they are not options and one word behind them, or that word begins as an option does.
abbrev pub IsNoList : List Utf8 → Type 0
IsNoList words = (options : Options) (word : Utf8) → IsList words options word → IsTrue (recast_usage.is_option word)

-- They are a legal list, and the line tells why the word behind the options is the notation of no shape.
pub record IsNoShape (words : List Utf8) (line : Utf8) : Type 0 where
  pub options : Options
  pub word : Utf8
  pub list : IsList words options word
  pub refused : RefusesWord word line

-- The words ask for no recast of an input, and the line tells why.
abbrev pub RefusesJob : List Utf8 → (line : Utf8) → Type 0
RefusesJob words line = (IsNoList words × (line ≡ recast_usage.line)) ⊎ IsNoShape words line

-- ---- what they ask for

-- no option asks for another way
abbrev pub is_plain : Way → Bool
is_plain Plain = true
is_plain way = false

-- the options and the one that a word is; none where it is none, or one that was given before, or where it asks for a second way
abbrev pub with_option : Options → Utf8 → Option Options
with_option o word =
    if bytes_eq word lossy_option && is_plain o.way then Some (record o { way = Lossy })
    else if bytes_eq word tree_option && is_plain o.way then Some (record o { way = Tree })
    else if bytes_eq word hex_option && not o.hex then Some (record o { hex = true })
    else None

-- the options that the words begin with, each at most once, and the words behind them
abbrev pub options_of : Options → List Utf8 → Options × List Utf8
options_of o [] = (o, [])
options_of o (word ∷ words) = elim (with_option o word) [ Some more ↦ options_of more words | None ↦ (o, word ∷ words) ]

-- the shape with the options before it
abbrev pub job_of : Options → Form → Job
job_of o s = record { options = o; shape = s }

-- what is asked for by options, each at most once, and exactly one word behind them, which is no option and the notation of a shape
abbrev pub job_request : List Utf8 → Result Job Utf8
job_request words = let led = options_of no_options words in result_map (job_of led.0) (one_shape.request recast_usage led.1)

-- the command line of a recast of an input
abbrev pub job_command : Command Job
job_command = record { AsksFor = AsksForJob; Refuses = RefusesJob; request = job_request }

-- ---- a recast of an input, or of a document of rows

-- The words ask for this.
abbrev pub AsksFor : List Utf8 → Request → Type 0
AsksFor words (requests.Recast job) = AsksForJob words job
AsksFor words (requests.Make rows) = AskForRows words rows

-- The words ask for nothing, and the line tells why.
abbrev pub RefusesWords : List Utf8 → (line : Utf8) → Type 0
RefusesWords words line = ((rows : ℕ) → AskForRows words rows → ⊥) × RefusesJob words line

-- what is asked for: so many rows where words ask for them, or a recast of an input
abbrev pub request_of : (rows : Option ℕ) → (job : Result Job Utf8) → Result Request Utf8
request_of (Some rows) job = Ok (requests.Make rows)
request_of None job = result_map requests.Recast job

abbrev pub request : List Utf8 → Result Request Utf8
request words = request_of (rows_asked words) (job_request words)

-- the command line of the recast
abbrev pub recast_command : Command Request
recast_command = record { AsksFor = AsksFor; Refuses = RefusesWords; request = request }

-- ---- what comes of a way

-- the recast in each way
abbrev pub recast_with : Way → Form → Bytes → Recast
recast_with Plain s bytes = recast_of s bytes
recast_with Lossy s bytes = lossy_recast_of s bytes
recast_with Tree s bytes = tree_recast_of s bytes

-- A document's value is read from its bytes, and written: not by way of trees.
abbrev pub IsByValue : Way → Type 0
IsByValue Tree = ⊥
IsByValue way = Unit {0}

-- The words ask for hexadecimal digits.
abbrev pub AskForDigits : List Utf8 → Type 0
AskForDigits words = (options_of no_options words).0.hex ≡ true
