-- The command line of a program that takes no word. Source: this library's own programs.
use Rattle.std.specs.Prelude.{◌≡◌, ◌≢◌, List, [], ◌∷◌, Result, Ok, Err}
use Rattle.bson_kinds.specs.Text.{Utf8}
use Rattle.bson_program.specs.Command.{Command}

-- There is a word, and the line tells how the program is used.
pub record RefusesWords (usage : Utf8) (words : List Utf8) (line : Utf8) : Type 0 where
  pub some : words ≢ []
  pub says : line ≡ usage

abbrev pub request : Utf8 → List Utf8 → Result (Unit {0}) Utf8
request usage [] = Ok tt
request usage (word ∷ words) = Err usage

-- The one job is asked for by no words.
abbrev pub no_words : (usage : Utf8) → Command (Unit {0})
no_words usage = record { AsksFor = λ words job. words ≡ []; Refuses = RefusesWords usage; request = request usage }
