-- The documents of a file of text, one a line. Source: mongoexport and mongoimport; lines are those of std's `lines`.
use Rattle.std.specs.Prelude.{ℕ, suc, Bool, if◌then◌else◌, List, [], ◌∷◌, ◌++◌}
use Rattle.std.specs.List.{list_all}
use Rattle.std.specs.Str.Lines.{lines}
use Rattle.json.specs.Word.{is_space}
use Rattle.bson_kinds.specs.Text.{Bytes, Utf8}

-- white space alone, as RFC 8259 has it
abbrev pub is_blank : Bytes → Bool
is_blank line = list_all is_space line

-- a line with its number in the file
pub record Line : Type 0 where
  pub number : ℕ
  pub bytes : Bytes

-- the lines that are not blank; the first of all has this number
abbrev pub filled_lines : ℕ → List Bytes → List Line
filled_lines n [] = []
filled_lines n (l ∷ ls) = if is_blank l then filled_lines (suc n) ls else record { number = n; bytes = l } ∷ filled_lines (suc n) ls

-- the lines of a file that stand for documents; the first line of the file is line 1
abbrev pub lines_of_file : Bytes → List Line
lines_of_file file = filled_lines 1 (lines file)

-- texts, each with the end of a line
abbrev pub file_of_lines : List Utf8 → Bytes
file_of_lines [] = []
file_of_lines (t ∷ ts) = t ++ (10 ∷ file_of_lines ts)
