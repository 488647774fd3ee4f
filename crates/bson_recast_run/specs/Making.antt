-- `--make`: a document of rows is made and recast, and a line tells how long both are. Source: this library's own programs.
use Rattle.std.specs.Prelude.{◌≡◌, ℕ, ◌≤◌, nat_le, ◌&&◌, List, [], ◌∷◌, ◌++◌, length, sum, if◌then◌else◌, Option, Some, None, codes}
use Rattle.std.specs.Fmt.{decimal}
use Rattle.std.specs.Str.{bytes_eq}
use Rattle.std.specs.Str.Parse.{digits_value}
use Rattle.bson_kinds.specs.Text.{Bytes, Utf8}
use Rattle.bson_base.specs.Tree.{enc}
use Rattle.bson_recast_run.specs.Made.{made}
use Rattle.bson_shape.specs.Form.{Form, leaf, sequence, structure, dropped, no_fields, field}
use Rattle.bson_shape.specs.declared.leaf.Leaf.TheVariants.{U32, String}
use Rattle.bson_program.specs.ShapeWord.{newline}
use Rattle.bson_tree_recast.specs.Recast.{writes, recast_of}

abbrev pub make_option : Utf8
make_option = codes "--make"

-- the most rows that may be asked for
abbrev pub max_rows : ℕ
max_rows = 100000

-- The words are `--make` and this number of rows in decimal digits.
pub record AskForRows (words : List Utf8) (rows : ℕ) : Type 0 where
  pub are : words ≡ make_option ∷ decimal rows ∷ []
  pub fits : rows ≤ max_rows

-- the number of rows that a word is in decimal digits
abbrev pub rows_in : (word : Utf8) → Option ℕ
rows_in word = let rows = digits_value 10 word in if nat_le rows max_rows && bytes_eq word (decimal rows) then Some rows else None

-- the number of rows that words ask for
abbrev pub rows_asked : List Utf8 → Option ℕ
rows_asked (option ∷ number ∷ []) = if bytes_eq option make_option then rows_in number else None
rows_asked words = None

-- the shape at which the document is recast: {rows:[{n:u32,name:string}]}
abbrev pub rows_shape : Form
rows_shape = structure dropped [] (field (codes "rows") (sequence (structure dropped [] (field (codes "n") (leaf U32) (field (codes "name") (leaf String) no_fields)))) no_fields)

-- the line for so many rows: the length of their document, the length of its recast, and the sum of the bytes of the recast
abbrev pub made_line : (rows : ℕ) → (document recast : Bytes) → Utf8
made_line rows document recast =
    codes "made " ++ (decimal rows ++ (codes " rows, read " ++ (decimal (length document) ++ (codes " bytes, wrote " ++ (decimal (length recast) ++ (codes " bytes, sum " ++ (decimal (sum recast) ++ newline)))))))

-- the line for so many rows, by the recast of their document
pub record IsMadeLine (rows : ℕ) (line : Utf8) : Type 0 where
  pub recast : Bytes
  pub writes_it : recast_of rows_shape (enc (made rows)) ≡ writes recast
  pub says : line ≡ made_line rows (enc (made rows)) recast
