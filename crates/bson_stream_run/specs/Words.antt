-- What the words of the program ask for. Source: this library's own programs.
use Rattle.std.specs.Prelude.{List, [], ◌∷◌, false, codes}
use Rattle.bson_kinds.specs.Text.{Utf8}
use Rattle.bson_shape.specs.Form.{Form}
use Rattle.bson_program.specs.Command.{Command}
use Rattle.bson_program.specs.OneShape.{Usage, one_shape}

-- A word alone asks for a shape, but for the one that asks for something else.
abbrev pub stream_usage : Usage
stream_usage = record { line = codes "usage: bson_stream SHAPE | --salvage\n"; is_option = λ word. false }

abbrev pub stream_command : Command Form
stream_command = one_shape stream_usage

abbrev pub salvage_words : List Utf8
salvage_words = codes "--salvage" ∷ []
