-- The keys that texts are. Source: serde's data model.
use Rattle.bson_kinds.specs.Text.{Utf8}
use Rattle.bson_kinds.specs.Outcome.{result_map}
use Rattle.bson_kinds.specs.Piece.{borrowed}
use Rattle.bson_shape.specs.Form.{Form}
use Rattle.bson_values.specs.Marked.{contents}
use Rattle.bson_values.specs.Value.{Value}
use Rattle.bson_laws.specs.Containers.{reads_key}
use Rattle.bson_laws.specs.Judged.{Reading}

-- the key that a text is at this form of keys, wherever the text is
abbrev pub key_value : Form → Utf8 → Reading Value
key_value s t = result_map contents (reads_key s (borrowed t))
