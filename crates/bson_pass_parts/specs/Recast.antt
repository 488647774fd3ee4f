-- What the pass promises: the bytes that it makes are those of the value that the document is read as. Source: this library's own readers and writers.
use Rattle.std.specs.Prelude.{◌≡◌, ◌≤◌, length, Ok}
use Rattle.bson_base.specs.Sound.{max_bytes}
use Rattle.bson_kinds.specs.Text.{Bytes}
use Rattle.bson_base.specs.Tree.{Tree, enc}
use Rattle.bson_shape.specs.Form.{Form}
use Rattle.bson_values.specs.Value.{Value}
use Rattle.bson_laws.specs.Reads.{reads_document}
use Rattle.bson_laws.specs.Spell.{spell_document}

-- The document's bytes are read at the shape as a value that is written as these bytes.
pub record IsRecastAs (s : Form) (bytes made : Bytes) : Type 0 where
  pub value : Value
  pub tree : Tree
  pub read : reads_document s bytes ≡ Ok value
  pub spelled : spell_document value ≡ Ok tree
  pub encoded : enc tree ≡ made
  pub fits : length made ≤ max_bytes
