-- A document that is read from its bytes at a form, as a value that is written again. Source: serde's data model.
use Rattle.std.specs.Prelude.{◌≡◌, Ok}
use Rattle.bson_base.specs.Tree.{Tree, enc}
use Rattle.bson_shape.specs.Form.{Form}
use Rattle.bson_values.specs.Value.{Value}
use Rattle.bson_laws.specs.Reads.{reads_document}
use Rattle.bson_laws.specs.Spell.{spell_document}

pub record IsRecast (s : Form) (t : Tree) : Type 0 where
  pub value : Value
  pub written : Tree
  pub reads : reads_document s (enc t) ≡ Ok value
  pub spells : spell_document value ≡ Ok written
