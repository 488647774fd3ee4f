-- What a recast by way of trees gives beside one without them. Source: MongoDB's extended JSON, version 2, whose keys begin with `$`.
use Rattle.std.specs.Prelude.{◌≡◌, ℕ, Result, Ok, Err}
use Rattle.std.specs.Global.{Vec}
use Rattle.bson_kinds.specs.Text.{Bytes}
use Rattle.bson_base.specs.Tree.{Tree, Pairs}
use Rattle.bson_rawdoc.specs.DocumentTree.{document_pairs}
use Rattle.bson_shape.specs.Form.{Form}
use Rattle.bson_values.specs.Value.{Value}
use Rattle.bson_laws.specs.Reads.{reads_document}
use Rattle.bson_laws.specs.Spell.{spell_document}
use Rattle.bson_ways_laws.specs.Ways.{HasCommonKeys}
use Rattle.bson_tree_recast.specs.Recast.{Recast, writes}
use Rattle.bson_tree_recast.specs.declared.error.RecastError.{RecastError}
use Rattle.bson_tree_recast.specs.declared.error.RecastError.TheVariants.{Read, Write, NoMemory}

-- What is read from the bytes at the shape is written as a tree in which no key begins with `$`.
pub record HasCommonRecast (s : Form) (bytes : Bytes) : Type 0 where
  pub value : Value
  pub tree : Tree
  pub read : reads_document s bytes ≡ Ok value
  pub spelled : spell_document value ≡ Ok tree
  pub common : HasCommonKeys tree

-- The bytes have a document.
pub record HasDocument (bytes : Bytes) : Type 0 where
  pub pairs : Pairs
  pub is : document_pairs bytes ≡ Ok pairs

-- Where the call gives bytes, this is the recast that gives them.
abbrev pub GivesSame : Recast → Result (Vec ℕ) RecastError → Type 0
GivesSame r (Ok v) = r ≡ writes v.items
GivesSame r (Err e) = Unit {0}

-- the recast gives no bytes
abbrev pub Refuses : Recast → Type 0
Refuses r = (bytes : Bytes) → r ≡ writes bytes → ⊥

-- The call gives the bytes that the recast gives, and is refused exactly where the recast gives none; or memory ran out.
abbrev pub TakesSame : Recast → Result (Vec ℕ) RecastError → Type 0
TakesSame r (Ok v) = r ≡ writes v.items
TakesSame r (Err (Read e)) = Refuses r
TakesSame r (Err (Write e)) = Refuses r
TakesSame r (Err NoMemory) = Unit {0}
