-- The shapes at which each way takes exactly what the other does. Source: serde's data model.
use Rattle.std.specs.Prelude.{◌≡◌, false}
use Rattle.bson_shape.specs.Form.{Form, leaf, sequence, structure, reference, definitions, Fields, no_fields, field}
use Rattle.bson_laws.specs.Leaves.{LeafKind, booleans, numbers, texts, leaf_kind}
use Rattle.bson_laws.specs.ReadsLeaf.{borrows}
use Rattle.bson_ways_laws.specs.Ways.{IsCommon}

abbrev pub IsSimpleLeaf : LeafKind → Type 0
IsSimpleLeaf booleans = Unit {0}
IsSimpleLeaf (numbers type) = Unit {0}
IsSimpleLeaf texts = Unit {0}
IsSimpleLeaf k = ⊥

abbrev mutual
  -- structs, sequences, integers, booleans and strings, which may be recursive; no name of a struct or a field begins with `$`
  pub IsSimple : Form → Type 0
  IsSimple (leaf l) = IsSimpleLeaf (leaf_kind l) × (borrows l ≡ false)
  IsSimple (sequence s) = IsSimple s
  IsSimple (structure u name fs) = IsCommon name × AreSimple fs
  IsSimple (reference name) = Unit {0}
  IsSimple (definitions h s) = AreDefinitionsSimple h × IsSimple s
  IsSimple s = ⊥

  pub AreDefinitionsSimple : Fields → Type 0
  AreDefinitionsSimple no_fields = Unit {0}
  AreDefinitionsSimple (field name s h) = IsSimple s × AreDefinitionsSimple h

  pub AreSimple : Fields → Type 0
  AreSimple no_fields = Unit {0}
  AreSimple (field name s fs) = IsCommon name × IsSimple s × AreSimple fs
