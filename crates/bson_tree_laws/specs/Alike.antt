-- The values that both writers write alike. Source: serde's data model, and the reserved names of MongoDB's crate bson, version 2.
use Rattle.std.specs.Prelude.{◌≡◌, ◌<◌, false, Option, Some, None}
use Rattle.bson_kinds.specs.Reserved.{reserved_kind}
use Rattle.bson_base.specs.Sound.{Lacks}
use Rattle.bson_kinds.specs.Text.{Utf8, begins_with_dollar}
use Rattle.bson_base.specs.Tree as tree
use Rattle.bson_base.specs.Tree.{Tree, document, array, javascript_code_with_scope, Pairs, no_pairs, pair, Trees, no_trees}
use Rattle.bson_kinds.specs.declared.element_type.ElementType.{ElementType}
use Rattle.bson_values.specs.Value.{Value, str, some, newtype, sequence, map, structure, unit_variant, newtype_variant, tuple, tuple_structure, tuple_variant, structure_variant, raw_document, raw_array, mode, Items, no_items, item, Entries, no_entries, entry, FieldValues, no_field_values, field_value}
use Rattle.bson_laws.specs.Datum.{itself, datum}

abbrev mutual
  -- no key in the tree begins with `$`, and none is repeated in its document
  pub HasFreeKeys : Tree → Type 0
  HasFreeKeys (document ps) = PairsHaveFreeKeys ps
  HasFreeKeys (array ts) = TreesHaveFreeKeys ts
  HasFreeKeys (javascript_code_with_scope code scope) = PairsHaveFreeKeys scope
  HasFreeKeys t = Unit {0}

  pub PairsHaveFreeKeys : Pairs → Type 0
  PairsHaveFreeKeys no_pairs = Unit {0}
  PairsHaveFreeKeys (pair key t ps) = (begins_with_dollar key ≡ false) × Lacks key ps × HasFreeKeys t × PairsHaveFreeKeys ps

  pub TreesHaveFreeKeys : Trees → Type 0
  TreesHaveFreeKeys no_trees = Unit {0}
  TreesHaveFreeKeys (tree.tree t ts) = HasFreeKeys t × TreesHaveFreeKeys ts

-- the subtype of a binary is a byte
abbrev pub HasSubtype : Tree → Type 0
HasSubtype (tree.binary subtype b) = subtype < 256
HasSubtype t = Unit {0}

-- the struct is what an extended value is as data
abbrev pub IsWrap : Option ElementType → Utf8 → FieldValues → Type 0
IsWrap None name fs = Unit {0}
IsWrap (Some k) name fs = (t : Tree) × HasSubtype t × (structure name fs ≡ datum itself t)

abbrev pub IsTextKey : Value → Type 0
IsTextKey (str t) = Unit {0}
IsTextKey (unit_variant name) = Unit {0}
IsTextKey k = ⊥

abbrev mutual
  -- the keys of each map are texts or unit variants, each struct of a reserved name is what an extended value is as data, and nothing is given by its bytes
  pub IsAlike : Value → Type 0
  IsAlike (some v) = IsAlike v
  IsAlike (newtype name v) = IsAlike v
  IsAlike (mode v w) = IsAlike v × IsAlike w
  IsAlike (sequence vs) = AreAlike vs
  IsAlike (tuple vs) = AreAlike vs
  IsAlike (tuple_structure name vs) = AreAlike vs
  IsAlike (map es) = EntriesAlike es
  IsAlike (structure name fs) = IsWrap (reserved_kind name) name fs × FieldsAlike fs
  IsAlike (newtype_variant name v) = IsAlike v
  IsAlike (tuple_variant name vs) = AreAlike vs
  IsAlike (structure_variant name fs) = FieldsAlike fs
  IsAlike (raw_document bs) = ⊥
  IsAlike (raw_array bs) = ⊥
  IsAlike v = Unit {0}

  pub AreAlike : Items → Type 0
  AreAlike no_items = Unit {0}
  AreAlike (item v vs) = IsAlike v × AreAlike vs

  pub EntriesAlike : Entries → Type 0
  EntriesAlike no_entries = Unit {0}
  EntriesAlike (entry k v es) = IsTextKey k × IsAlike v × EntriesAlike es

  pub FieldsAlike : FieldValues → Type 0
  FieldsAlike no_field_values = Unit {0}
  FieldsAlike (field_value name v fs) = IsAlike v × FieldsAlike fs
