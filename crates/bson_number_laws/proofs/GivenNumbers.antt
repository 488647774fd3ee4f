-- What leaves give of a value of a tree in memory.
use Rattle.std.proofs.Common.{pos, zero, suc, sym, subst}
use Rattle.bson_base.specs.Tree as tree
use Rattle.bson_base.specs.Tree.{Tree, Pairs, no_pairs, pair, Trees, no_trees}
use Rattle.bson_values.specs.Value as value
use Rattle.bson_values.specs.Value.{i32, i64, Value, Items, no_items, item, Entries, no_entries, entry}
use Rattle.bson_laws.specs.Datum.{datum, itself, pair_data, tree_data}
use Rattle.bson_laws.specs.Leaves as leaf_kinds
use Rattle.bson_laws.specs.Leaves.{LeafKind, anything, ignored, booleans, numbers, doubles, characters, texts, byte_strings, byte_buffers, units, ExtendedLeaf, object_ids, uuids, of_kind, documents, extended_values, raw_documents, raw_arrays, raw_values}
use Rattle.bson_laws.proofs.Given.{IsGivenText, IsGivenAny, AreGivenItems, AreGivenEntries, IsGivenLeaf}
use Rattle.bson_laws.proofs.GivenTrees.{IsGivenTree, ArePairsGiven, AreTreesGiven, IsGivenExtended}
use Rattle.bson_laws.proofs.Writable.{wide_small}
use Rattle.bson_number_laws.proofs.Numbers.{Holds, ItemsHold, EntriesHold, boolean_holds, double_holds, character_holds, text_holds, bytes_hold, unit_holds, small_holds, short_holds, word_small, raw_document_holds, raw_array_holds, newtype_holds, mode_holds, no_items_hold, item_holds, sequence_holds, map_holds, one_holds, two_hold}

-- ---- values without a shape

text_key_holds : (k : Value) → IsGivenText k → Holds k
text_key_holds (value.str t) g = text_holds t
text_key_holds k g = absurd g

mutual
  any_holds : (v : Value) → IsGivenAny v → Holds v
  any_holds (value.integer i32 n) g = short_holds n
  any_holds (value.integer i64 n) g = small_holds i64 n (wide_small n g)
  any_holds (value.boolean b) g = boolean_holds b
  any_holds (value.double bits) g = double_holds bits
  any_holds (value.str t) g = text_holds t
  any_holds (value.bytes bs) g = bytes_hold bs
  any_holds value.unit g = unit_holds
  any_holds (value.sequence vs) g = sequence_holds vs (any_items_hold vs g)
  any_holds (value.map es) g = map_holds es (any_entries_hold es g.1)
  any_holds v g = absurd g

  any_items_hold : (vs : Items) → AreGivenItems vs → ItemsHold vs
  any_items_hold no_items g = no_items_hold
  any_items_hold (item v vs) g = item_holds v vs (any_holds v g.0) (any_items_hold vs g.1)

  any_entries_hold : (es : Entries) → AreGivenEntries es → EntriesHold es
  any_entries_hold no_entries g = tt
  any_entries_hold (entry k v es) g = (text_key_holds k g.0, any_holds v g.1, any_entries_hold es g.2)

-- ---- trees

mutual
  tree_holds : (t : Tree) → IsGivenTree t → Holds (datum itself t)
  tree_holds (tree.double bits) g = double_holds bits
  tree_holds (tree.string t) g = text_holds t
  tree_holds (tree.document ps) g = map_holds (pair_data itself ps) (pairs_hold ps g)
  tree_holds (tree.array ts) g = sequence_holds (tree_data itself ts) (trees_hold ts g)
  tree_holds (tree.binary zero b) g = bytes_hold b
  tree_holds (tree.binary (suc n) b) g = one_holds _ _ _ (two_hold _ _ _ _ _ (text_holds _) (text_holds _))
  tree_holds tree.undefined g = one_holds _ _ _ (boolean_holds _)
  tree_holds (tree.object_id id) g = one_holds _ _ _ (text_holds _)
  tree_holds (tree.boolean b) g = boolean_holds b
  tree_holds (tree.date_time n) g = one_holds _ _ _ (one_holds _ _ _ (text_holds _))
  tree_holds tree.null g = unit_holds
  tree_holds (tree.regular_expression p q) g = one_holds _ _ _ (two_hold _ _ _ _ _ (text_holds p) (text_holds q))
  tree_holds (tree.db_pointer namespace id) g = one_holds _ _ _ (two_hold _ _ _ _ _ (text_holds namespace) (one_holds _ _ _ (text_holds _)))
  tree_holds (tree.javascript_code x) g = one_holds _ _ _ (text_holds x)
  tree_holds (tree.symbol x) g = one_holds _ _ _ (text_holds x)
  tree_holds (tree.javascript_code_with_scope code scope) g = two_hold _ _ _ _ _ (text_holds code) (map_holds (pair_data itself scope) (pairs_hold scope g.1))
  tree_holds (tree.int32 n) g = short_holds n
  tree_holds (tree.timestamp time increment) g =
      one_holds _ _ _ (two_hold _ _ _ _ _ (small_holds i64 (pos time) (word_small time g.0)) (small_holds i64 (pos increment) (word_small increment g.1)))
  tree_holds (tree.int64 n) g = small_holds i64 n (wide_small n g)
  tree_holds (tree.decimal128 b) g = one_holds _ _ _ (bytes_hold b)
  tree_holds tree.max_key g = one_holds _ _ _ (short_holds (pos 1))
  tree_holds tree.min_key g = one_holds _ _ _ (short_holds (pos 1))
  tree_holds (tree.raw k b) g = absurd g

  pairs_hold : (ps : Pairs) → ArePairsGiven ps → EntriesHold (pair_data itself ps)
  pairs_hold no_pairs g = tt
  pairs_hold (pair key t ps) g = (text_holds key, tree_holds t g.3, pairs_hold ps g.4)

  trees_hold : (ts : Trees) → AreTreesGiven ts → ItemsHold (tree_data itself ts)
  trees_hold no_trees g = no_items_hold
  trees_hold (tree.tree t ts) g = item_holds (datum itself t) (tree_data itself ts) (tree_holds t g.0) (trees_hold ts g.1)

extended_holds : (k : ExtendedLeaf) (v : Value) → IsGivenExtended k v → Holds v
extended_holds object_ids v g = subst Holds (sym g.2) (tree_holds (tree.object_id g.0) g.1)
extended_holds uuids v g = subst Holds (sym g.2) (newtype_holds _ _ (mode_holds _ _ (text_holds _) (bytes_hold g.0)))
extended_holds (of_kind k) v g = subst Holds (sym g.3) (tree_holds g.0 g.2)
extended_holds leaf_kinds.trees v g = subst Holds (sym g.2) (tree_holds g.0 g.1)
extended_holds documents v g = subst Holds (sym g.2) (tree_holds (tree.document g.0) g.1)

-- ---- at leaves of all kinds but `rawbson`

abbrev pub TakesRawValues : LeafKind → Type 0
TakesRawValues raw_values = Unit {0}
TakesRawValues k = ⊥

pub leaf_holds : (k : LeafKind) (v : Value) → (TakesRawValues k → ⊥) → IsGivenLeaf k v → Holds v
leaf_holds anything v p g = any_holds v g
leaf_holds ignored value.unit p g = unit_holds
leaf_holds booleans (value.boolean b) p g = boolean_holds b
leaf_holds (numbers type) (value.integer t n) p g = small_holds t n (wide_small n g.2)
leaf_holds doubles (value.double bits) p g = double_holds bits
leaf_holds characters (value.character c) p g = character_holds c
leaf_holds texts (value.str t) p g = text_holds t
leaf_holds byte_strings (value.bytes bs) p g = bytes_hold bs
leaf_holds byte_buffers (value.bytes bs) p g = bytes_hold bs
leaf_holds units value.unit p g = unit_holds
leaf_holds (extended_values k) v p g = extended_holds k v g
leaf_holds raw_documents (value.raw_document b) p g = raw_document_holds b
leaf_holds raw_arrays (value.raw_array b) p g = raw_array_holds b
leaf_holds raw_values v p g = absurd (p tt)
leaf_holds k v p g = absurd g
