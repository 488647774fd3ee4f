-- The tree that the bytes of a document are, or the first fault in them. Source: bsonspec.org, version 1.1, `document`, and the limits of this library.
use Rattle.std.specs.Prelude.{◌≡◌, ◌⊎◌, ℕ, zero, suc, Result, Ok, Err}
use Rattle.bson_kinds.specs.Outcome.{◌>>=◌, result_map}
use Rattle.bson_base.specs.Pairs.{put}
use Rattle.bson_base.specs.Sorted.{sorted}
use Rattle.bson_base.specs.Sound.{max_levels}
use Rattle.bson_kinds.specs.Text.{Bytes}
use Rattle.bson_base.specs.Tree.{Tree, double, string, document, array, binary, undefined, object_id, boolean, date_time, null, regular_expression, db_pointer, javascript_code, symbol, javascript_code_with_scope, int32, timestamp, int64, decimal128, max_key, min_key, Pairs, no_pairs, Trees, no_trees, tree}
use Rattle.bson_rawdoc.specs.RawValue as raw
use Rattle.bson_rawdoc.specs.RawValue.{RawValue, value_in}
use Rattle.bson_rawdoc.specs.Walk.{Walk, ended, faulty, then_walk, walk}
use Rattle.bson_faults.specs.declared.raw.Error.{Error}
use Rattle.bson_faults.specs.declared.raw.Error.TheVariants.{TooDeep, NoMemory}

-- ---- a value, a document and an array

-- The tree that a value is, with its options in order. The functions give the pairs of a document or a scope, and the values of an array.
abbrev pub tree_with : (Bytes → Result Pairs Error) → (Bytes → Result Trees Error) → RawValue → Result Tree Error
tree_with pairs trees (raw.double bits) = Ok (double bits)
tree_with pairs trees (raw.string t) = Ok (string t)
tree_with pairs trees (raw.document b) = result_map document (pairs b)
tree_with pairs trees (raw.array b) = result_map array (trees b)
tree_with pairs trees (raw.binary subtype b) = Ok (binary subtype b)
tree_with pairs trees raw.undefined = Ok undefined
tree_with pairs trees (raw.object_id id) = Ok (object_id id)
tree_with pairs trees (raw.boolean b) = Ok (boolean b)
tree_with pairs trees (raw.date_time n) = Ok (date_time n)
tree_with pairs trees raw.null = Ok null
tree_with pairs trees (raw.regular_expression pattern options) = Ok (regular_expression pattern (sorted options))
tree_with pairs trees (raw.db_pointer namespace id) = Ok (db_pointer namespace id)
tree_with pairs trees (raw.javascript_code t) = Ok (javascript_code t)
tree_with pairs trees (raw.symbol t) = Ok (symbol t)
tree_with pairs trees (raw.javascript_code_with_scope code scope) = result_map (javascript_code_with_scope code) (pairs scope)
tree_with pairs trees (raw.int32 n) = Ok (int32 n)
tree_with pairs trees (raw.timestamp time increment) = Ok (timestamp time increment)
tree_with pairs trees (raw.int64 n) = Ok (int64 n)
tree_with pairs trees (raw.decimal128 b) = Ok (decimal128 b)
tree_with pairs trees raw.max_key = Ok max_key
tree_with pairs trees raw.min_key = Ok min_key

-- The pairs so far and those of the elements that are left, each value first judged and then made a tree. A repeated key keeps its first place and takes its last
-- value.
abbrev pub pairs_with : (RawValue → Result Tree Error) → (done : Pairs) → Walk → Result Pairs Error
pairs_with make done ended = Ok done
pairs_with make done (faulty e) = Err e
pairs_with make done (then_walk e w) = (value_in e.kind e.value >>= make) >>= λ t. pairs_with make (put e.key t done) w

-- one more value at the end
abbrev pub and_last : Trees → Tree → Trees
and_last no_trees t = tree t no_trees
and_last (tree u us) t = tree u (and_last us t)

-- the values so far and those of the elements that are left; the keys of an array are not looked at
abbrev pub trees_with : (RawValue → Result Tree Error) → (done : Trees) → Walk → Result Trees Error
trees_with make done ended = Ok done
trees_with make done (faulty e) = Err e
trees_with make done (then_walk e w) = (value_in e.kind e.value >>= make) >>= λ t. trees_with make (and_last done t) w

abbrev mutual
  -- the pairs of a document or a scope, with so many levels of documents and arrays left
  pub pairs_at : (levels : ℕ) → Bytes → Result Pairs Error
  pairs_at zero b = Err TooDeep
  pairs_at (suc levels) b = pairs_with (tree_with (pairs_at levels) (trees_at levels)) no_pairs (walk b)

  -- the values of an array
  pub trees_at : (levels : ℕ) → Bytes → Result Trees Error
  trees_at zero b = Err TooDeep
  trees_at (suc levels) b = trees_with (tree_with (pairs_at levels) (trees_at levels)) no_trees (walk b)

-- the value of an element, with so many levels left
abbrev pub tree_at : (levels : ℕ) → RawValue → Result Tree Error
tree_at levels v = tree_with (pairs_at levels) (trees_at levels) v

-- the pairs of a whole document, or the first fault of any level in document order
abbrev pub document_pairs : Bytes → Result Pairs Error
document_pairs b = pairs_at max_levels b

-- the same for the values of a whole array
abbrev pub array_trees : Bytes → Result Trees Error
array_trees b = trees_at max_levels b

-- ---- calls

-- the call gives this, seen so, or it is refused so, unless memory ran out
abbrev pub Gives : {A B : Type 0} → (A → B) → Result A Error → Result B Error → Type 0
Gives see (Ok x) r = r ≡ Ok (see x)
Gives see (Err e) r = (r ≡ Err e) ⊎ (e ≡ NoMemory)
