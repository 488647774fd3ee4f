-- The tree that a value is made into, or why it is not made into one. Source: serde's data model, and MongoDB's extended JSON, version 2.
use Rattle.std.specs.Prelude.{encode_utf8, ℕ, zero, suc, Bool, true, false, ◌||◌, is_some, Option, Some, None, if◌then◌else◌, Result, Ok, Err}
use Rattle.bson_base.specs.Folded.{fold}
use Rattle.bson_kinds.specs.Outcome.{◌>>=◌, result_map}
use Rattle.bson_base.specs.Pairs.{put}
use Rattle.bson_kinds.specs.Reserved.{reserved_kind}
use Rattle.bson_base.specs.Sound.{max_levels}
use Rattle.bson_kinds.specs.Text.{Bytes, Utf8}
use Rattle.bson_base.specs.Tree as tree
use Rattle.bson_base.specs.Tree.{Tree, string, document, array, binary, null, Pairs, no_pairs, pair, Trees, no_trees}
use Rattle.bson_values.specs.Value.{written_as, Value, boolean, integer, double, character, str, bytes, none, some, unit, unit_structure, newtype, sequence, map, structure, unit_variant, newtype_variant, tuple, tuple_structure, tuple_variant, structure_variant, raw_document, raw_array, mode, Items, no_items, item, Entries, no_entries, entry, FieldValues, no_field_values, field_value, readable_inside}
use Rattle.bson_rawdoc.specs.DocumentTree.{document_pairs, array_trees}
use Rattle.bson_faults.specs.declared.raw.Error.{Error}
use Rattle.bson_values.specs.Cause.{raw, too_deep, bad_uuid}
use Rattle.bson_values.specs.Refusal.{unwritable, invalid_document_key, here, under, under_index}
use Rattle.bson_laws.specs.Spell.{Writing, enclosed_at, newtype_at, spell_number}
use Rattle.bson_laws.specs.UuidBytes.{uuid_bytes}

-- the newtype of a UUID, by the bytes that it holds
abbrev pub tree_uuid : Option Bytes → Writing Tree
tree_uuid None = Err (here (unwritable bad_uuid))
tree_uuid (Some bs) = Ok (binary 4 bs)

-- a key of a document, which is a text
abbrev pub tree_key : Tree → Writing Utf8
tree_key (string t) = Ok t
tree_key t = Err (here (invalid_document_key t))

-- A document or an array that is given by its bytes takes a level. It is read with levels of its own, from the first, and a fault in its bytes is its refusal.
abbrev pub tree_read : ℕ → Result Tree Error → Writing Tree
tree_read zero read = Err (here (unwritable too_deep))
tree_read (suc levels) (Ok t) = Ok t
tree_read (suc levels) (Err e) = Err (here (unwritable (raw e)))

-- a variant with contents: a document of one pair, which is not folded
abbrev pub tree_variant : Utf8 → ℕ → (ℕ → Writing Tree) → Writing Tree
tree_variant name levels content = enclosed_at document levels (λ inside. under name (content inside) >>= λ t. Ok (pair name t no_pairs))

-- a struct of a reserved name takes no level, and no struct does that is reached from such a one by fields alone
abbrev pub is_levelless : (in_reserved : Bool) → Utf8 → Bool
is_levelless in_reserved name = in_reserved || is_some (reserved_kind name)

-- a struct is folded after its fields
abbrev pub tree_struct : (levelless : Bool) → ℕ → (ℕ → Writing Pairs) → Writing Tree
tree_struct true levels parts = result_map fold (parts levels)
tree_struct false levels parts = enclosed_at fold levels parts

abbrev mutual
  -- The tree of a value, in its readable form or in its compact one, with so many levels left, or the first refusal in document order. `in_reserved` says
  -- whether the value is reached from a struct of a reserved name by fields alone.
  pub tree_spell : (readable in_reserved : Bool) → Value → (levels : ℕ) → Writing Tree
  tree_spell readable r (boolean b) levels = Ok (tree.boolean b)
  tree_spell readable r (integer type n) levels = spell_number (written_as type) n
  tree_spell readable r (double bits) levels = Ok (tree.double bits)
  tree_spell readable r (character c) levels = Ok (string (encode_utf8 c))
  tree_spell readable r (str t) levels = Ok (string t)
  tree_spell readable r (bytes bs) levels = Ok (binary 0 bs)
  tree_spell readable r none levels = Ok null
  tree_spell readable r (some v) levels = tree_spell readable false v levels
  tree_spell readable r unit levels = Ok null
  tree_spell readable r (unit_structure name) levels = Ok null
  tree_spell readable r (unit_variant name) levels = Ok (string name)
  tree_spell readable r (newtype name v) levels = newtype_at name (tree_uuid (uuid_bytes readable v)) (tree_spell (readable_inside readable name) false v levels)
  tree_spell readable r (mode v w) levels = if readable then tree_spell readable false v levels else tree_spell readable false w levels
  tree_spell readable r (sequence vs) levels = enclosed_at array levels (tree_items readable 0 vs)
  tree_spell readable r (tuple vs) levels = enclosed_at array levels (tree_items readable 0 vs)
  tree_spell readable r (tuple_structure name vs) levels = enclosed_at array levels (tree_items readable 0 vs)
  tree_spell readable r (map es) levels = enclosed_at fold levels (tree_entries readable es no_pairs)
  tree_spell readable r (structure name fs) levels = tree_struct (is_levelless r name) levels (tree_fields readable (is_levelless r name) fs no_pairs)
  tree_spell readable r (raw_document bs) levels = tree_read levels (result_map document (document_pairs bs))
  tree_spell readable r (raw_array bs) levels = tree_read levels (result_map array (array_trees bs))
  tree_spell readable r (newtype_variant name v) levels = tree_variant name levels (tree_spell readable false v)
  tree_spell readable r (tuple_variant name vs) levels = tree_variant name levels (λ inside. enclosed_at array inside (tree_items readable 0 vs))
  tree_spell readable r (structure_variant name fs) levels = tree_variant name levels (λ inside. enclosed_at fold inside (tree_fields readable false fs no_pairs))

  -- the values of a sequence from this index on
  pub tree_items : (readable : Bool) → (index : ℕ) → Items → (levels : ℕ) → Writing Trees
  tree_items readable i no_items levels = Ok no_trees
  tree_items readable i (item v vs) levels = under_index i (tree_spell readable false v levels) >>= λ t. tree_items readable (suc i) vs levels >>= λ ts. Ok (tree.tree t ts)

  -- The pairs of a map after those before them: a repeated key replaces the value in its place. A key is made into a tree as every value is: the refusal of the key
  -- itself has the path of the map, and that of a value inside the key its way from there.
  pub tree_entries : (readable : Bool) → Entries → Pairs → (levels : ℕ) → Writing Pairs
  tree_entries readable no_entries ps levels = Ok ps
  tree_entries readable (entry k v es) ps levels =
      (tree_spell readable false k levels >>= tree_key) >>= λ key. under key (tree_spell readable false v levels) >>= λ t. tree_entries readable es (put key t ps) levels

  -- the same for the fields of a struct
  pub tree_fields : (readable in_reserved : Bool) → FieldValues → Pairs → (levels : ℕ) → Writing Pairs
  tree_fields readable r no_field_values ps levels = Ok ps
  tree_fields readable r (field_value name v fs) ps levels = under name (tree_spell readable r v levels) >>= λ t. tree_fields readable r fs (put name t ps) levels

-- the text that a key of a map is, which is made into a tree as every value is
abbrev pub tree_key_text : (readable : Bool) → Value → (levels : ℕ) → Writing Utf8
tree_key_text readable k levels = tree_spell readable false k levels >>= tree_key

-- a whole value
abbrev pub tree_whole : (readable : Bool) → Value → Writing Tree
tree_whole readable v = tree_spell readable false v max_levels
