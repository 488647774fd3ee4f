-- Reading a judged value without a shape, and at a leaf of serde's data model. Source: serde's data model.
use Rattle.std.specs.Prelude.{ℕ, suc, Bool, true, false, if◌then◌else◌, Ok}
use Rattle.bson_kinds.specs.Outcome.{◌>>=◌, result_map}
use Rattle.bson_rawdoc.specs.Node.{Node, double, string, document, array, bytes, boolean, int32, int64, extended, Nodes, ended, faulty, then_node, kind_of}
use Rattle.bson_kinds.specs.Piece.{made}
use Rattle.bson_shape.specs.declared.leaf.Leaf.{Leaf}
use Rattle.bson_shape.specs.declared.leaf.Leaf.TheVariants as leaf_words
use Rattle.bson_values.specs.Value as value
use Rattle.bson_values.specs.Value.{i32, i64, no_items, item, no_entries, entry}
use Rattle.bson_values.specs.Marked.{Marked, MarkedItems, MarkedEntries, contents}
use Rattle.bson_values.specs.Same.{same}
use Rattle.bson_values.specs.Cause.{raw, invalid_type}
use Rattle.bson_values.specs.Refusal.{under, under_index}
use Rattle.bson_laws.specs.Leaves.{LeafKind, anything, ignored, booleans, numbers, doubles, characters, texts, byte_strings, byte_buffers, units, ExtendedLeaf, extended_values, raw_documents, raw_arrays, raw_values}
use Rattle.bson_laws.specs.Judged.{Reading, refused, judged, passes}
use Rattle.bson_laws.specs.ReadsRaw.{raw_document_of, raw_array_of, raw_value_of}
use Rattle.bson_laws.specs.Taken.{boolean_of, integer_of, double_of, null_of, owned_under_mark, text_of, bytes_of, read_integer, character_of, buffer_of}

-- the entries of a map with one more: a key that is there keeps its place and takes the value; another goes last
abbrev pub put_entry : Marked → Marked → MarkedEntries → MarkedEntries
put_entry k v no_entries = entry k v no_entries
put_entry k v (entry key old es) = if same (contents k) (contents key) then entry key v es else entry key old (put_entry k v es)

abbrev mutual
  -- A judged value without a shape: an array as a sequence, a document and an extended value as a map whose keys are texts. Texts and byte
  -- strings are borrowed where they are in the input and texts are not mended. The last row is for null: what is broken or too deep was refused when it was judged.
  pub read_any : Node → Reading Marked
  read_any (boolean b) = Ok (value.boolean b)
  read_any (int32 n) = Ok (value.integer i32 n)
  read_any (int64 n) = Ok (value.integer i64 n)
  read_any (double bits) = Ok (value.double bits)
  read_any (string t) = Ok (value.str t)
  read_any (bytes u b) = Ok (value.bytes (owned_under_mark u b))
  read_any (array slice ns) = result_map value.sequence (any_items 0 ns)
  read_any (document slice ns) = result_map value.map (any_entries ns no_entries)
  read_any (extended x ns) = result_map value.map (any_entries ns no_entries)
  read_any n = result_map (λ _. value.unit) (null_of n)

  pub any_items : ℕ → Nodes → Reading MarkedItems
  any_items i ended = Ok no_items
  any_items i (faulty e) = refused (raw e)
  any_items i (then_node key n ns) = under_index i (judged n >>= λ _. read_any n) >>= λ v. result_map (item v) (any_items (suc i) ns)

  pub any_entries : Nodes → MarkedEntries → Reading MarkedEntries
  any_entries ended es = Ok es
  any_entries (faulty e) es = refused (raw e)
  any_entries (then_node key n ns) es =
      under key.bytes (judged n >>= λ _. read_any n) >>= λ v. any_entries ns (put_entry (value.str key) v es)

-- ---- at a leaf

-- whether a leaf asks that what it takes be borrowed: `str` and `bytes` do
abbrev pub borrows : Leaf → Bool
borrows leaf_words.Str = true
borrows leaf_words.Bytes = true
borrows l = false

-- at an extended leaf, where none occurs: in the keys of maps, and in the bodies of wrapper keys
abbrev pub no_extended : ExtendedLeaf → Node → Reading Marked
no_extended k n = refused (invalid_type (kind_of n))

-- A judged value at a leaf of this kind, which borrows its text or not. How it is read at an extended leaf is given.
abbrev pub read_leaf_with : (ExtendedLeaf → Node → Reading Marked) → (is_borrowing : Bool) → LeafKind → Node → Reading Marked
read_leaf_with read b anything n = read_any n
read_leaf_with read b ignored n = result_map (λ _. value.unit) (passes n)
read_leaf_with read b booleans n = result_map value.boolean (boolean_of n)
read_leaf_with read b (numbers type) n = integer_of n >>= read_integer type
read_leaf_with read b doubles n = result_map value.double (double_of n)
read_leaf_with read b characters n = character_of n
read_leaf_with read b texts n = result_map value.str (text_of b n)
read_leaf_with read b byte_strings n = result_map value.bytes (bytes_of n)
read_leaf_with read b byte_buffers n = result_map (λ bs. value.bytes (made bs)) (buffer_of n)
read_leaf_with read b units n = result_map (λ _. value.unit) (null_of n)
read_leaf_with read b (extended_values k) n = read k n
read_leaf_with read b raw_documents n = result_map value.raw_document (raw_document_of n)
read_leaf_with read b raw_arrays n = result_map value.raw_array (raw_array_of n)
read_leaf_with read b raw_values n = raw_value_of n
