-- Reading a value as a tree, where a document with a wrapper key is the value that the key stands for. Source: MongoDB's extended JSON, version 2.
use Rattle.std.specs.Prelude.{ℕ, suc, Option, Some, None, if◌then◌else◌, Ok, codes}
use Rattle.std.specs.Str.{bytes_eq}
use Rattle.bson_kinds.specs.Outcome.{◌>>=◌, result_map}
use Rattle.bson_base.specs.Pairs.{put}
use Rattle.bson_base.specs.Sorted.{sorted}
use Rattle.bson_kinds.specs.Text.{Utf8}
use Rattle.bson_base.specs.Tree as tree
use Rattle.bson_base.specs.Tree.{Tree, Pairs, no_pairs, Trees, no_trees, kind}
use Rattle.bson_rawdoc.specs.Node.{Node, double, string, document, array, bytes, boolean, null, int32, int64, extended, Extended, binary, undefined, object_id, date_time, regular_expression, db_pointer, javascript_code, symbol, javascript_code_with_scope, timestamp, decimal128, max_key, min_key, Nodes, ended, faulty, then_node, kind_of}
use Rattle.bson_values.specs.Cause.{raw, invalid_type, unknown_field, missing_field, bad_body}
use Rattle.bson_values.specs.Refusal.{under, under_index}
use Rattle.bson_values.specs.Wrapper.{of_key}
use Rattle.bson_values.specs.declared.wrapper.Wrapper.{Wrapper}
use Rattle.bson_laws.specs.Judged.{Reading, refused, judged, scope_key}
use Rattle.bson_laws.specs.Wrapped.{Meaning, body, code, scope, meaning, text_at}

-- ---- parts

-- the key of a code in a document, `$code`
abbrev pub code_key : Utf8
code_key = codes "$code"

-- what is read from the value of a wrapper key, where it is valid
abbrev pub or_bad : Wrapper → Option Tree → Reading Tree
or_bad w (Some t) = Ok t
or_bad w None = refused (bad_body w)

-- the pairs of a tree that is a document
abbrev pub pairs_in : Tree → Reading Pairs
pairs_in (tree.document ps) = Ok ps
pairs_in t = refused (invalid_type (kind t))

-- ---- documents

-- A document with a wrapper key. Its value is the body of the document, and further elements stay unread; or the text of a code or a scope, and the document is
-- read on as such.
abbrev pub by_meaning : Wrapper → Meaning → Utf8 → Node → (value : Reading Tree) → (with_code : Utf8 → Reading Tree) → (with_scope : Pairs → Reading Tree) → Reading Tree
by_meaning w (body read) key n value with_code with_scope = under key (read n >>= or_bad w)
by_meaning w code key n value with_code with_scope = under key (text_at n) >>= with_code
by_meaning w scope key n value with_code with_scope = under key (value >>= pairs_in) >>= with_scope

-- An element of a document: the value of any other key is a tree, and the document is read on.
abbrev pub by_key : Option Wrapper → Utf8 → Node → (value : Reading Tree) → (others : Tree → Reading Tree) → (with_code : Utf8 → Reading Tree) → (with_scope : Pairs → Reading Tree) → Reading Tree
by_key None key n value others with_code with_scope = under key value >>= others
by_key (Some w) key n value others with_code with_scope = by_meaning w (meaning w) key n value with_code with_scope

-- after a scope: its code
abbrev pub after_scope : Pairs → Nodes → Reading Tree
after_scope ps ended = refused (missing_field code_key)
after_scope ps (faulty e) = refused (raw e)
after_scope ps (then_node key n ns) =
    if bytes_eq key.bytes code_key then result_map (λ t. tree.javascript_code_with_scope t ps) (under key.bytes (text_at n)) else refused (unknown_field key.bytes)

-- ---- values

abbrev mutual
  -- a judged value as a tree; the last row is for values that are broken or without a level, which were refused when they were judged
  pub as_tree : Node → Reading Tree
  as_tree (double bits) = Ok (tree.double bits)
  as_tree (string t) = Ok (tree.string t.bytes)
  as_tree (document slice ns) = document_tree ns no_pairs
  as_tree (array slice ns) = result_map tree.array (array_trees 0 ns)
  as_tree (bytes u b) = Ok (tree.binary 0 b.bytes)
  as_tree (boolean b) = Ok (tree.boolean b)
  as_tree null = Ok tree.null
  as_tree (int32 n) = Ok (tree.int32 n)
  as_tree (int64 n) = Ok (tree.int64 n)
  as_tree (extended x ns) = extended_tree x
  as_tree n = refused (invalid_type (kind_of n))

  -- an extended value as it is, the options of a regular expression sorted by character; a scope is a document
  pub extended_tree : Extended → Reading Tree
  extended_tree (binary subtype b) = Ok (tree.binary subtype b.bytes)
  extended_tree undefined = Ok tree.undefined
  extended_tree (object_id id) = Ok (tree.object_id id.bytes)
  extended_tree (date_time n) = Ok (tree.date_time n)
  extended_tree (regular_expression pattern options) = Ok (tree.regular_expression pattern.bytes (sorted options.bytes))
  extended_tree (db_pointer namespace id) = Ok (tree.db_pointer namespace.bytes id)
  extended_tree (javascript_code t) = Ok (tree.javascript_code t.bytes)
  extended_tree (symbol t) = Ok (tree.symbol t.bytes)
  extended_tree (javascript_code_with_scope t n) =
      result_map (tree.javascript_code_with_scope t.bytes) (under scope_key ((judged n >>= λ _. as_tree n) >>= pairs_in))
  extended_tree (timestamp time increment) = Ok (tree.timestamp time increment)
  extended_tree (decimal128 b) = Ok (tree.decimal128 b.bytes)
  extended_tree max_key = Ok tree.max_key
  extended_tree min_key = Ok tree.min_key

  -- the values of an array from this index on, up to the fault that ends their list
  pub array_trees : ℕ → Nodes → Reading Trees
  array_trees i ended = Ok no_trees
  array_trees i (faulty e) = refused (raw e)
  array_trees i (then_node key n ns) = under_index i (judged n >>= λ _. as_tree n) >>= λ t. result_map (tree.tree t) (array_trees (suc i) ns)

  -- the elements of a document after the pairs of those before them, up to the fault that ends their list
  pub document_tree : Nodes → Pairs → Reading Tree
  document_tree ended ps = Ok (tree.document ps)
  document_tree (faulty e) ps = refused (raw e)
  document_tree (then_node key n ns) ps =
      by_key (of_key key.bytes) key.bytes n (judged n >>= λ _. as_tree n) (λ t. document_tree ns (put key.bytes t ps)) (λ t. after_code t ns)
      (λ qs. after_scope qs ns)

  -- after the text of a code: nothing, or its scope
  pub after_code : Utf8 → Nodes → Reading Tree
  after_code t ended = Ok (tree.javascript_code t)
  after_code t (faulty e) = refused (raw e)
  after_code t (then_node key n ns) =
      if bytes_eq key.bytes scope_key then result_map (tree.javascript_code_with_scope t) (under key.bytes ((judged n >>= λ _. as_tree n) >>= pairs_in))
      else refused (unknown_field key.bytes)

-- a value as a tree
abbrev pub read_tree : Node → Reading Tree
read_tree n = judged n >>= as_tree
