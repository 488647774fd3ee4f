-- What the parts of the pass append: the tree of a node, and the elements of a document or an array. It is for the contracts of these parts; what the pass
-- promises is in `Recast`. The forms are unrolled ones, but for a reader. Source: this library's own readers and writers.
use Rattle.std.specs.Prelude.{◌≡◌, ℕ, suc, [], ◌++◌, Option, Some, None, Ok, Err}
use Rattle.bson_kinds.specs.Outcome.{◌>>=◌}
use Rattle.bson_kinds.specs.Text.{Bytes, Utf8}
use Rattle.bson_base.specs.Tree as tree
use Rattle.bson_base.specs.Tree.{Tree, Trees, Pairs, enc, elements, array_elements, element, kind}
use Rattle.bson_kinds.specs.declared.element_type.ElementType.{ElementType}
use Rattle.bson_rawdoc.specs.Node as node
use Rattle.bson_rawdoc.specs.Node.{Whole, Node, Nodes}
use Rattle.bson_shape.specs.Form.{UnknownFields, dropped, Form, leaf, tuple, structure, Parts, Content, unit_content, newtype_content, tuple_content, struct_content}
use Rattle.bson_shape.specs.declared.leaf.Leaf.{Leaf}
use Rattle.bson_values.specs.Marked.{MarkedEntries, contents, item_contents, entry_contents, field_contents}
use Rattle.bson_laws.specs.Containers.{reads_items, reads_key, reads_entries}
use Rattle.bson_laws.specs.Judged.{Reading}
use Rattle.bson_laws.specs.Scopes.{laid}
use Rattle.bson_laws.specs.declared.origin.Reader.{Reader}
use Rattle.bson_laws.specs.Slots.{Slots, fill, finish}
use Rattle.bson_laws.specs.Spell.{Writing, spell, spell_items, spell_entries, spell_fields}
use Rattle.bson_pass_parts.specs.ReadsUnrolled.{reads, reads_parts}

-- what is written, where it is
abbrev pub of_writing : {A : Type 0} → Writing A → Option A
of_writing (Ok x) = Some x
of_writing (Err r) = None

-- what is written of what is read, where it is read and written
abbrev pub recast_by : {A B : Type 0} → (A → Writing B) → Reading A → Option B
recast_by write (Ok x) = of_writing (write x)
recast_by write (Err r) = None

-- the tree of a value, with so many levels left
abbrev pub recast_node : Form → (levels : ℕ) → Node → Option Tree
recast_node s levels n = recast_by (λ v. spell (contents v) levels) (reads s n)

-- the same for a reader, in the definitions around
abbrev pub recast_for : Reader → Form → (levels : ℕ) → Node → Option Tree
recast_for r s = recast_node (laid r s)

-- the trees of the elements of an array from this index on
abbrev pub recast_items : Form → (levels index : ℕ) → Nodes → Option Trees
recast_items s levels i ns = recast_by (λ vs. spell_items i (item_contents vs) levels) (reads_items (reads s) i ns)

-- the trees of the parts of a tuple from the elements of an array from this index on
abbrev pub recast_parts : Parts → (levels index : ℕ) → Nodes → Option Trees
recast_parts ps levels i ns = recast_by (λ vs. spell_items i (item_contents vs) levels) (reads_parts ps i ns)

-- the pairs of the fields of a struct from the elements of a document, put to what the slots have
abbrev pub recast_fields : UnknownFields → Slots → (levels : ℕ) → Nodes → Option Pairs
recast_fields u slots levels ns = recast_by (λ vs. spell_fields (field_contents vs) levels) (fill u ns slots >>= finish)

-- the pairs of the entries of a map from the elements of a document, put to those before them
abbrev pub recast_entries : Leaf → Form → MarkedEntries → (levels : ℕ) → Nodes → Option Pairs
recast_entries key s before levels ns = recast_by (λ es. spell_entries (entry_contents es) levels) (reads_entries (reads_key (leaf key)) (reads s) ns before)

-- the tree of the contents of a variant: those of a tuple variant are written as a tuple, and those of a struct variant as a struct
abbrev pub recast_content : Content → (levels : ℕ) → Node → Option Tree
recast_content unit_content levels n = None
recast_content (newtype_content s) levels n = recast_node s levels n
recast_content (tuple_content ps) levels n = recast_node (tuple ps) levels n
recast_content (struct_content fs) levels n = recast_node (structure dropped [] fs) levels n

-- the bytes of what there is were appended
abbrev pub ArePut : {A : Type 0} (bytes : A → Bytes) → Option A → (old new : Bytes) → Type 0
ArePut bytes None old new = ⊥
ArePut bytes (Some x) old new = new ≡ old ++ bytes x

-- a tree of this kind was appended
abbrev pub IsPut : Option Tree → (old new : Bytes) → ElementType → Type 0
IsPut None old new k = ⊥
IsPut (Some t) old new k = (kind t ≡ k) × (new ≡ old ++ enc t)

-- an element of this key with the tree was appended
abbrev pub IsElementPut : Option Tree → Utf8 → (old new : Bytes) → Type 0
IsElementPut o key old new = ArePut (λ t. element (kind t) key (enc t)) o old new

-- the elements of an array from this index on were appended
abbrev pub AreItemsPut : Option Trees → (index : ℕ) → (old new : Bytes) → Type 0
AreItemsPut o i old new = ArePut (array_elements i) o old new

-- the elements of a document were appended
abbrev pub ArePairsPut : Option Pairs → (old new : Bytes) → Type 0
ArePairsPut o old new = ArePut elements o old new

-- the elements were appended of the document that a document of these nodes is written as, in the input or not
abbrev pub AreInsidePut : Form → (levels : ℕ) → Nodes → (old new : Bytes) → Type 0
AreInsidePut s levels ns old new = (ps : Pairs) × ((slice : Whole) → recast_node s (suc levels) (node.document slice ns) ≡ Some (tree.document ps)) × (new ≡ old ++ elements ps)
