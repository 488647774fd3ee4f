-- A value as a reader meets it: in bytes, in a `Bson`, or made by opening. Source: bsonspec.org, version 1.1; the opened forms after MongoDB's extended JSON, but for
-- `$numberDecimalBytes`, the order of `$binary`, and the Int64s of `$timestamp`.
use Rattle.std.specs.Prelude.{ℕ, zero, suc, [], ◌∷◌, ℤ, pos, Bool, true, false, ◌||◌, drop, take, get_or, length, nat_lt, ◌+◌, ◌-◌, negsuc, if◌then◌else◌, Option, Some, None, Result, Ok, Err, codes}
use Rattle.std.specs.Fmt.{decimal}
use Rattle.std.specs.Ordering.{int_eq}
use Rattle.std.specs.Str.{is_utf8}
use Rattle.std.specs.Str.Lossy.{utf8_lossy}
use Rattle.bson_kinds.specs.Text.{Bytes, Utf8}
use Rattle.bson_kinds.specs.Outcome.{result_map, or_else}
use Rattle.bson_base.specs.Tree as trees
use Rattle.bson_base.specs.Tree.{Tree, Pairs, no_pairs, pair, Trees, no_trees, tree, enc}
use Rattle.bson_kinds.specs.declared.element_type.ElementType.TheVariants as kinds
use Rattle.bson_kinds.specs.declared.element_type.ElementType.{ElementType}
use Rattle.bson_rawdoc.specs.Envelope.{is_closed, inside}
use Rattle.bson_rawdoc.specs.Extent.{two_texts_in}
use Rattle.bson_base.specs.Made.{digits, number_text, base64_text}
use Rattle.bson_rawdoc.specs.Numbers.{uint32_in, int32_in, int64_in}
use Rattle.bson_kinds.specs.Piece.{Piece, borrowed, made}
use Rattle.bson_rawdoc.specs.RawValue as raw
use Rattle.bson_rawdoc.specs.RawValue.{RawValue, boolean_of, binary_in}
use Rattle.bson_rawdoc.specs.Walk.{Element, Walk, walk}
use Rattle.bson_rawdoc.specs.Walk as walks
use Rattle.bson_faults.specs.declared.raw.Error.{Error}
use Rattle.bson_faults.specs.declared.raw.Error.TheVariants.{BadExtent, NotUtf8, TextUnclosed, ScopeTotal, ValueUnclosed}

-- ---- values

-- what a document or an array is as a whole
pub data Whole : Type 0 where
  -- these bytes of the input
  of_bytes : Bytes → Whole
  -- this value of a tree in memory
  of_tree : Tree → Whole
  -- nothing but its elements: opening a value makes it
  of_opening : Whole

mutual
  -- A value. Its texts are not judged yet: a reader refuses one that is not UTF-8, where it is not mended.
  pub data Node : Type 0 where
    double : Bytes → Node
    string : Piece → Node
    -- a document and an array, with what they are as a whole
    document : (whole : Whole) → (elements : Nodes) → Node
    array : (whole : Whole) → (elements : Nodes) → Node
    -- a binary of subtype 0; where texts are mended it is borrowed at `bytes` and `rawbson` alone
    bytes : (under_mark : Bool) → Piece → Node
    boolean : Bool → Node
    null : Node
    int32 : ℤ → Node
    int64 : ℤ → Node
    -- an extended value, and the document that it is opened to (`opens` makes it, so that the two agree)
    extended : (value : Extended) → (opened : Nodes) → Node
    -- bytes that are no value of their kind
    broken : ElementType → Error → Node
    -- a document or an array where no level is left
    too_deep : ElementType → Node

  -- an extended value: none of double, string, document, array, binary of subtype 0, boolean, null, int32 and int64
  pub data Extended : Type 0 where
    -- a binary of another subtype than 0
    binary : (subtype : ℕ) → Piece → Extended
    undefined : Extended
    object_id : Piece → Extended
    date_time : (milliseconds : ℤ) → Extended
    regular_expression : (pattern : Piece) → (options : Piece) → Extended
    db_pointer : (namespace : Piece) → (id : Bytes) → Extended
    javascript_code : Piece → Extended
    symbol : Piece → Extended
    javascript_code_with_scope : (code : Piece) → (scope : Node) → Extended
    timestamp : (time : ℕ) → (increment : ℕ) → Extended
    decimal128 : Piece → Extended
    max_key : Extended
    min_key : Extended

  -- the elements of a document or an array in order, up to the end or the fault that ends the list; in an array the keys are not looked at
  pub data Nodes : Type 0 where
    ended : Nodes
    faulty : Error → Nodes
    then_node : (key : Piece) → (value : Node) → (rest : Nodes) → Nodes

abbrev pub extended_kind : Extended → ElementType
extended_kind (binary subtype b) = kinds.Binary
extended_kind undefined = kinds.Undefined
extended_kind (object_id id) = kinds.ObjectId
extended_kind (date_time n) = kinds.DateTime
extended_kind (regular_expression pattern options) = kinds.RegularExpression
extended_kind (db_pointer namespace id) = kinds.DbPointer
extended_kind (javascript_code t) = kinds.JavaScriptCode
extended_kind (symbol t) = kinds.Symbol
extended_kind (javascript_code_with_scope code scope) = kinds.JavaScriptCodeWithScope
extended_kind (timestamp time increment) = kinds.Timestamp
extended_kind (decimal128 b) = kinds.Decimal128
extended_kind max_key = kinds.MaxKey
extended_kind min_key = kinds.MinKey

abbrev pub kind_of : Node → ElementType
kind_of (double bits) = kinds.Double
kind_of (string t) = kinds.String
kind_of (document whole ns) = kinds.EmbeddedDocument
kind_of (array whole ns) = kinds.Array
kind_of (bytes u b) = kinds.Binary
kind_of (boolean b) = kinds.Boolean
kind_of null = kinds.Null
kind_of (int32 n) = kinds.Int32
kind_of (int64 n) = kinds.Int64
kind_of (extended x ns) = extended_kind x
kind_of (broken k e) = k
kind_of (too_deep k) = k

-- ---- the fault of a value

-- a text that is not UTF-8 is at fault
abbrev pub text_fault : Piece → Option Error
text_fault t = if is_utf8 t.bytes then None else Some NotUtf8

abbrev mutual
  pub fault : Node → Option Error
  fault (string t) = text_fault t
  fault (extended x ns) = extended_fault x
  fault (broken k e) = Some e
  fault n = None

  pub extended_fault : Extended → Option Error
  extended_fault (regular_expression pattern options) = or_else (text_fault pattern) (text_fault options)
  extended_fault (db_pointer namespace id) = text_fault namespace
  extended_fault (javascript_code t) = text_fault t
  extended_fault (symbol t) = text_fault t
  extended_fault (javascript_code_with_scope code scope) = or_else (text_fault code) (fault scope)
  extended_fault x = None

-- ---- the documents that extended values are opened to

-- a text that is made
abbrev pub made_text : Utf8 → Node
made_text t = string (made t)

-- the pair of a key
abbrev pub one : Utf8 → Node → Nodes
one key n = then_node (made key) n ended

-- a document that is made, which is not in the input
abbrev pub made_document : Nodes → Node
made_document ns = document of_opening ns

-- the pairs of two keys
abbrev pub two : Utf8 → Node → Utf8 → Node → Nodes
two key n other m = then_node (made key) n (one other m)

-- Keys, digits, numbers in texts, base64 and the bytes of a decimal are made. Other texts and a scope stay where they are. None of these documents takes a
-- level.
abbrev pub opened : Extended → Nodes
opened (object_id id) = one (codes "$oid") (made_text (digits id.bytes))
opened (date_time n) = one (codes "$date") (made_document (one (codes "$numberLong") (made_text (number_text n))))
opened (binary subtype b) = one (codes "$binary") (made_document (two (codes "subType") (made_text (digits (subtype ∷ []))) (codes "base64") (made_text (base64_text b.bytes))))
opened (timestamp time increment) = one (codes "$timestamp") (made_document (two (codes "t") (int64 (pos time)) (codes "i") (int64 (pos increment))))
opened (regular_expression pattern options) = one (codes "$regularExpression") (made_document (two (codes "pattern") (string pattern) (codes "options") (string options)))
opened (javascript_code t) = one (codes "$code") (string t)
opened (javascript_code_with_scope code scope) = two (codes "$code") (string code) (codes "$scope") scope
opened (symbol t) = one (codes "$symbol") (string t)
opened (db_pointer namespace id) = one (codes "$dbPointer") (made_document (two (codes "$ref") (string namespace) (codes "$id") (made_document (one (codes "$oid") (made_text (digits id))))))
opened (decimal128 b) = one (codes "$numberDecimalBytes") (bytes false (made b.bytes))
opened undefined = one (codes "$undefined") (boolean true)
opened max_key = one (codes "$maxKey") (int32 (pos 1))
opened min_key = one (codes "$minKey") (int32 (pos 1))

-- a value of an extended kind, with the document that it is opened to
abbrev pub opens : Extended → Node
opens x = extended x (opened x)

abbrev pub binary_node : (under_mark : Bool) → (subtype : ℕ) → Piece → Node
binary_node under_mark zero b = bytes under_mark b
binary_node under_mark (suc subtype) b = opens (binary (suc subtype) b)

-- ---- values whose texts are mended

-- a text in which U+FFFD stands for each ill-formed sequence, as `String::from_utf8_lossy` writes it; it is not in the input
abbrev pub mended_text : Piece → Piece
mended_text t = made (utf8_lossy t.bytes)

abbrev mutual
  -- The value as it is read where texts are mended. No text and no key of it is in the input, and a binary is borrowed as a byte string alone; a document and an
  -- array stay where they are. Keys are not mended, since one that is no text ends its list. What else is wrong with a value stays wrong.
  pub mended : Node → Node
  mended (string t) = string (mended_text t)
  mended (document whole ns) = document whole (mended_nodes ns)
  mended (array whole ns) = array whole (mended_nodes ns)
  mended (bytes u b) = bytes true b
  mended (extended x ns) = opens (mended_value x)
  mended n = n

  pub mended_value : Extended → Extended
  mended_value (regular_expression pattern options) = regular_expression (mended_text pattern) (mended_text options)
  mended_value (db_pointer namespace id) = db_pointer (mended_text namespace) id
  mended_value (javascript_code t) = javascript_code (mended_text t)
  mended_value (symbol t) = symbol (mended_text t)
  mended_value (javascript_code_with_scope code scope) = javascript_code_with_scope (mended_text code) (mended scope)
  mended_value x = x

  pub mended_nodes : Nodes → Nodes
  mended_nodes ended = ended
  mended_nodes (faulty e) = faulty e
  mended_nodes (then_node key n ns) = then_node (made key.bytes) (mended n) (mended_nodes ns)

-- ---- values in bytes

-- what bytes are as a value, or that they are none
abbrev pub or_broken : {A : Type 0} → ElementType → (A → Node) → Result A Error → Node
or_broken k f (Ok x) = f x
or_broken k f (Err e) = broken k e

-- the bytes of a text, between its length and the zero behind it
abbrev pub text_bytes : Bytes → Result Piece Error
text_bytes b = if is_closed b then Ok (borrowed (inside b)) else Err TextUnclosed

-- the bytes of two texts (a regular expression that has its extent has both)
abbrev pub two_bytes : Option (Bytes × Bytes) → Result (Piece × Piece) Error
two_bytes None = Err BadExtent
two_bytes (Some texts) = Ok (borrowed texts.0, borrowed texts.1)

-- the bytes of a text, and the twelve bytes of an ObjectId behind it
abbrev pub db_pointer_bytes : Bytes → Result (Piece × Bytes) Error
db_pointer_bytes b = result_map (λ namespace. (namespace, drop (length b - 12) b)) (text_bytes (take (length b - 12) b))

-- The bytes of a code whose length is announced as this, and those of the scope behind it. The length counts the zero behind the code, and leaves the scope
-- five bytes at least; the scope announces all the bytes that are left.
abbrev pub scoped_bytes : ℤ → Bytes → Result (Piece × Bytes) Error
scoped_bytes (negsuc n) b = Err ScopeTotal
scoped_bytes (pos n) b =
    if nat_lt n 1 || nat_lt (length b) (n + 4 + 5) then Err ScopeTotal
    else if int_eq (int32_in (drop (n + 4) b)) (pos (length (drop (n + 4) b))) then result_map (λ code. (code, drop (n + 4) b)) (text_bytes (take (n + 4) b))
    else Err ScopeTotal

-- The value of the kind that has these bytes, which are as many as its extent; the function makes the node of a document, an array and a scope.
abbrev pub node_with : (ElementType → Bytes → Node) → ElementType → Bytes → Node
node_with container kinds.Double b = double b
node_with container kinds.String b = or_broken kinds.String string (text_bytes b)
node_with container kinds.EmbeddedDocument b = container kinds.EmbeddedDocument b
node_with container kinds.Array b = container kinds.Array b
node_with container kinds.Binary b = or_broken kinds.Binary (λ p. binary_node false p.0 (borrowed p.1)) (binary_in b)
node_with container kinds.Undefined b = opens undefined
node_with container kinds.ObjectId b = opens (object_id (borrowed b))
node_with container kinds.Boolean b = or_broken kinds.Boolean boolean (boolean_of (get_or b 0 0))
node_with container kinds.DateTime b = opens (date_time (int64_in b))
node_with container kinds.Null b = null
node_with container kinds.RegularExpression b = or_broken kinds.RegularExpression (λ p. opens (regular_expression p.0 p.1)) (two_bytes (two_texts_in b))
node_with container kinds.DbPointer b = or_broken kinds.DbPointer (λ p. opens (db_pointer p.0 p.1)) (db_pointer_bytes b)
node_with container kinds.JavaScriptCode b = or_broken kinds.JavaScriptCode (λ t. opens (javascript_code t)) (text_bytes b)
node_with container kinds.Symbol b = or_broken kinds.Symbol (λ t. opens (symbol t)) (text_bytes b)
node_with container kinds.JavaScriptCodeWithScope b =
    or_broken kinds.JavaScriptCodeWithScope (λ p. opens (javascript_code_with_scope p.0 (container kinds.EmbeddedDocument p.1))) (scoped_bytes (int32_in (drop 4 b)) (drop 4 b))
node_with container kinds.Int32 b = int32 (int32_in b)
node_with container kinds.Timestamp b = opens (timestamp (uint32_in (drop 4 b)) (uint32_in b))
node_with container kinds.Int64 b = int64 (int64_in b)
node_with container kinds.Decimal128 b = opens (decimal128 (borrowed b))
node_with container kinds.MaxKey b = opens max_key
node_with container kinds.MinKey b = opens min_key

-- the elements of a walk, each value made so
abbrev pub nodes_with : (ElementType → Bytes → Node) → Walk → Nodes
nodes_with node walks.ended = ended
nodes_with node (walks.faulty e) = faulty e
nodes_with node (walks.then_walk e w) = then_node (borrowed e.key) (node e.kind e.value) (nodes_with node w)

-- a document, or an array
abbrev pub holding : ElementType → Whole → Nodes → Node
holding kinds.EmbeddedDocument whole ns = document whole ns
holding k whole ns = array whole ns

-- the node, where the last byte of the document or array is a zero
abbrev pub closed_node : ElementType → Bytes → Node → Node
closed_node k b n = if is_closed b then n else broken k ValueUnclosed

-- the value of this kind in these bytes, with so many levels of documents left
abbrev pub node_in : (levels : ℕ) → ElementType → Bytes → Node
node_in zero k b = node_with (λ c b. closed_node c b (too_deep c)) k b
node_in (suc levels) k b = node_with (λ c b. closed_node c b (holding c (of_bytes b) (nodes_with (node_in levels) (walk b)))) k b

-- ---- values of elements

-- a document, an array or a scope of these bytes, which are closed
abbrev pub inner_node : (levels : ℕ) → ElementType → Bytes → Node
inner_node zero k b = too_deep k
inner_node (suc levels) k b = holding k (of_bytes b) (nodes_with (node_in levels) (walk b))

-- the node of the value of an element; a document, an array and a scope are made of their bytes so
abbrev pub value_node : (ElementType → Bytes → Node) → RawValue → Node
value_node inner (raw.double bits) = double bits
value_node inner (raw.string t) = string (borrowed t)
value_node inner (raw.document b) = inner kinds.EmbeddedDocument b
value_node inner (raw.array b) = inner kinds.Array b
value_node inner (raw.binary subtype b) = binary_node false subtype (borrowed b)
value_node inner raw.undefined = opens undefined
value_node inner (raw.object_id id) = opens (object_id (borrowed id))
value_node inner (raw.boolean b) = boolean b
value_node inner (raw.date_time n) = opens (date_time n)
value_node inner raw.null = null
value_node inner (raw.regular_expression pattern options) = opens (regular_expression (borrowed pattern) (borrowed options))
value_node inner (raw.db_pointer namespace id) = opens (db_pointer (borrowed namespace) id)
value_node inner (raw.javascript_code t) = opens (javascript_code (borrowed t))
value_node inner (raw.symbol t) = opens (symbol (borrowed t))
value_node inner (raw.javascript_code_with_scope code scope) = opens (javascript_code_with_scope (borrowed code) (inner kinds.EmbeddedDocument scope))
value_node inner (raw.int32 n) = int32 n
value_node inner (raw.timestamp time increment) = opens (timestamp time increment)
value_node inner (raw.int64 n) = int64 n
value_node inner (raw.decimal128 b) = opens (decimal128 (borrowed b))
value_node inner raw.max_key = opens max_key
value_node inner raw.min_key = opens min_key

-- ---- values of a finished tree

-- what of a finished tree is in the input: its texts and keys, its byte strings; whether it is under a mark, where texts are mended; and whether it is a tree in memory
pub record Sight : Type 0 where
  pub texts : Bool
  pub bytes : Bool
  pub under_mark : Bool
  pub in_memory : Bool

-- a tree of the input
abbrev pub from_input : Sight
from_input = record { texts = true; bytes = true; under_mark = false; in_memory = false }

-- a tree of the input, where texts are mended
abbrev pub from_marked : Sight
from_marked = record { texts = false; bytes = true; under_mark = true; in_memory = false }

-- a tree in memory
abbrev pub from_memory : Sight
from_memory = record { texts = false; bytes = false; under_mark = false; in_memory = true }

-- a text or byte string of a finished tree, which is in the input or not
abbrev pub piece : Bool → Bytes → Piece
piece in_input b = record { bytes = b; in_input = in_input }

-- what a document or an array of a finished tree is as a whole: its bytes, where byte strings are in the input, or itself, where it is in memory
abbrev pub whole_at : Sight → Tree → Whole
whole_at at t = if at.bytes then of_bytes (enc t) else if at.in_memory then of_tree t else of_opening

-- a document or an array of these elements takes one of the levels that are left
abbrev pub one_level : ElementType → Whole → (ℕ → Nodes) → (levels : ℕ) → Node
one_level k whole ns zero = too_deep k
one_level k whole ns (suc levels) = holding k whole (ns levels)

-- a value that is under a mark or not
abbrev pub mended_if : (under_mark : Bool) → Node → Node
mended_if under_mark n = if under_mark then mended n else n

abbrev mutual
  -- The value that a tree is, with so many levels of documents left. A document, an array or a scope is in the input where byte strings are; what is given by
  -- its bytes is the value of these bytes, and always in the input.
  pub tree_node : (at : Sight) → Tree → (levels : ℕ) → Node
  tree_node at (trees.double bits) levels = double bits
  tree_node at (trees.string t) levels = string (piece at.texts t)
  tree_node at (trees.document ps) levels = one_level kinds.EmbeddedDocument (whole_at at (trees.document ps)) (pair_nodes at ps) levels
  tree_node at (trees.array ts) levels = one_level kinds.Array (whole_at at (trees.array ts)) (tree_nodes at 0 ts) levels
  tree_node at (trees.binary subtype b) levels = binary_node at.under_mark subtype (piece at.bytes b)
  tree_node at trees.undefined levels = opens undefined
  tree_node at (trees.object_id id) levels = opens (object_id (piece at.bytes id))
  tree_node at (trees.boolean b) levels = boolean b
  tree_node at (trees.date_time n) levels = opens (date_time n)
  tree_node at trees.null levels = null
  tree_node at (trees.regular_expression pattern options) levels = opens (regular_expression (piece at.texts pattern) (piece at.texts options))
  tree_node at (trees.db_pointer namespace id) levels = opens (db_pointer (piece at.texts namespace) id)
  tree_node at (trees.javascript_code t) levels = opens (javascript_code (piece at.texts t))
  tree_node at (trees.symbol t) levels = opens (symbol (piece at.texts t))
  tree_node at (trees.javascript_code_with_scope code scope) levels = opens (javascript_code_with_scope (piece at.texts code) (one_level kinds.EmbeddedDocument (whole_at at (trees.document scope)) (pair_nodes at scope) levels))
  tree_node at (trees.int32 n) levels = int32 n
  tree_node at (trees.timestamp time increment) levels = opens (timestamp time increment)
  tree_node at (trees.int64 n) levels = int64 n
  tree_node at (trees.decimal128 b) levels = opens (decimal128 (piece at.bytes b))
  tree_node at trees.max_key levels = opens max_key
  tree_node at trees.min_key levels = opens min_key
  tree_node at (trees.raw k b) levels = mended_if at.under_mark (node_in levels k b)

  pub pair_nodes : (at : Sight) → Pairs → (levels : ℕ) → Nodes
  pair_nodes at no_pairs levels = ended
  pair_nodes at (pair key t ps) levels = then_node (piece at.texts key) (tree_node at t levels) (pair_nodes at ps levels)

  -- the elements of an array have their decimal indexes as keys
  pub tree_nodes : (at : Sight) → (index : ℕ) → Trees → (levels : ℕ) → Nodes
  tree_nodes at i no_trees levels = ended
  tree_nodes at i (tree t ts) levels = then_node (piece at.texts (decimal i)) (tree_node at t levels) (tree_nodes at (suc i) ts levels)
