-- A BSON value as a tree, and its bytes. Source: bsonspec.org, version 1.1.
use Rattle.std.specs.Prelude.{ℕ, suc, ◌+◌, max, [], ◌∷◌, ◌++◌, length, ℤ, Bool, if◌then◌else◌, nat_eq}
use Rattle.std.specs.Fmt.{decimal}
use Rattle.std.specs.Int.{w32, w64, to_le_bytes, cast_unsigned}
use Rattle.bson_kinds.specs.Text.{Bytes, Utf8}
use Rattle.bson_kinds.specs.Kind.{byte}
use Rattle.bson_kinds.specs.declared.element_type.ElementType.TheVariants as kinds
use Rattle.bson_kinds.specs.declared.element_type.ElementType.{ElementType}

mutual
  -- a value
  pub data Tree : Type 0 where
    double : Bytes → Tree
    string : Utf8 → Tree
    document : Pairs → Tree
    array : Trees → Tree
    binary : (subtype : ℕ) → (bytes : Bytes) → Tree
    undefined : Tree
    object_id : Bytes → Tree
    boolean : Bool → Tree
    date_time : (milliseconds : ℤ) → Tree
    null : Tree
    regular_expression : (pattern : Utf8) → (options : Utf8) → Tree
    db_pointer : (namespace : Utf8) → (id : Bytes) → Tree
    javascript_code : Utf8 → Tree
    symbol : Utf8 → Tree
    javascript_code_with_scope : (code : Utf8) → (scope : Pairs) → Tree
    int32 : ℤ → Tree
    timestamp : (time : ℕ) → (increment : ℕ) → Tree
    int64 : ℤ → Tree
    decimal128 : Bytes → Tree
    max_key : Tree
    min_key : Tree
    -- a value of this kind that is given by its bytes
    raw : (kind : ElementType) → (bytes : Bytes) → Tree

  -- the pairs of a document, in order
  pub data Pairs : Type 0 where
    no_pairs : Pairs
    pair : (key : Utf8) → (value : Tree) → (rest : Pairs) → Pairs

  -- the values of an array, in order
  pub data Trees : Type 0 where
    no_trees : Trees
    tree : (value : Tree) → (rest : Trees) → Trees

abbrev pub kind : Tree → ElementType
kind (double bytes) = kinds.Double
kind (string t) = kinds.String
kind (document ps) = kinds.EmbeddedDocument
kind (array ts) = kinds.Array
kind (binary subtype bytes) = kinds.Binary
kind undefined = kinds.Undefined
kind (object_id id) = kinds.ObjectId
kind (boolean b) = kinds.Boolean
kind (date_time n) = kinds.DateTime
kind null = kinds.Null
kind (regular_expression pattern options) = kinds.RegularExpression
kind (db_pointer namespace id) = kinds.DbPointer
kind (javascript_code t) = kinds.JavaScriptCode
kind (symbol t) = kinds.Symbol
kind (javascript_code_with_scope code scope) = kinds.JavaScriptCodeWithScope
kind (int32 n) = kinds.Int32
kind (timestamp time increment) = kinds.Timestamp
kind (int64 n) = kinds.Int64
kind (decimal128 bytes) = kinds.Decimal128
kind max_key = kinds.MaxKey
kind min_key = kinds.MinKey
kind (raw k bytes) = k

-- a number in four bytes, the low byte first
unfoldable pub le32 : ℕ → Bytes
le32 n = to_le_bytes w32 n

-- a number in eight bytes, the low byte first
unfoldable pub le64 : ℕ → Bytes
le64 n = to_le_bytes w64 n

-- a text: its length and one in four bytes, its bytes, a zero
abbrev pub closed_text : Utf8 → Bytes
closed_text t = le32 (length t + 1) ++ (t ++ 0 ∷ [])

-- the bytes of a binary behind its subtype: in the old subtype 2 a second length is before them
abbrev pub behind_subtype : ℕ → Bytes → Bytes
behind_subtype subtype bytes = if nat_eq subtype 2 then le32 (length bytes) ++ bytes else bytes

-- a binary: the length of what is behind its subtype, the subtype, and that
abbrev pub after_length : ℕ → Bytes → Bytes
after_length subtype behind = le32 (length behind) ++ (subtype ∷ behind)

-- a value of these parts: the length of all in four bytes, the parts
abbrev pub after_total : Bytes → Bytes
after_total parts = le32 (length parts + 4) ++ parts

-- a document of these elements: the length of all in four bytes, the elements, a zero
abbrev pub enclosed : Bytes → Bytes
enclosed elements = le32 (length elements + 5) ++ (elements ++ 0 ∷ [])

-- an element: the byte of its kind, its key closed by a zero, its value
abbrev pub element : ElementType → Utf8 → Bytes → Bytes
element k key value = byte k ∷ (key ++ (0 ∷ value))

abbrev mutual
  -- the bytes of a value
  pub enc : Tree → Bytes
  enc (double bytes) = bytes
  enc (string t) = closed_text t
  enc (document ps) = enclosed (elements ps)
  enc (array ts) = enclosed (array_elements 0 ts)
  enc (binary subtype bytes) = after_length subtype (behind_subtype subtype bytes)
  enc undefined = []
  enc (object_id id) = id
  enc (boolean b) = if b then 1 ∷ [] else 0 ∷ []
  enc (date_time n) = le64 (cast_unsigned w64 n)
  enc null = []
  enc (regular_expression pattern options) = pattern ++ (0 ∷ (options ++ 0 ∷ []))
  enc (db_pointer namespace id) = closed_text namespace ++ id
  enc (javascript_code t) = closed_text t
  enc (symbol t) = closed_text t
  enc (javascript_code_with_scope code scope) = after_total (closed_text code ++ enclosed (elements scope))
  enc (int32 n) = le32 (cast_unsigned w32 n)
  enc (timestamp time increment) = le32 increment ++ le32 time
  enc (int64 n) = le64 (cast_unsigned w64 n)
  enc (decimal128 bytes) = bytes
  enc max_key = []
  enc min_key = []
  enc (raw k bytes) = bytes

  -- the elements of a document
  pub elements : Pairs → Bytes
  elements no_pairs = []
  elements (pair key t ps) = element (kind t) key (enc t) ++ elements ps

  -- the elements of an array, whose keys are the decimal indexes from this one on
  pub array_elements : ℕ → Trees → Bytes
  array_elements i no_trees = []
  array_elements i (tree t ts) = element (kind t) (decimal i) (enc t) ++ array_elements (suc i) ts

abbrev mutual
  -- how many documents and arrays are inside one another, where a scope is a document; what is given by its bytes counts as one
  pub depth : Tree → ℕ
  depth (document ps) = suc (pairs_depth ps)
  depth (array ts) = suc (trees_depth ts)
  depth (javascript_code_with_scope code scope) = suc (pairs_depth scope)
  depth (raw k bytes) = 1
  depth t = 0

  pub pairs_depth : Pairs → ℕ
  pairs_depth no_pairs = 0
  pairs_depth (pair key t ps) = max (depth t) (pairs_depth ps)

  pub trees_depth : Trees → ℕ
  trees_depth no_trees = 0
  trees_depth (tree t ts) = max (depth t) (trees_depth ts)
