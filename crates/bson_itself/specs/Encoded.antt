-- The bytes of trees that are written as they were read, and of their parts. It is for the contracts of the functions that look for them; what callers are told is in `Kept`.
-- Source: bsonspec.org, version 1.1, `document`, `string`, `binary` and `element`.
use Rattle.std.specs.Prelude.{◌≡◌, ℕ, Bool, true}
use Rattle.std.specs.Str.{is_utf8}
use Rattle.bson_base.specs.Sorted.{sorted}
use Rattle.bson_base.specs.Sound.{IsBinary, IsZeroFree, HasBytes}
use Rattle.bson_kinds.specs.Text.{Bytes, Utf8, AreBytes}
use Rattle.bson_base.specs.Tree.{Tree, boolean, binary, regular_expression, db_pointer, Pairs, Trees, kind, enc, elements, array_elements, closed_text, enclosed, behind_subtype}
use Rattle.bson_kinds.specs.declared.element_type.ElementType.{ElementType}
use Rattle.bson_rawdoc.specs.Envelope.{inside}
use Rattle.bson_itself.specs.Itself.{IsItself, ArePairsThemselves, AreTreesThemselves, IsTakenSubtype}
use Rattle.bson_itself.specs.declared.untyped.UntypedLeaf.{UntypedLeaf}

-- the bytes of one such tree of this kind
abbrev pub EncodesItself : UntypedLeaf → ElementType → (levels : ℕ) → Bytes → Type 0
EncodesItself leaf k levels b = (t : Tree) × (kind t ≡ k) × IsItself leaf t levels × (enc t ≡ b)

-- the bytes of the elements of such a document
abbrev pub ArePairs : UntypedLeaf → (levels : ℕ) → Bytes → Type 0
ArePairs leaf levels b = (ps : Pairs) × ArePairsThemselves leaf ps levels × (elements ps ≡ b)

-- the bytes of the elements of such an array
abbrev pub AreTrees : UntypedLeaf → (levels : ℕ) → Bytes → Type 0
AreTrees leaf levels b = (ts : Trees) × AreTreesThemselves leaf ts levels × (array_elements 0 ts ≡ b)

-- the bytes of a text as a value: its length, the text, a zero
abbrev pub IsTextValue : Bytes → Type 0
IsTextValue b = (t : Utf8) × (is_utf8 t ≡ true) × (closed_text t ≡ b)

-- the bytes of a binary that the leaf takes
abbrev pub IsBinaryValue : UntypedLeaf → Bytes → Type 0
IsBinaryValue leaf b = (subtype : ℕ) × (inner : Bytes) × IsTakenSubtype leaf subtype × IsBinary subtype inner × (enc (binary subtype inner) ≡ b)

-- the bytes of a regular expression whose options are in order
abbrev pub IsExpression : Bytes → Type 0
IsExpression b = (pattern : Utf8) × (options : Utf8) × IsZeroFree pattern × IsZeroFree options × (sorted options ≡ options) × (enc (regular_expression pattern options) ≡ b)

-- the bytes of a DbPointer
abbrev pub IsPointer : Bytes → Type 0
IsPointer b = (namespace : Utf8) × (id : Bytes) × (is_utf8 namespace ≡ true) × HasBytes 12 id × (enc (db_pointer namespace id) ≡ b)

-- what is behind the subtype of a binary: its bytes, in the old subtype 2 their number in front
abbrev pub IsBehind : ℕ → Bytes → Type 0
IsBehind subtype b = (inner : Bytes) × AreBytes inner × (behind_subtype subtype inner ≡ b)

-- the byte of a boolean
abbrev pub IsTrueOrFalse : Bytes → Type 0
IsTrueOrFalse b = (truth : Bool) × (enc (boolean truth) ≡ b)

-- a length, other bytes, and a zero
abbrev pub IsFrame : Bytes → Type 0
IsFrame b = enclosed (inside b) ≡ b
