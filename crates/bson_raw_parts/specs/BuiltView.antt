-- What contracts see of built trees. Source: this library's own types.
use Rattle.std.specs.Prelude.{◌≡◌, ◌≤◌, length}
use Rattle.bson_base.specs.Sound.{max_bytes}
use Rattle.bson_kinds.specs.Text.{Bytes, Utf8}
use Rattle.bson_base.specs.Tree as tree
use Rattle.bson_base.specs.Tree.{Tree, Pairs, enc}
use Rattle.bson_kinds.specs.declared.element_type.ElementType.{ElementType}
use Rattle.bson_kinds.specs.declared.element_type.ElementType.TheVariants as kinds
use Rattle.bson_kinds.specs.Piece.{Piece}
use Rattle.bson_values.specs.Marked.{Marked}
use Rattle.bson_values.specs.Value as value

-- a document or an array at the leaf of its kind
abbrev pub raw_made : ElementType → Piece → Marked
raw_made kinds.Array = value.raw_array
raw_made k = value.raw_document

-- a tree that is not given by its bytes
abbrev pub IsRawless : Tree → Type 0
IsRawless (tree.raw k b) = ⊥
IsRawless t = Unit {0}

-- such a tree of no more bytes than a document may have
abbrev pub IsWhole : Tree → Type 0
IsWhole t = IsRawless t × (length (enc t) ≤ max_bytes)

-- the kind of a document or of an array
abbrev pub IsContainer : ElementType → Type 0
IsContainer kinds.EmbeddedDocument = Unit {0}
IsContainer kinds.Array = Unit {0}
IsContainer k = ⊥

-- the bytes of a code with a scope, whose text is this
abbrev pub IsScopedCode : Utf8 → Bytes → Type 0
IsScopedCode code b = (scope : Pairs) × (b ≡ enc (tree.javascript_code_with_scope code scope))
