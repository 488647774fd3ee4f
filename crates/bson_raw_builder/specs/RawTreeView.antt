-- What contracts see of values of a tree at raw leaves. Source: this library's own types.
use Rattle.std.specs.Prelude.{◌≡◌, Option, Some, None, Result, Ok, Err}
use Rattle.bson_kinds.specs.Outcome.{◌>>=◌}
use Rattle.bson_base.specs.Tree.{Tree, Pairs}
use Rattle.bson_kinds.specs.declared.element_type.ElementType.{ElementType}
use Rattle.bson_rawdoc.specs.Node as node
use Rattle.bson_rawdoc.specs.Node.{Node, ended, extended}
use Rattle.bson_kinds.specs.Piece.{Piece}
use Rattle.bson_shape.specs.declared.leaf.Leaf.{Leaf}
use Rattle.bson_shape.specs.declared.leaf.Leaf.TheVariants.{RawDocument, RawArray, RawBson}
use Rattle.bson_values.specs.Cause.{not_borrowed}
use Rattle.bson_values.specs.Marked.{Marked}
use Rattle.bson_values.specs.Refusal.{under}
use Rattle.bson_values.specs.Stop.{stop_view}
use Rattle.bson_values.specs.ErrorView.{read_fault}
use Rattle.bson_values.specs.declared.de.Fault.{Fault}
use Rattle.bson_values.specs.declared.stop.Stop.{Stop}
use Rattle.bson_laws.specs.Assembled.{raw_bytes}
use Rattle.bson_laws.specs.Judged.{Reading, refused, judged, scope_key}
use Rattle.bson_laws.specs.TreeRaw.{held_scope, read_built, built_container, built_value, opened_tree, tree_raw_of}
use Rattle.bson_met.specs.Gives.{RefusesAs}
use Rattle.bson_raw_parts.specs.BuiltView.{raw_made, IsWhole}
use Rattle.bson_raw_parts.specs.Putting.{code_built}
use Rattle.bson_raw_parts.specs.RawValueView.{raw_view}
use Rattle.bson_raw_parts.specs.declared.raw_value.RawValue.{RawValue}

-- a leaf of documents, of arrays or of values in their bytes
abbrev pub IsRaw : Leaf → Type 0
IsRaw RawDocument = Unit {0}
IsRaw RawArray = Unit {0}
IsRaw RawBson = Unit {0}
IsRaw l = ⊥

-- a document or an array of this kind, at the leaf of its kind
abbrev pub raw_at : ElementType → Node → Reading Marked
raw_at k n = judged n >>= tree_raw_of k (raw_made k)

-- ---- what is built

-- the kind and the bytes of what is built, or its refusal; or memory ran out
abbrev pub IsBuilt : Result RawValue (Stop Fault) → Reading Tree → Type 0
IsBuilt (Ok v) expected = (t : Tree) × (expected ≡ Ok t) × (raw_view v ≡ raw_bytes t) × IsWhole t
IsBuilt (Err s) expected = RefusesAs (stop_view read_fault s) expected

-- what is built of a document or of an array
abbrev pub container_expected : Node → Reading Tree
container_expected n = judged n >>= built_container

-- what was built, as a value
abbrev pub as_value : Reading Tree → Reading Marked
as_value r = r >>= built_value

-- a value in a document that opening makes
abbrev pub opened_expected : Node → Reading Tree
opened_expected n = judged n >>= opened_tree

-- the value of a document whose first key is `$code`, from the value of this key
abbrev pub IsCodeBuilt : Tree → RawValue → Type 0
IsCodeBuilt v built = (t : Tree) × (rest : Pairs) × (code_built v rest 199 ≡ Ok t) × IsWhole t × (raw_view built ≡ raw_bytes t)

-- ---- scopes

-- a tree in memory; what is none is not put in bytes
abbrev pub or_not_borrowed : Option Tree → Reading Tree
or_not_borrowed (Some t) = Ok t
or_not_borrowed None = refused not_borrowed

-- the tree that a scope is, for which a level is left
abbrev pub scope_tree : Node → Reading Tree
scope_tree n = under scope_key (judged n) >>= λ m. or_not_borrowed (held_scope m)

-- a code with its scope, as it is built
abbrev pub scoped_expected : Piece → Node → Reading Marked
scoped_expected code n = under scope_key (judged n) >>= λ _. as_value (read_built (extended (node.javascript_code_with_scope code n) ended))
