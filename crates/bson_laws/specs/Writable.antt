-- The shapes at which each value that is read is written again, unless it is too large. Source: bsonspec.org, version 1.1, `document` and `e_name`.
use Rattle.std.specs.Prelude.{◌≡◌, false}
use Rattle.bson_kinds.specs.Text.{Utf8, has_zero}
use Rattle.bson_shape.specs.Form.{Form, leaf, optional, lossy, human_readable, by_mode, newtype, definitions}
use Rattle.bson_shape.specs.declared.leaf.Leaf.{Leaf}
use Rattle.bson_kinds.specs.declared.element_type.ElementType.TheVariants.{RegularExpression, JavaScriptCodeWithScope, EmbeddedDocument, Array}
use Rattle.bson_kinds.specs.declared.element_type.ElementType.{ElementType}
use Rattle.bson_laws.specs.Leaves.{LeafKind, ignored, extended_values, of_kind, trees, documents, leaf_kind}
use Rattle.bson_laws.specs.Every.{Rows, Every}
use Rattle.bson_laws.specs.Plain.{IsPlainKey}
use Rattle.bson_laws.specs.Settled.{settled_rows}
use Rattle.bson_laws.specs.Unrolled.{whole}

-- no value of the kind is or holds a regular expression
abbrev pub HoldsNoExpression : ElementType → Type 0
HoldsNoExpression RegularExpression = ⊥
HoldsNoExpression JavaScriptCodeWithScope = ⊥
HoldsNoExpression EmbeddedDocument = ⊥
HoldsNoExpression Array = ⊥
HoldsNoExpression k = Unit {0}

-- What is read at the leaf is written, unless it is too large. A regular expression that is given as texts in a document may hold a zero character, and then
-- it is not written.
abbrev pub IsWritableLeaf : LeafKind → Type 0
IsWritableLeaf (extended_values (of_kind k)) = HoldsNoExpression k
IsWritableLeaf (extended_values trees) = ⊥
IsWritableLeaf (extended_values documents) = ⊥
IsWritableLeaf k = Unit {0}

-- each map has texts or unit variants as its keys, and each field's name holds no zero character
abbrev pub writable_rows : Rows
writable_rows = record settled_rows {
  of_leaf = λ (l : Leaf). IsWritableLeaf (leaf_kind l);
  of_map = λ (key : Form) (in_key in_value : Type 0). IsPlainKey key × in_value;
  of_definitions = λ (in_fields in_forms in_body : Type 0). in_forms × in_body;
  of_field = λ (name : Utf8) (in_form in_rest : Type 0). (has_zero name ≡ false) × in_form × in_rest;
}

-- Each field's name is a cstring, which holds no zero character, and each map has texts or unit variants as its keys. The name of a
-- variant needs no such condition: as a key it was read from a key, which holds no zero character, and elsewhere it is written as a text. Nor does the name
-- of a definition, which is never written. Forms that depend on whether the reader is human are left out.
abbrev pub HasWritableKeys : Form → Type 0
HasWritableKeys = Every writable_rows

-- what a leaf reads from a document is a document: not the unit that an ignored value leaves, nor an extended value that a document stands for
abbrev pub KeepsDocumentLeaf : LeafKind → Type 0
KeepsDocumentLeaf ignored = ⊥
KeepsDocumentLeaf (extended_values documents) = Unit {0}
KeepsDocumentLeaf (extended_values k) = ⊥
KeepsDocumentLeaf k = Unit {0}

-- what is read from a document is a document again; a reference that has no definition is read from none
abbrev pub KeepsDocument : Form → Type 0
KeepsDocument (leaf l) = KeepsDocumentLeaf (leaf_kind l)
KeepsDocument (optional s) = KeepsDocument s
KeepsDocument (lossy s) = KeepsDocument s
KeepsDocument (human_readable s) = ⊥
KeepsDocument (by_mode readable compact) = ⊥
KeepsDocument (newtype name s) = KeepsDocument s
KeepsDocument (definitions h s) = KeepsDocument s
KeepsDocument s = Unit {0}

-- Each key and each field's name can be written, and what is read from a document is one, at what the shape is unrolled to.
pub record IsWritable (s : Form) : Type 0 where
  pub keys : HasWritableKeys s
  pub document : KeepsDocument (whole s)
