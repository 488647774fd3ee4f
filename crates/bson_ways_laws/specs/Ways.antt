-- What the laws of two ways ask of a shape, of the document that is read, and of the one that is written. Source: MongoDB's extended JSON, version 2, whose keys begin with `$`.
use Rattle.std.specs.Prelude.{◌≡◌, false, Some}
use Rattle.bson_base.specs.Sound.{max_levels}
use Rattle.bson_kinds.specs.Text.{Bytes, Utf8, begins_with_dollar}
use Rattle.bson_base.specs.Tree as tree
use Rattle.bson_base.specs.Tree.{Tree, document, array, javascript_code_with_scope, Pairs, no_pairs, pair, Trees, no_trees}
use Rattle.bson_kinds.specs.declared.element_type.ElementType.TheVariants.{EmbeddedDocument}
use Rattle.bson_rawdoc.specs.Node.{node_in}
use Rattle.bson_shape.specs.Form.{Form, human_readable, by_mode, newtype, structure}
use Rattle.bson_laws.specs.Every.{Rows, asking_nothing, Every}
use Rattle.bson_laws.specs.Leaves.{LeafKind, raw_documents, raw_arrays, raw_values, leaf_kind}
use Rattle.bson_laws.specs.Unmarked.{unmarked}
use Rattle.bson_tree_laws.specs.Alike.{HasFreeKeys}

-- the name, or the key, does not begin with `$`
abbrev pub IsCommon : Utf8 → Type 0
IsCommon name = begins_with_dollar name ≡ false

-- ---- shapes

-- a leaf that keeps nothing in its bytes
abbrev pub IsBuilt : LeafKind → Type 0
IsBuilt raw_documents = ⊥
IsBuilt raw_arrays = ⊥
IsBuilt raw_values = ⊥
IsBuilt k = Unit {0}

-- the form does not depend on whether the reader is human, and its name does not begin with `$`
abbrev pub SuitsWaysForm : Form → (inside : Type 0) → Type 0
SuitsWaysForm (human_readable s) inside = ⊥
SuitsWaysForm (by_mode readable compact) inside = ⊥
SuitsWaysForm (newtype name s) inside = IsCommon name × inside
SuitsWaysForm (structure u name fs) inside = IsCommon name × inside
SuitsWaysForm s inside = inside

-- nor does that of a field or a variant; a leaf keeps nothing in its bytes
abbrev pub ways_rows : Rows
ways_rows = record asking_nothing {
  of_leaf = λ l. IsBuilt (leaf_kind l);
  of_form = SuitsWaysForm;
  of_definitions = λ in_fields in_forms in_body. in_forms × in_body;
  of_field = λ name in_form in_rest. IsCommon name × in_form × in_rest;
  of_variant = λ name in_content in_rest. IsCommon name × in_content × in_rest;
}

-- Nothing is kept in its bytes, nothing depends on whether the reader is human, and no name of a newtype, a struct, a field or a variant begins with `$`.
-- The names of definitions, which are never written, may be any.
abbrev pub SuitsBothWays : Form → Type 0
SuitsBothWays = Every ways_rows

-- ---- the document that is read

-- The bytes of a document in which no document repeats a key, and none has one that begins with `$`.
pub record HasFreeInput (bytes : Bytes) : Type 0 where
  -- the tree of the document, with each pair that is there
  pub input : Tree
  pub is : unmarked (node_in max_levels EmbeddedDocument bytes) ≡ Some input
  pub free : HasFreeKeys input

-- ---- the document that is written

abbrev mutual
  -- no key in the tree begins with `$`
  pub HasCommonKeys : Tree → Type 0
  HasCommonKeys (document ps) = PairsHaveCommonKeys ps
  HasCommonKeys (array ts) = TreesHaveCommonKeys ts
  HasCommonKeys (javascript_code_with_scope code scope) = PairsHaveCommonKeys scope
  HasCommonKeys t = Unit {0}

  pub PairsHaveCommonKeys : Pairs → Type 0
  PairsHaveCommonKeys no_pairs = Unit {0}
  PairsHaveCommonKeys (pair key t ps) = IsCommon key × HasCommonKeys t × PairsHaveCommonKeys ps

  pub TreesHaveCommonKeys : Trees → Type 0
  TreesHaveCommonKeys no_trees = Unit {0}
  TreesHaveCommonKeys (tree.tree t ts) = HasCommonKeys t × TreesHaveCommonKeys ts
