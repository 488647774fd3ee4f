-- The join and the inferred form, by examples.
use Rattle.std.specs.Prelude.{◌≡◌, [], codes, pos, refl}
use Rattle.bson_base.specs.Tree.{no_pairs, pair, Tree, document, array, string, int32, null, no_trees, tree}
use Rattle.bson_shape.specs.Form.{dropped, Form, leaf, optional, sequence, structure, enumeration, no_fields, field, no_variants}
use Rattle.bson_shape.specs.declared.leaf.Leaf.TheVariants.{I32, String, Unit, Bson}
use Rattle.bson_infer_laws.specs.Inferred.{inferred}
use Rattle.bson_infer_laws.specs.Join.{join}

-- a document of one pair, and the form of one field
abbrev one : Tree → Tree
one t = document (pair (codes "i") t no_pairs)

abbrev with_field : Form → Form
with_field s = structure dropped [] (field (codes "i") s no_fields)

none : inferred no_trees ≡ enumeration no_variants
none = refl

missing : inferred (tree (one (int32 (pos 1))) (tree (document no_pairs) no_trees)) ≡ with_field (optional (leaf I32))
missing = refl

unlike : inferred (tree (one (int32 (pos 1))) (tree (one (string (codes "a"))) no_trees)) ≡ with_field (leaf Bson)
unlike = refl

-- the join is from left to right: null after two unlike values changes nothing, but two of the three joined first make an option
from_left : join (join (leaf I32) (leaf String)) (leaf Unit) ≡ leaf Bson
from_left = refl

from_right : join (leaf I32) (join (leaf String) (leaf Unit)) ≡ optional (leaf Bson)
from_right = refl

-- an array is joined on its own first
arrays : inferred (tree (one (array (tree (int32 (pos 1)) no_trees))) (tree (one (array (tree (string []) (tree null no_trees)))) no_trees))
    ≡ with_field (sequence (optional (leaf Bson)))
arrays = refl
