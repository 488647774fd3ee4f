-- What fits a leaf, and a form whose texts are mended, of whatever form the value is.
use Rattle.bson_shape.specs.Form.{Form, leaf, lossy, definitions, Fields}
use Rattle.bson_shape.specs.declared.leaf.Leaf.{Leaf}
use Rattle.bson_values.specs.Value.{Value, boolean, none}
use Rattle.bson_laws.specs.Leaves.{leaf_kind}
use Rattle.bson_laws.specs.Fits.{FitsLeaf, Fits}

-- what fits a leaf is a value of what the leaf takes
pub fits_leaf : (v : Value) (l : Leaf) → Fits v (leaf l) → FitsLeaf (leaf_kind l) v
fits_leaf (boolean b) l f = f
fits_leaf v l f = f

-- and a value of what a leaf takes fits it
pub leaf_fits : (v : Value) (l : Leaf) → FitsLeaf (leaf_kind l) v → Fits v (leaf l)
leaf_fits (boolean b) l f = f
leaf_fits v l f = f

-- what fits a form whose texts are mended fits the form, and what fits the form fits it so
pub fits_lossy : (v : Value) (s : Form) → Fits v (lossy s) → Fits v s
fits_lossy none s f = f
fits_lossy v s f = f

pub lossy_fits : (v : Value) (s : Form) → Fits v s → Fits v (lossy s)
lossy_fits none s f = f
lossy_fits v s f = f

-- and what fits definitions is what fits their body
pub fits_body : (v : Value) (h : Fields) (s : Form) → Fits v (definitions h s) → Fits v s
fits_body none h s f = f
fits_body v h s f = f

pub body_fits : (v : Value) (h : Fields) (s : Form) → Fits v s → Fits v (definitions h s)
body_fits none h s f = f
body_fits v h s f = f
