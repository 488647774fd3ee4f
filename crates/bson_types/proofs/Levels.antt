-- Each shape has few enough levels.
use Rattle.std.proofs.Common.{◌≡◌, ◌≤◌, false, nat_lt, Ok, refl, arith}
use Rattle.std.proofs.lemmas.Bool.{le-ltb}
use Rattle.bson_shape.specs.Form.{Form, leaf, optional, lossy, human_readable, by_mode, sequence, map, tuple, tuple_structure, newtype, unit_structure, structure, enumeration, reference, definitions}
use Rattle.bson_shape.specs.Levels.{levels, max_shape_levels}
use Rattle.bson_shape.specs.Makers.{IsShape}
use Rattle.bson_traits.specs.ShapeOf.{shape_of_type}

few : (f : Form) → IsShape f → levels f ≤ max_shape_levels
few (leaf l) h = omega arith
few (optional f) h = h.0
few (lossy f) h = h.0
few (human_readable f) h = h.0
few (sequence f) h = h.0
few (map k v) h = h.1
few (by_mode r c) h = h.0
few (tuple ps) h = h.0
few (tuple_structure name ps) h = h.1
few (newtype name f) h = h.0.few
few (unit_structure name) h = omega arith
few (structure u name fs) h = h.0.few
few (enumeration vs) h = h.0.few
few (reference name) h = omega arith
few (definitions table f) h = h.0.few

not_above : (f : Form) → levels f ≤ max_shape_levels → nat_lt max_shape_levels (levels f) ≡ false
not_above f h = le-ltb _ _ h

pub shape_is_expected : (f : Form) → IsShape f → shape_of_type f ≡ Ok f
shape_is_expected f h = rw (not_above f (few f h)) refl
