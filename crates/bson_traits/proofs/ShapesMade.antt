-- What the makers of shapes answer, by the levels of the form.
use Rattle.std.proofs.Common.{◌≡◌, ◌<◌, ◌≤◌, Bool, true, false, nat_lt, Result, Ok, Err, refl, ap, sym, ◌∙◌}
use Rattle.std.specs.Prelude.{cond}
use Rattle.std.proofs.lemmas.Bool.{ltb-true, ltb-false, lt-ltb, le-ltb}
use Rattle.bson_kinds.proofs.Outcomes.{ok_is}
use Rattle.bson_shape.specs.Form.{Form}
use Rattle.bson_shape.specs.Levels.{levels, max_shape_levels}
use Rattle.bson_shape.specs.Makers.{Makes, within_levels}
use Rattle.bson_shape.specs.declared.error.ShapeError.{ShapeError}
use Rattle.bson_shape.specs.declared.error.ShapeError.TheVariants.{ReservedName, RepeatedName, KeyNotText, Unguarded, TooDeep, NoMemory}
use Rattle.bson_type_data.specs.Answers.{Reading, not_fitting}
use Rattle.bson_traits.specs.ShapeOf.{IsShapeOf, shape_of_type}

made_of : (f : Form) (b : Bool) (r : Result Form ShapeError) → nat_lt max_shape_levels (levels f) ≡ b → Makes r (cond b (Err TooDeep) (Ok f)) → IsShapeOf f r
made_of f true (Ok s) is h = absurd cc
made_of f true (Err TooDeep) is h = ltb-true _ _ is
made_of f true (Err NoMemory) is h = tt
made_of f true (Err ReservedName) is h = absurd cc
made_of f true (Err RepeatedName) is h = absurd cc
made_of f true (Err KeyNotText) is h = absurd cc
made_of f true (Err Unguarded) is h = absurd cc
made_of f false (Ok s) is h = (sym (ok_is f s h), ltb-false _ _ is)
made_of f false (Err TooDeep) is h = absurd cc
made_of f false (Err NoMemory) is h = tt
made_of f false (Err ReservedName) is h = absurd cc
made_of f false (Err RepeatedName) is h = absurd cc
made_of f false (Err KeyNotText) is h = absurd cc
made_of f false (Err Unguarded) is h = absurd cc

pub made_within : (f : Form) (r : Result Form ShapeError) → Makes r (within_levels f) → IsShapeOf f r
made_within f r h = made_of f (nat_lt max_shape_levels (levels f)) r refl h

-- ---- the shape of a type, as readers ask for it

expected_of : (f : Form) (b : Bool) → nat_lt max_shape_levels (levels f) ≡ b → shape_of_type f ≡ cond b (Err not_fitting) (Ok f)
expected_of f b e = ap (λ x. cond x (Err not_fitting) (Ok f)) e

pub shape_is_expected : (f s : Form) → s ≡ f → levels f ≤ max_shape_levels → shape_of_type f ≡ Ok s
shape_is_expected f s is few = expected_of f false (le-ltb _ _ few) ∙ ap Ok (sym is)

pub none_is_expected : (f : Form) → max_shape_levels < levels f → shape_of_type f ≡ Err not_fitting
none_is_expected f many = expected_of f true (lt-ltb _ _ many)
