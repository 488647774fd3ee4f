-- What a call that makes the shape of a type answers. Source: the limits of this library.
use Rattle.std.specs.Prelude.{◌≡◌, ◌<◌, ◌≤◌, nat_lt, if◌then◌else◌, Result, Ok, Err}
use Rattle.bson_kinds.specs.Outcome.{◌>>=◌}
use Rattle.bson_shape.specs.Form.{Form}
use Rattle.bson_shape.specs.Levels.{levels, max_shape_levels}
use Rattle.bson_shape.specs.declared.error.ShapeError.{ShapeError}
use Rattle.bson_shape.specs.declared.error.ShapeError.TheVariants.{TooDeep, NoMemory}
use Rattle.bson_values.specs.Value.{Value}
use Rattle.bson_type_data.specs.Answers.{Reading, not_fitting}

-- The call gives the shape of the form exactly where it has at most 512 levels, and else `TooDeep`; out of memory is free.
abbrev pub IsShapeOf : Form → Result Form ShapeError → Type 0
IsShapeOf form (Ok s) = (s ≡ form) × (levels form ≤ max_shape_levels)
IsShapeOf form (Err TooDeep) = max_shape_levels < levels form
IsShapeOf form (Err NoMemory) = Unit {0}
IsShapeOf form (Err e) = ⊥

-- The form, where it has at most 512 levels; else the type has no shape, and the failure is `NotFitting`.
abbrev pub shape_of_type : Form → Reading Form
shape_of_type form = if nat_lt max_shape_levels (levels form) then Err not_fitting else Ok form

-- what a type gives of what is read at its shape
abbrev pub read_typed : {C : Type 0} → Form → (Value → Reading C) → (Form → Reading Value) → Reading C
read_typed form taken read = shape_of_type form >>= λ s. read s >>= taken
