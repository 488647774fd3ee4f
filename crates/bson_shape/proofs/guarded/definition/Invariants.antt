use Rattle.std.proofs.Common.{◌≡◌, None, take}
use Rattle.bson_shape.specs.Guarded.{definition}
use Rattle.bson_shape.specs.ShapeView.{fields_of}
use Rattle.bson_shape.proofs.guarded.definition.Given as goal

-- none so far has the name
abbrev pub invariant-loop-field : goal.invariant-loop-field
invariant-loop-field l = definition (fields_of (take l.field-index l.table)) l.name ≡ None
