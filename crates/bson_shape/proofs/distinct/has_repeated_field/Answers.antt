use Rattle.std.proofs.Common.{◌∙◌, ap, map, string_bytes}
use Rattle.bson_shape.specs.Makers.{has_repeat}
use Rattle.bson_shape.specs.declared.shape.FieldShape.{FieldShape}
use Rattle.bson_shape.proofs.Names.{field_names_are}
use Rattle.bson_shape.proofs.distinct.has_repeated_field.Goals as goal

pub returns : goal.returns
returns c = c.has_repeated_name.ensures ∙ ap has_repeat (ap (map (λ (f : FieldShape). string_bytes f.name)) c.deref.ensures.value ∙ field_names_are c.args.fields.now.items)
