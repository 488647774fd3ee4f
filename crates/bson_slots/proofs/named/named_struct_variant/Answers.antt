use Rattle.std.proofs.Common.{ap, ◌∙◌}
use Rattle.bson_kinds.specs.Piece.{made}
use Rattle.bson_values.specs.Value.{structure_variant}
use Rattle.bson_values.specs.declared.text.Text.TheVariants.{Owned}
use Rattle.bson_slots.specs.FieldSlots.{fields_marked}
use Rattle.bson_slots.proofs.MarkedFields.{marked-StructVariant}
use Rattle.bson_slots.proofs.named.named_struct_variant.Goals as goal

pub returns : goal.returns
returns c = record {
  marked = marked-StructVariant (Owned c.in_ok-from_str.field-0) c.args.fields
      ∙ ap (λ name. structure_variant (made name) (fields_marked c.args.fields.items)) c.in_ok-from_str.ensures.ok;
}
