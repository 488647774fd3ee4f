use Rattle.std.proofs.Common.{ap, sym, ◌∙◌}
use Rattle.bson_datum.specs.Access as access
use Rattle.bson_datum.specs.View.{view, fields_view}
use Rattle.bson_datum.proofs.Views.{view-Struct, view-StructVariant}
use Rattle.bson_datum.proofs.datum.Datum.field.Goals as goal

pub returns-in-Struct : goal.returns-in-Struct
returns-in-Struct c =
    let it = c.in-Struct in
    let name = c.args.name.now in
    record { field = c.field_named.ensures ∙ ap (λ xs. access.field_named name (fields_view xs)) c.deref.ensures.value ∙ sym (ap (access.field name) (ap view it.is ∙ view-Struct it.name it.fields)) }

pub returns-in-StructVariant : goal.returns-in-StructVariant
returns-in-StructVariant c =
    let it = c.in-StructVariant in
    let name = c.args.name.now in
    record { field = c.field_named-in-StructVariant.ensures ∙ ap (λ xs. access.field_named name (fields_view xs)) c.deref-in-StructVariant.ensures.value ∙ sym (ap (access.field name) (ap view it.is ∙ view-StructVariant it.variant it.fields)) }
