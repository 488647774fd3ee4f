use Rattle.std.proofs.Common.{sym, subst, ap, ◌∙◌}
use Rattle.std.specs.Prelude.{Some, option_map}
use Rattle.bson_values.specs.TextView.{text_view}
use Rattle.bson_datum.specs.View.{view, fields_view}
use Rattle.bson_datum.proofs.Views.{view-Struct}
use Rattle.bson_laws.specs.Unwrap.{listed, listed_part}
use Rattle.bson_ser_parts.specs.PlaceView.{Behind, key_front}
use Rattle.bson_ser_parts.proofs.Behind.{behind_both}
use Rattle.bson_ser_parts.proofs.fitting.+behind.Goals as goal

pub behind_value-returns-in-Struct : goal.behind_value-returns-in-Struct
behind_value-returns-in-Struct t c =
    let it = c.in-Struct in
    let left = option_map (λ left. left.now) c.behind_fields.result in
    subst (λ v. Behind left c.args.places.now (listed_part v)) (sym (ap view it.is ∙ view-Struct it.name it.fields))
    (subst (λ fs. Behind left c.args.places.now (listed (fields_view fs))) c.deref.ensures.value c.behind_fields.ensures)

pub behind_field-returns : goal.behind_field-returns
behind_field-returns t c =
    let field = c.args.field.now in
    behind_both _ c.in_ok-rest.rest.now c.args.places.now (key_front (text_view field.name)) (listed_part (view field.value))
    (subst (λ key. Behind (Some c.in_ok-rest.rest.now) c.args.places.now (key_front key)) c.as_str.ensures.text c.in_ok-rest.ensures) c.behind_value.ensures
