use Rattle.std.proofs.Common.{◌∷◌, ◌++◌, ap, sym, subst, ◌∙◌, arith}
use Rattle.bson_values.specs.TextView.{text_view}
use Rattle.bson_datum.specs.View.{view, fields_view}
use Rattle.bson_datum.specs.declared.datum.Datum.TheViews.{size-Datum}
use Rattle.bson_datum.proofs.Views.{view-Struct}
use Rattle.bson_laws.specs.Unwrap.{a_key, listed, listed_part}
use Rattle.bson_reserved.specs.ListView.{parts_view}
use Rattle.bson_reserved.specs.Listed.{Lists}
use Rattle.bson_reserved.specs.Prover.Sized.{fields_size}
use Rattle.bson_reserved.proofs.Listing.{Lists-after}
use Rattle.bson_reserved.proofs.Sizes.{struct_size}
use Rattle.bson_reserved.proofs.list.+put.Goals as goal

pub put_field-returns-clause-value : goal.put_field-returns-clause-value
put_field-returns-clause-value t c =
    let field = c.args.field.now in
    let left = listed_part (view field.value) in
    Lists-after _ c.args.list.now.items c.push.new.list.items c.put_value.new.list.items (λ rest. a_key (text_view field.name) ∷ left rest) left
    (λ rest. ap (λ key. parts_view c.args.list.now.items ++ (a_key key ∷ left rest)) (sym c.as_str.ensures.text) ∙ c.in_ok-push.ensures.value (left rest))
    c.put_value.ensures.value

pub put_value-returns-in-Struct-clause-value : goal.put_value-returns-in-Struct-clause-value
put_value-returns-in-Struct-clause-value t c =
    let it = c.in-Struct in
    let lists = Lists c.put_fields.result c.args.list.now.items c.put_fields.new.list.items in
    subst (λ v. lists (listed_part v)) (sym (ap view it.is ∙ view-Struct it.name it.fields))
    (subst (λ fs. lists (listed (fields_view fs))) c.deref.ensures.value c.put_fields.ensures.value)

pub put_value-returns-in-Struct-clause-size : goal.put_value-returns-in-Struct-clause-size
put_value-returns-in-Struct-clause-size t c =
    let it = c.in-Struct in
    omega (arith, c.put_fields.ensures.size, ap fields_size c.deref.ensures.value, ap size-Datum it.is, struct_size it.name it.fields)
