use Rattle.std.proofs.Common.{sym, ◌∙◌}
use Rattle.bson_values.specs.TextView.{text_view}
use Rattle.bson_values.specs.Value.{tuple_structure, tuple_variant, structure, structure_variant}
use Rattle.bson_datum.specs.View.{items_view, fields_view}
use Rattle.bson_datum.proofs.Sames.{same_items-lengths, same_entries-lengths, same_fields-lengths, same_of_borrowed, same_with_borrowed, same_of_one_name}
use Rattle.bson_datum.proofs.Views.{view-TupleStruct, view-TupleVariant, view-Struct, view-StructVariant}
use Rattle.bson_datum.proofs.equality.+same.Goals as goal

pub are_same_items-returns-then-a-b : goal.are_same_items-returns-then-a-b
are_same_items-returns-then-a-b t c = sym (same_items-lengths c.args.a.now c.args.b.now c.if-a-b.true)

pub are_same_entries-returns-then-a-b : goal.are_same_entries-returns-then-a-b
are_same_entries-returns-then-a-b t c = sym (same_entries-lengths c.args.a.now c.args.b.now c.if-a-b.true)

pub are_same_fields-returns-then-a-b : goal.are_same_fields-returns-then-a-b
are_same_fields-returns-then-a-b t c = sym (same_fields-lengths c.args.a.now c.args.b.now c.if-a-b.true)

pub is_same-returns-in-TupleStruct-default : goal.is_same-returns-in-TupleStruct-default
is_same-returns-in-TupleStruct-default t c =
    let it = c.in-TupleStruct-default in
    same_of_borrowed (λ xs. tuple_structure (text_view it.name) (items_view xs)) _ _ _ _ _ _ it.is-0 c.deref-in-TupleStruct-default.ensures.value (view-TupleStruct it.name it.items) c.is_tuple_struct_of.ensures

pub is_tuple_struct_of-returns-then-eq : goal.is_tuple_struct_of-returns-then-eq
is_tuple_struct_of-returns-then-eq t c =
    let it = c.in-TupleStruct in
    same_with_borrowed (tuple_structure (text_view c.args.name.now) (items_view c.args.items.now)) (λ xs. tuple_structure (text_view it.other) (items_view xs)) _ _ _ _ _ it.is c.deref.ensures.value (view-TupleStruct it.other it.others)
    (same_of_one_name _ _ _ (sym c.eq.ensures ∙ c.if-eq.true) c.are_same_items.ensures)

pub is_same-returns-in-TupleVariant-default : goal.is_same-returns-in-TupleVariant-default
is_same-returns-in-TupleVariant-default t c =
    let it = c.in-TupleVariant-default in
    same_of_borrowed (λ xs. tuple_variant (text_view it.variant) (items_view xs)) _ _ _ _ _ _ it.is-0 c.deref-in-TupleVariant-default.ensures.value (view-TupleVariant it.variant it.items) c.is_tuple_variant_of.ensures

pub is_tuple_variant_of-returns-then-eq : goal.is_tuple_variant_of-returns-then-eq
is_tuple_variant_of-returns-then-eq t c =
    let it = c.in-TupleVariant in
    same_with_borrowed (tuple_variant (text_view c.args.variant.now) (items_view c.args.items.now)) (λ xs. tuple_variant (text_view it.other) (items_view xs)) _ _ _ _ _ it.is c.deref.ensures.value (view-TupleVariant it.other it.others)
    (same_of_one_name _ _ _ (sym c.eq.ensures ∙ c.if-eq.true) c.are_same_items.ensures)

pub is_same-returns-in-Struct-default : goal.is_same-returns-in-Struct-default
is_same-returns-in-Struct-default t c =
    let it = c.in-Struct-default in
    same_of_borrowed (λ xs. structure (text_view it.name) (fields_view xs)) _ _ _ _ _ _ it.is-0 c.deref-in-Struct-default.ensures.value (view-Struct it.name it.fields) c.is_struct_of.ensures

pub is_struct_of-returns-then-eq : goal.is_struct_of-returns-then-eq
is_struct_of-returns-then-eq t c =
    let it = c.in-Struct in
    same_with_borrowed (structure (text_view c.args.name.now) (fields_view c.args.fields.now)) (λ xs. structure (text_view it.other) (fields_view xs)) _ _ _ _ _ it.is c.deref.ensures.value (view-Struct it.other it.others)
    (same_of_one_name _ _ _ (sym c.eq.ensures ∙ c.if-eq.true) c.are_same_fields.ensures)

pub is_same-returns-in-StructVariant-default : goal.is_same-returns-in-StructVariant-default
is_same-returns-in-StructVariant-default t c =
    let it = c.in-StructVariant-default in
    same_of_borrowed (λ xs. structure_variant (text_view it.variant) (fields_view xs)) _ _ _ _ _ _ it.is-0 c.deref-in-StructVariant-default.ensures.value (view-StructVariant it.variant it.fields) c.is_struct_variant_of.ensures

pub is_struct_variant_of-returns-then-eq : goal.is_struct_variant_of-returns-then-eq
is_struct_variant_of-returns-then-eq t c =
    let it = c.in-StructVariant in
    same_with_borrowed (structure_variant (text_view c.args.variant.now) (fields_view c.args.fields.now)) (λ xs. structure_variant (text_view it.other) (fields_view xs)) _ _ _ _ _ it.is c.deref.ensures.value (view-StructVariant it.other it.others)
    (same_of_one_name _ _ _ (sym c.eq.ensures ∙ c.if-eq.true) c.are_same_fields.ensures)
