use Rattle.std.proofs.Common.{◌≡◌, map, length, refl, ap, ◌∙◌, arith}
use Rattle.std.specs.Vec.Iter.{into_iter_len}
use Rattle.bson_values.specs.TextView.{text_view}
use Rattle.bson_values.specs.Value.{sequence, tuple, map as mapping, tuple_structure, tuple_variant, structure, structure_variant}
use Rattle.bson_datum.specs.View.{view, items_view, entry_view, entries_view, field_view, fields_view}
use Rattle.bson_datum.proofs.Views.{view-Seq, view-Tuple, view-Map, view-TupleStruct, view-TupleVariant, view-Struct, view-StructVariant}
use Rattle.bson_datum.proofs.Copies.{same_items_view, same_entries_view, same_fields_view, all_yielded, told_of}
use Rattle.bson_datum.proofs.clone.+owned.Goals as goal

pub owned-returns-in-Seq-clause-equal : goal.owned-returns-in-Seq-clause-equal
owned-returns-in-Seq-clause-equal t c =
    let it = c.in-Seq in
    told_of view (λ xs. sequence (items_view xs)) _ _ _ _ _ it.is refl (view-Seq it.items) c.owned_sequence.ensures.equal

pub owned-returns-in-Tuple-clause-equal : goal.owned-returns-in-Tuple-clause-equal
owned-returns-in-Tuple-clause-equal t c =
    let it = c.in-Tuple in
    told_of view (λ xs. tuple (items_view xs)) _ _ _ _ _ it.is refl (view-Tuple it.items) c.owned_tuple.ensures.equal

pub owned-returns-in-Map-clause-equal : goal.owned-returns-in-Map-clause-equal
owned-returns-in-Map-clause-equal t c =
    let it = c.in-Map in
    told_of view (λ xs. mapping (entries_view xs)) _ _ _ _ _ it.is refl (view-Map it.entries) c.owned_map.ensures.equal

pub owned-returns-in-TupleStruct-clause-equal : goal.owned-returns-in-TupleStruct-clause-equal
owned-returns-in-TupleStruct-clause-equal t c =
    let it = c.in-TupleStruct in
    told_of view (λ xs. tuple_structure (text_view it.name) (items_view xs)) _ _ _ _ _ it.is refl (view-TupleStruct it.name it.items) c.owned_tuple_struct.ensures.equal

pub owned-returns-in-TupleVariant-clause-equal : goal.owned-returns-in-TupleVariant-clause-equal
owned-returns-in-TupleVariant-clause-equal t c =
    let it = c.in-TupleVariant in
    told_of view (λ xs. tuple_variant (text_view it.variant) (items_view xs)) _ _ _ _ _ it.is refl (view-TupleVariant it.variant it.items) c.owned_tuple_variant.ensures.equal

pub owned-returns-in-Struct-clause-equal : goal.owned-returns-in-Struct-clause-equal
owned-returns-in-Struct-clause-equal t c =
    let it = c.in-Struct in
    told_of view (λ xs. structure (text_view it.name) (fields_view xs)) _ _ _ _ _ it.is refl (view-Struct it.name it.fields) c.owned_struct.ensures.equal

pub owned-returns-in-StructVariant-clause-equal : goal.owned-returns-in-StructVariant-clause-equal
owned-returns-in-StructVariant-clause-equal t c =
    let it = c.in-StructVariant in
    told_of view (λ xs. structure_variant (text_view it.variant) (fields_view xs)) _ _ _ _ _ it.is refl (view-StructVariant it.variant it.fields) c.owned_struct_variant.ensures.equal

pub owned_items-returns-clause-equal : goal.owned_items-returns-clause-equal
owned_items-returns-clause-equal t c =
    let starts = c.into_iter-item-iterator.ensures.into_iter_gives in
    let long : into_iter_len c.into_iter-item-iterator.result ≡ length c.args.items.items = omega (arith, starts.1) in
    let all = all_yielded c.args.items.items c.loop-item.yielded _ c.loop-item.item-iterator c.next.new.self _ starts.0 long c.loop-item.yielded_by c.in-None.is c.next.ensures.steps in
    same_items_view _ _ (c.loop-item.invariant.equal ∙ ap (map view) all)

pub owned_entries-returns-clause-equal : goal.owned_entries-returns-clause-equal
owned_entries-returns-clause-equal t c =
    let starts = c.into_iter-entry-iterator.ensures.into_iter_gives in
    let long : into_iter_len c.into_iter-entry-iterator.result ≡ length c.args.entries.items = omega (arith, starts.1) in
    let all = all_yielded c.args.entries.items c.loop-entry.yielded _ c.loop-entry.entry-iterator c.next.new.self _ starts.0 long c.loop-entry.yielded_by c.in-None.is c.next.ensures.steps in
    same_entries_view _ _ (c.loop-entry.invariant.equal ∙ ap (map entry_view) all)

pub owned_fields-returns-clause-equal : goal.owned_fields-returns-clause-equal
owned_fields-returns-clause-equal t c =
    let starts = c.into_iter-field-iterator.ensures.into_iter_gives in
    let long : into_iter_len c.into_iter-field-iterator.result ≡ length c.args.fields.items = omega (arith, starts.1) in
    let all = all_yielded c.args.fields.items c.loop-field.yielded _ c.loop-field.field-iterator c.next.new.self _ starts.0 long c.loop-field.yielded_by c.in-None.is c.next.ensures.steps in
    same_fields_view _ _ (c.loop-field.invariant.equal ∙ ap (map field_view) all)
