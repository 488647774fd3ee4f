use Rattle.std.proofs.Common.{◌∷◌, ap}
use Rattle.bson_values.specs.TextView.{text_view}
use Rattle.bson_values.specs.Value.{sequence, tuple, map, tuple_structure, tuple_variant, structure, structure_variant}
use Rattle.bson_datum.specs.View.{view, items_view, entry_view, entries_view, field_view, fields_view}
use Rattle.bson_values.specs.Pieces.{text_borrowed}
use Rattle.bson_datum.specs.Borrowed.{borrowed_parts, items_borrowed, entry_borrowed, entries_borrowed, field_borrowed, fields_borrowed}
use Rattle.bson_datum.proofs.Views.{view-Seq, view-Tuple, view-Map, view-TupleStruct, view-TupleVariant, view-Struct, view-StructVariant}
use Rattle.bson_datum.proofs.BorrowedRows.{item_rows_are_borrowed, entry_rows_are_borrowed, rows_are_borrowed}
use Rattle.bson_datum.proofs.Copies.{same_items_view, same_entries_view, same_fields_view, same_parts, seen_all, told_of}
use Rattle.bson_datum.proofs.clone.+copy.Goals as goal

pub copy-returns-in-Seq-clause-equal : goal.copy-returns-in-Seq-clause-equal
copy-returns-in-Seq-clause-equal t c =
    let it = c.in-Seq in
    told_of view (λ xs. sequence (items_view xs)) _ _ _ _ _ it.is c.deref-in-Seq.ensures.value (view-Seq it.items) c.copy_sequence.ensures.equal

pub copy-returns-in-Seq-clause-borrowed : goal.copy-returns-in-Seq-clause-borrowed
copy-returns-in-Seq-clause-borrowed t c =
    let it = c.in-Seq in
    told_of borrowed_parts items_borrowed _ _ _ _ _ it.is c.deref-in-Seq.ensures.value (item_rows_are_borrowed it.items) c.copy_sequence.ensures.borrowed

pub copy-returns-in-Tuple-clause-equal : goal.copy-returns-in-Tuple-clause-equal
copy-returns-in-Tuple-clause-equal t c =
    let it = c.in-Tuple in
    told_of view (λ xs. tuple (items_view xs)) _ _ _ _ _ it.is c.deref-in-Tuple.ensures.value (view-Tuple it.items) c.copy_tuple.ensures.equal

pub copy-returns-in-Tuple-clause-borrowed : goal.copy-returns-in-Tuple-clause-borrowed
copy-returns-in-Tuple-clause-borrowed t c =
    let it = c.in-Tuple in
    told_of borrowed_parts items_borrowed _ _ _ _ _ it.is c.deref-in-Tuple.ensures.value (item_rows_are_borrowed it.items) c.copy_tuple.ensures.borrowed

pub copy-returns-in-Map-clause-equal : goal.copy-returns-in-Map-clause-equal
copy-returns-in-Map-clause-equal t c =
    let it = c.in-Map in
    told_of view (λ xs. map (entries_view xs)) _ _ _ _ _ it.is c.deref-in-Map.ensures.value (view-Map it.entries) c.copy_map.ensures.equal

pub copy-returns-in-Map-clause-borrowed : goal.copy-returns-in-Map-clause-borrowed
copy-returns-in-Map-clause-borrowed t c =
    let it = c.in-Map in
    told_of borrowed_parts entries_borrowed _ _ _ _ _ it.is c.deref-in-Map.ensures.value (entry_rows_are_borrowed it.entries) c.copy_map.ensures.borrowed

pub copy-returns-in-TupleStruct-clause-equal : goal.copy-returns-in-TupleStruct-clause-equal
copy-returns-in-TupleStruct-clause-equal t c =
    let it = c.in-TupleStruct in
    told_of view (λ xs. tuple_structure (text_view it.name) (items_view xs)) _ _ _ _ _ it.is c.deref-in-TupleStruct.ensures.value (view-TupleStruct it.name it.items) c.copy_tuple_struct.ensures.equal

pub copy-returns-in-TupleStruct-clause-borrowed : goal.copy-returns-in-TupleStruct-clause-borrowed
copy-returns-in-TupleStruct-clause-borrowed t c =
    let it = c.in-TupleStruct in
    told_of borrowed_parts (λ xs. text_borrowed it.name ∷ items_borrowed xs) _ _ _ _ _ it.is c.deref-in-TupleStruct.ensures.value (ap (λ l. text_borrowed it.name ∷ l) (item_rows_are_borrowed it.items)) c.copy_tuple_struct.ensures.borrowed

pub copy-returns-in-TupleVariant-clause-equal : goal.copy-returns-in-TupleVariant-clause-equal
copy-returns-in-TupleVariant-clause-equal t c =
    let it = c.in-TupleVariant in
    told_of view (λ xs. tuple_variant (text_view it.variant) (items_view xs)) _ _ _ _ _ it.is c.deref-in-TupleVariant.ensures.value (view-TupleVariant it.variant it.items) c.copy_tuple_variant.ensures.equal

pub copy-returns-in-TupleVariant-clause-borrowed : goal.copy-returns-in-TupleVariant-clause-borrowed
copy-returns-in-TupleVariant-clause-borrowed t c =
    let it = c.in-TupleVariant in
    told_of borrowed_parts (λ xs. text_borrowed it.variant ∷ items_borrowed xs) _ _ _ _ _ it.is c.deref-in-TupleVariant.ensures.value (ap (λ l. text_borrowed it.variant ∷ l) (item_rows_are_borrowed it.items)) c.copy_tuple_variant.ensures.borrowed

pub copy-returns-in-Struct-clause-equal : goal.copy-returns-in-Struct-clause-equal
copy-returns-in-Struct-clause-equal t c =
    let it = c.in-Struct in
    told_of view (λ xs. structure (text_view it.name) (fields_view xs)) _ _ _ _ _ it.is c.deref-in-Struct.ensures.value (view-Struct it.name it.fields) c.copy_struct.ensures.equal

pub copy-returns-in-Struct-clause-borrowed : goal.copy-returns-in-Struct-clause-borrowed
copy-returns-in-Struct-clause-borrowed t c =
    let it = c.in-Struct in
    told_of borrowed_parts (λ xs. text_borrowed it.name ∷ fields_borrowed xs) _ _ _ _ _ it.is c.deref-in-Struct.ensures.value (ap (λ l. text_borrowed it.name ∷ l) (rows_are_borrowed it.fields)) c.copy_struct.ensures.borrowed

pub copy-returns-in-StructVariant-clause-equal : goal.copy-returns-in-StructVariant-clause-equal
copy-returns-in-StructVariant-clause-equal t c =
    let it = c.in-StructVariant in
    told_of view (λ xs. structure_variant (text_view it.variant) (fields_view xs)) _ _ _ _ _ it.is c.deref-in-StructVariant.ensures.value (view-StructVariant it.variant it.fields) c.copy_struct_variant.ensures.equal

pub copy-returns-in-StructVariant-clause-borrowed : goal.copy-returns-in-StructVariant-clause-borrowed
copy-returns-in-StructVariant-clause-borrowed t c =
    let it = c.in-StructVariant in
    told_of borrowed_parts (λ xs. text_borrowed it.variant ∷ fields_borrowed xs) _ _ _ _ _ it.is c.deref-in-StructVariant.ensures.value (ap (λ l. text_borrowed it.variant ∷ l) (rows_are_borrowed it.fields)) c.copy_struct_variant.ensures.borrowed

pub copy_items-returns-clause-equal : goal.copy_items-returns-clause-equal
copy_items-returns-clause-equal t c = same_items_view _ _ (seen_all view _ c.args.items.now c.loop-item.item-index c.loop-item-test.false c.loop-item.invariant.equal)

pub copy_items-returns-clause-borrowed : goal.copy_items-returns-clause-borrowed
copy_items-returns-clause-borrowed t c = same_parts borrowed_parts _ _ (seen_all borrowed_parts _ c.args.items.now c.loop-item.item-index c.loop-item-test.false c.loop-item.invariant.borrowed)

pub copy_entries-returns-clause-equal : goal.copy_entries-returns-clause-equal
copy_entries-returns-clause-equal t c = same_entries_view _ _ (seen_all entry_view _ c.args.entries.now c.loop-entry.entry-index c.loop-entry-test.false c.loop-entry.invariant.equal)

pub copy_entries-returns-clause-borrowed : goal.copy_entries-returns-clause-borrowed
copy_entries-returns-clause-borrowed t c = same_parts entry_borrowed _ _ (seen_all entry_borrowed _ c.args.entries.now c.loop-entry.entry-index c.loop-entry-test.false c.loop-entry.invariant.borrowed)

pub copy_fields-returns-clause-equal : goal.copy_fields-returns-clause-equal
copy_fields-returns-clause-equal t c = same_fields_view _ _ (seen_all field_view _ c.args.fields.now c.loop-field.field-index c.loop-field-test.false c.loop-field.invariant.equal)

pub copy_fields-returns-clause-borrowed : goal.copy_fields-returns-clause-borrowed
copy_fields-returns-clause-borrowed t c = same_parts field_borrowed _ _ (seen_all field_borrowed _ c.args.fields.now c.loop-field.field-index c.loop-field-test.false c.loop-field.invariant.borrowed)
