-- What was appended so far leaves to come what was to come from the fields, the entries or the values that are left.
use Rattle.std.proofs.Common.{◌≡◌, ◌+◌, ◌*◌, ◌≤◌, ℕ, length, drop}
use Rattle.bson_datum.specs.View.{items_view, entries_view, fields_view}
use Rattle.bson_laws.specs.Spell.{spell_items_as, spell_entries_as, spell_fields_as, size_items_as, size_entries_as, size_fields_as}
use Rattle.bson_ser_stream.specs.Writing.{with_elements, with_array_elements, pair_places, tree_places, count_of}
use Rattle.bson_ser_stream.specs.Halting.{Grows}
use denote.Param.Weighed.{most}
use Rattle.bson_datum.specs.declared.datum.Datum.TheViews.{size-Datum, size-Field}
use Rattle.bson_ser_stream.specs.declared.value.Contents.{Contents}
use Rattle.bson_ser_stream.specs.declared.value.Contents.TheVariants as contents
use Rattle.bson_ser_stream.proofs.value.+put.Given as goal

abbrev pub invariant-put_fields-loop-field : goal.invariant-put_fields-loop-field
invariant-put_fields-loop-field g l =
    let left = fields_view (drop l.field-index l.fields) in
    record {
      bytes : with_elements l.out.bytes (spell_fields_as l.readable left l.levels) ≡ with_elements l.initial.out.bytes (spell_fields_as l.readable (fields_view l.fields) l.levels);
      size : size_fields_as l.readable left ≤ size_fields_as l.readable (fields_view l.fields);
      grows : Grows l.initial.out l.out l.initial.steps l.steps;
      least : l.initial.steps + length l.out.bytes + count_of pair_places (spell_fields_as l.readable (fields_view l.fields) l.levels) ≤ l.steps + length l.initial.out.bytes + count_of pair_places (spell_fields_as l.readable left l.levels);
    }

abbrev pub invariant-put_entries-loop-entry : goal.invariant-put_entries-loop-entry
invariant-put_entries-loop-entry g l =
    let left = entries_view (drop l.entry-index l.entries) in
    record {
      bytes : with_elements l.out.bytes (spell_entries_as l.readable left l.levels) ≡ with_elements l.initial.out.bytes (spell_entries_as l.readable (entries_view l.entries) l.levels);
      size : size_entries_as l.readable left ≤ size_entries_as l.readable (entries_view l.entries);
      grows : Grows l.initial.out l.out l.initial.steps l.steps;
      least : l.initial.steps + length l.out.bytes + count_of pair_places (spell_entries_as l.readable (entries_view l.entries) l.levels) ≤ l.steps + length l.initial.out.bytes + count_of pair_places (spell_entries_as l.readable left l.levels);
    }

abbrev pub invariant-put_items-loop-index : goal.invariant-put_items-loop-index
invariant-put_items-loop-index g l =
    let left = items_view (drop l.index l.items) in
    record {
      bytes : with_array_elements l.out.bytes l.index (spell_items_as l.readable l.index left l.levels) ≡ with_array_elements l.initial.out.bytes 0 (spell_items_as l.readable 0 (items_view l.items) l.levels);
      size : size_items_as l.readable l.index left ≤ size_items_as l.readable 0 (items_view l.items);
      grows : Grows l.initial.out l.out l.initial.steps l.steps;
      least : l.initial.steps + length l.out.bytes + count_of tree_places (spell_items_as l.readable 0 (items_view l.items) l.levels) ≤ l.steps + length l.initial.out.bytes + count_of tree_places (spell_items_as l.readable l.index left l.levels);
    }

abbrev pub decreases-put_value : goal.decreases-put_value
decreases-put_value g l = 16 * goal.size-put_value g l

abbrev pub decreases-put_inner : goal.decreases-put_inner
decreases-put_inner g l = 16 * goal.size-put_inner g l + 1

abbrev pub decreases-put_newtype : goal.decreases-put_newtype
decreases-put_newtype g l = 16 * goal.size-put_newtype g l + 1

abbrev pub decreases-put_reserved : goal.decreases-put_reserved
decreases-put_reserved g l = 16 * goal.size-put_reserved g l + 8

abbrev pub decreases-put_scoped : goal.decreases-put_scoped
decreases-put_scoped g l = 16 * goal.size-put_scoped g l + 7

abbrev pub decreases-put_scope : goal.decreases-put_scope
decreases-put_scope g l = 16 * goal.size-put_scope g l + 1

abbrev pub decreases-put_array : goal.decreases-put_array
decreases-put_array g l = 16 * goal.size-put_array g l + 7

abbrev pub decreases-put_struct : goal.decreases-put_struct
decreases-put_struct g l = 16 * goal.size-put_struct g l + 9

abbrev pub decreases-put_document : goal.decreases-put_document
decreases-put_document g l = 16 * goal.size-put_document g l + 7

abbrev pub decreases-put_map : goal.decreases-put_map
decreases-put_map g l = 16 * goal.size-put_map g l + 7

abbrev pub decreases-put_fields : goal.decreases-put_fields
decreases-put_fields g l = 16 * goal.size-put_fields g l + 6

abbrev pub decreases-put_entries : goal.decreases-put_entries
decreases-put_entries g l = 16 * goal.size-put_entries g l + 6

abbrev pub decreases-put_items : goal.decreases-put_items
decreases-put_items g l = 16 * goal.size-put_items g l + 6

abbrev pub decreases-put_entry : goal.decreases-put_entry
decreases-put_entry g l = 16 * goal.size-put_entry g l + 5

abbrev pub decreases-put_item : goal.decreases-put_item
decreases-put_item g l = 16 * goal.size-put_item g l + 5

-- how deep what is under a key goes
abbrev pub contents_depth : Contents → ℕ
contents_depth (contents.Value d) = 16 * size-Datum d.now
contents_depth (contents.Items ds) = 16 * most size-Datum ds.now + 8
contents_depth (contents.Fields fs) = 16 * most size-Field fs.now + 8

abbrev pub decreases-put_variant : goal.decreases-put_variant
decreases-put_variant g l = contents_depth l.contents + 5

abbrev pub decreases-put_named : goal.decreases-put_named
decreases-put_named g l = contents_depth l.contents + 4

abbrev pub decreases-put_under_key : goal.decreases-put_under_key
decreases-put_under_key g l = contents_depth l.contents + 3

abbrev pub decreases-put_element : goal.decreases-put_element
decreases-put_element g l = contents_depth l.contents + 2

abbrev pub decreases-put_contents : goal.decreases-put_contents
decreases-put_contents g l = contents_depth l.contents + 1
