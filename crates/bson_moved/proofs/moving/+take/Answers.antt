use Rattle.std.proofs.Common.{◌≡◌, ◌+◌, ◌<◌, true, Some, List, length, drop, ap, sym, subst, ◌∙◌, arith}
use Rattle.std.specs.Prelude.{is_some, option_map, string_bytes}
use Rattle.std.specs.Vec.Iter.{into_iter_items}
use Rattle.std.proofs.lemmas.Bool.{or_parts}
use Rattle.std.proofs.lemmas.List.{at_drop_all}
use Rattle.bson_kinds.specs.Text.{is_free_name}
use Rattle.bson_base.specs.BsonView.{tree_of, trees_of, pairs_of}
use Rattle.bson_base.specs.Pairs.{lookup}
use Rattle.bson_base.specs.Tree as trees
use Rattle.bson_shape.specs.Form.{structure, dropped, sequence, Fields}
use Rattle.bson_shape.specs.Makers.{IsShape, has_field, repeats}
use Rattle.bson_shape.specs.ShapeView.{fields_nodes, fields_of, nodes}
use Rattle.bson_shape.specs.declared.shape.FieldShape.{FieldShape}
use Rattle.bson_shape.proofs.Shapes.{field_smaller}
use Rattle.bson_values.specs.Value as value
use Rattle.bson_values.specs.Value.{field_value}
use Rattle.bson_datum.specs.Borrowed.{NoneBorrowed, borrowed_parts, items_borrowed, field_borrowed, fields_borrowed}
use Rattle.bson_datum.specs.View.{items_view, fields_view}
use Rattle.bson_datum.specs.declared.datum.Datum.{Datum}
use Rattle.bson_datum.specs.declared.datum.Field.{Field}
use Rattle.bson_datum.proofs.Views.{view-Seq}
use Rattle.bson_laws.specs.Views.{views, views_at, views_fields, views_items, absent}
use Rattle.bson_moved.specs.Simple.{is_simple, are_simple}
use Rattle.bson_moved.proofs.Moves.{items_and, fields_and, parts_present, inner_present, items_next, items_end, next_there, fields_end, field_more, others_present, owned_more, document_tree, array_tree}
use Rattle.bson_moved.proofs.Plain.{both, field_parts}
use Rattle.bson_moved.proofs.Present.{optional_some}
use Rattle.bson_moved.proofs.Walks.{fields_drop}
use Rattle.bson_moved.proofs.moving.+take.Goals as goal

pub take-take_struct-requires : goal.take-take_struct-requires
take-take_struct-requires t c =
    let s = c.args.shape.now in
    let name = c.in-Struct.name.now in
    let fs = fields_of c.in-Struct.fields.now in
    let ps = pairs_of c.in-Document.document in
    let form : structure dropped name fs ≡ s = c.in-Struct.ensures.form in
    let size : fields_nodes fs + 1 ≡ nodes s = ap nodes form in
    let shape : IsShape (structure dropped name fs) = subst IsShape (sym form) c.known.ensures.shape in
    let simple : is_simple (structure dropped name fs) ≡ true = ap is_simple form ∙ c.requires.simple in
    let tree : tree_of c.args.value ≡ trees.document ps = ap tree_of c.in-Document.is ∙ document_tree c.in-Document.document in
    let present : is_some (views (structure dropped name fs) (trees.document ps)) ≡ true = ap is_some (λ i. views (form i) (sym tree i)) ∙ c.requires.view in
    (omega (arith, size, c.decreases), (shape.0.distinct, ((both (is_free_name name) (are_simple fs) simple).1, inner_present (value.structure name) (views_fields fs ps) present)))

pub take-returns-in_ok-take_items-in-Array-clause-value : goal.take-returns-in_ok-take_items-in-Array-clause-value
take-returns-in_ok-take_items-in-Array-clause-value t c =
    let v = c.in_ok-take_items-in-Array.field-0 in
    let form : sequence c.in-Seq.item.now ≡ c.args.shape.now = c.in-Seq.ensures.form in
    let tree : tree_of c.args.value ≡ trees.array (trees_of c.in-Array.values.items) = ap tree_of c.in-Array.is ∙ array_tree c.in-Array.values in
    (λ i. views (sym form i) (tree i)) ∙ ap (option_map value.sequence) c.in_ok-take_items-in-Array.ensures.values ∙ ap Some (sym (view-Seq v))

pub take_option-take-requires : goal.take_option-take-requires
take_option-take-requires t c =
    let s = c.args.inner.now in
    let tree = tree_of c.args.value in
    let there = optional_some s tree (sym c.is_null.ensures ∙ c.if-is_null.false) in
    (omega (arith, c.decreases), (c.requires.simple, inner_present value.some (views s tree) (ap is_some (sym there) ∙ c.requires.view)))

pub take_items-take-requires : goal.take_items-take-requires
take_items-take-requires t c =
    let seen = views c.args.item.now in
    let next = next_there seen c.in-Some.value (into_iter_items c.loop-value.value-iterator) (into_iter_items c.next.new.self) c.in-Some.ensures.steps.0 c.loop-value.invariant.present in
    (omega (arith, c.decreases), (c.requires.simple, next.0))

pub take_items-loop-value-preserved : goal.take_items-loop-value-preserved
take_items-loop-value-preserved t c =
    let seen = views c.args.item.now in
    let total = views_items seen (trees_of c.args.values.items) in
    let d = c.in_ok-take.field-0 in
    let done = c.loop-value.items.items in
    let old = into_iter_items c.loop-value.value-iterator in
    let new = into_iter_items c.next.new.self in
    let is = c.in-Some.ensures.steps.0 in
    record {
      all = subst (λ (ds : List Datum). option_map (items_and (items_view ds)) (views_items seen (trees_of new)) ≡ total) (sym c.in_ok-push.ensures.items) (items_next seen c.in-Some.value old new is total done d c.in_ok-take.ensures.value c.loop-value.invariant.all);
      present = (next_there seen c.in-Some.value old new is c.loop-value.invariant.present).1;
      count = omega (arith, ap length is, c.in-Some.ensures.steps.1, c.loop-value.invariant.count);
      owned = subst (λ (ds : List Datum). NoneBorrowed (items_borrowed ds)) (sym c.in_ok-push.ensures.items) (owned_more borrowed_parts done d c.loop-value.invariant.owned c.in_ok-take.ensures.owned);
    }

pub take_items-returns-clause-values : goal.take_items-returns-clause-values
take_items-returns-clause-values t c =
    let seen = views c.args.item.now in
    items_end seen (views_items seen (trees_of c.args.values.items)) c.loop-value.items.items (into_iter_items c.loop-value.value-iterator) (omega (arith, c.in-None.ensures.steps.0, c.loop-value.invariant.count)) c.loop-value.invariant.all

pub take_fields-take_field-requires : goal.take_fields-take_field-requires
take_fields-take_field-requires t c =
    let xs = c.args.fields.now in
    let x = c.field-item.result in
    let i = c.loop-field.field-index in
    let name = string_bytes x.name in
    let rest = fields_of (drop (i + 1) xs) in
    let ps = pairs_of c.loop-field.left in
    let smaller : nodes x.shape < fields_nodes (fields_of xs) = subst (λ (y : FieldShape). nodes y.shape < fields_nodes (fields_of xs)) (sym c.field-item.is) (field_smaller xs i x (omega arith)) in
    let at = fields_drop xs i x (omega arith) c.field-item.is in
    let simple = field_parts name x.shape rest (ap are_simple (sym at) ∙ c.loop-field.invariant.simple) in
    let present = parts_present (field_value name) (views_at (views x.shape) (absent x.shape) (lookup name ps)) (views_fields rest ps) (ap (λ (fs : Fields). is_some (views_fields fs ps)) (sym at) ∙ c.loop-field.invariant.present) in
    (omega (arith, smaller, c.decreases), (simple.1, present.0))

pub take_fields-loop-field-preserved : goal.take_fields-loop-field-preserved
take_fields-loop-field-preserved t c =
    let xs = c.args.fields.now in
    let x = c.field-item.result in
    let i = c.loop-field.field-index in
    let name = string_bytes x.name in
    let rest = fields_of (drop (i + 1) xs) in
    let ps = pairs_of c.loop-field.left in
    let new = pairs_of c.take_field.new.document in
    let total = views_fields (fields_of xs) (pairs_of c.args.document) in
    let done = c.loop-field.taken.items in
    let f = c.in_ok-take_field.field-0 in
    let at = fields_drop xs i x (omega arith) c.field-item.is in
    let apart = or_parts (has_field name rest) (repeats rest) (ap repeats (sym at) ∙ c.loop-field.invariant.distinct) in
    let left = c.in_ok-take_field.ensures.rest in
    record {
      all = subst (λ (fs : List Field). option_map (fields_and (fields_view fs)) (views_fields rest new) ≡ total) (sym c.in_ok-push.ensures.items)
          (field_more name x.shape rest ps new apart.0 left total done f c.in_ok-take_field.ensures.name c.in_ok-take_field.ensures.value (ap (λ (fs : Fields). option_map (fields_and (fields_view done)) (views_fields fs ps)) (sym at) ∙ c.loop-field.invariant.all));
      present = others_present name x.shape rest ps new apart.0 left (ap (λ (fs : Fields). is_some (views_fields fs ps)) (sym at) ∙ c.loop-field.invariant.present);
      distinct = apart.1;
      simple = (field_parts name x.shape rest (ap are_simple (sym at) ∙ c.loop-field.invariant.simple)).2;
      owned = subst (λ (fs : List Field). NoneBorrowed (fields_borrowed fs)) (sym c.in_ok-push.ensures.items) (owned_more field_borrowed done f c.loop-field.invariant.owned c.in_ok-take_field.ensures.owned);
    }

pub take_fields-returns-clause-values : goal.take_fields-returns-clause-values
take_fields-returns-clause-values t c =
    let xs = c.args.fields.now in
    let ps = pairs_of c.loop-field.left in
    let done = c.loop-field.taken.items in
    let none_left = at_drop_all fields_of xs c.loop-field.field-index (omega arith) in
    fields_end (views_fields (fields_of xs) (pairs_of c.args.document)) done (ap (λ (fs : Fields). option_map (fields_and (fields_view done)) (views_fields fs ps)) (sym none_left) ∙ c.loop-field.invariant.all)
