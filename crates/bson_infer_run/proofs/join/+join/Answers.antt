use Rattle.std.proofs.Common.{◌≡◌, ◌+◌, ◌<◌, length, get_or, refl, ◌∙◌, sym, ap, subst, arith}
use Rattle.std.specs.Vec.Iter.{into_iter_len}
use Rattle.std.proofs.lemmas.Iterator.Adapters.{YieldsList-from_vec}
use Rattle.std.proofs.lemmas.Iterator.Consumers.{YieldsList-turn, YieldsList-end}
use Rattle.std.proofs.lemmas.List.{length_push}
use Rattle.bson_shape.specs.ShapeView.{nodes, fields_nodes}
use Rattle.bson_infer_laws.specs.Join.{is_nothing, opt, join}
use Rattle.bson_infer_run.specs.Counted.{put, puts, settled}
use Rattle.bson_infer_run.specs.SummaryView.{counted, counted_of, counted_field, IsKnown}
use Rattle.bson_infer_run.specs.declared.summary.FieldSummary.{FieldSummary}
use Rattle.bson_infer_run.proofs.Places.{put_at, drop_all, puts_next}
use Rattle.bson_infer_run.proofs.Structs.{joined_struct, joined_known, field_falls, set_twice, clash, one_null, solid_join, join_null}
use Rattle.bson_infer_run.proofs.join.+join.Goals as goal
use Rattle.bson_infer_run.proofs.join.+join.Goals.{joined-else-first_null-via-then-first_null+then-not-second_null+else-is_null_or_nothing, joined-else-first_null-via-then-first_null+else-not-second_null, joined-else-first_null-via-else-first_null}
use Rattle.bson_infer_run.proofs.join.+join.Goals.{joined-else-second_null-via-then-second_null+then-not-first_null+else-is_null_or_nothing-2, joined-else-second_null-via-then-second_null+else-not-first_null, joined-else-second_null-via-else-second_null}

pub join_field-returns-clause-field : goal.join_field-returns-clause-field
join_field-returns-clause-field t c =
    let s = c.place_of.new.self in
    let g = counted_field c.args.name.now c.args.field in
    let new : FieldSummary = record { count = c.in-Some.count; summary = c.in_ok-summary.summary } in
    let old = c.replace-known.result in
    let is : old ≡ get_or s.fields.items c.in_ok-place.place old = rw c.replace-known.ensures.value c.index_mut.ensures.value in
    ap (counted s.names) (set_twice s.fields.items c.in_ok-place.place c.replace-known.new.dest new)
    ∙ put_at g s.names s.fields.items c.in_ok-place.place old new c.in_ok-place.ensures.place (omega (arith, c.in_ok-place.ensures.within)) is c.in-Some.ensures.1 c.in_ok-summary.ensures
    ∙ c.in_ok-place.ensures.puts g refl

pub join_structs-of-requires : goal.join_structs-of-requires
join_structs-of-requires t c =
    let e = c.in_ok-join_fields.ensures in
    joined_known c.deref_mut.result.now c.into_inner.result c.join_fields.new.first (subst IsKnown (sym c.deref_mut.ensures.value) c.requires.first) (subst IsKnown (sym c.into_inner.ensures) c.requires.second) e.even e.count e.fields

pub join_structs-returns : goal.join_structs-returns
join_structs-returns t c =
    let e = c.in_ok-join_fields.ensures in
    c.of.ensures
    ∙ joined_struct c.args.first.value c.args.second.value c.join_fields.new.first c.requires.first c.requires.second
    (rw (sym c.deref_mut.ensures.value, sym c.into_inner.ensures) e.count) (rw (sym c.deref_mut.ensures.value, sym c.into_inner.ensures) e.fields)

pub joined-or_null-requires : goal.joined-or_null-requires
joined-or_null-requires t c =
    let n = c.first.inside.or_null in
    let m = c.second.inside.or_null in
    ap is_nothing c.in_ok-joined.ensures ∙ solid_join n m c.first.inside.kind c.second.inside.kind c.first.invariant c.second.invariant (one_null n m c.then-first_null-2.either)

pub joined-returns-then-first_null-2 : goal.joined-returns-then-first_null-2
joined-returns-then-first_null-2 t c =
    let n = c.first.inside.or_null in
    let m = c.second.inside.or_null in
    c.or_null.ensures ∙ ap opt c.in_ok-joined.ensures
    ∙ join_null n m c.first.inside.kind c.second.inside.kind (one_null n m c.then-first_null-2.either)
    (λ a b.
    elim c.else-first_null.branch [
      | joined-else-first_null-via-then-first_null+then-not-second_null+else-is_null_or_nothing w ↦ sym w.is_null_or_nothing.ensures ∙ w.if-is_null_or_nothing.false
      | joined-else-first_null-via-then-first_null+else-not-second_null w ↦ clash m w.if-not-second_null.false b
      | joined-else-first_null-via-else-first_null w ↦ clash n a w.if-first_null.false
    ])
    (λ a b.
    elim c.else-second_null.branch [
      | joined-else-second_null-via-then-second_null+then-not-first_null+else-is_null_or_nothing-2 w ↦ sym w.is_null_or_nothing-then-not-first_null.ensures ∙ w.if-is_null_or_nothing-2.false
      | joined-else-second_null-via-then-second_null+else-not-first_null w ↦ clash n w.if-not-first_null.false b
      | joined-else-second_null-via-else-second_null w ↦ clash m a w.if-second_null.false
    ])
    ∙ (λ i. join (c.first.view_is i) (c.second.view_is i))

pub join_fields-join_field-requires : goal.join_fields-join_field-requires
join_fields-join_field-requires t c =
    let s = c.args.second in
    let starts = c.into_iter-field-iterator.ensures.into_iter_gives in
    let long : into_iter_len c.into_iter-field-iterator.result ≡ length s.fields.items = omega (arith, starts.1) in
    let turn = YieldsList-turn (YieldsList-from_vec s.fields.items starts.0 long) c.loop-field.yielded c.loop-field.field-iterator c.loop-field.yielded_by _ c.next.new.self c.in-Some-field.field c.in-Some-field.is c.next.ensures.steps in
    let f = c.in-Some-field.field in
    let smaller : nodes f.summary < fields_nodes (settled s.count (counted_of s)) = field_falls s.count s.names s.fields.items (length c.loop-field.yielded) f c.requires.second turn.0 turn.1 in
    (omega (arith, smaller, c.decreases), c.loop-field.invariant.even)

pub join_fields-loop-field-preserved : goal.join_fields-loop-field-preserved
join_fields-loop-field-preserved t c =
    let s = c.args.second in
    let i = c.loop-field.invariant in
    let starts = c.into_iter-field-iterator.ensures.into_iter_gives in
    let long : into_iter_len c.into_iter-field-iterator.result ≡ length s.fields.items = omega (arith, starts.1) in
    let turn = YieldsList-turn (YieldsList-from_vec s.fields.items starts.0 long) c.loop-field.yielded c.loop-field.field-iterator c.loop-field.yielded_by _ c.next.new.self c.in-Some-field.field c.in-Some-field.is c.next.ensures.steps in
    let e = c.in_ok-join_field.ensures in
    let k = c.name.result.now in
    let f = c.in-Some-field.field in
    let key : k ≡ get_or s.names c.loop-field.place k = c.name.ensures in
    let item : f ≡ get_or s.fields.items c.loop-field.place f = rw i.place turn.1 in
    record {
      place = ap (λ n. n + 1) i.place ∙ sym (length_push c.loop-field.yielded c.in-Some-field.field);
      even = e.even;
      count = e.count ∙ i.count;
      fields = puts_next (counted_of c.loop-field.first) (counted_of c.join_field.new.fields) s.names s.fields.items c.loop-field.place k f c.requires.second
          (omega (arith, i.place, turn.0)) key item
          e.field
          ∙ i.fields;
    }

pub join_fields-returns-clause-fields : goal.join_fields-returns-clause-fields
join_fields-returns-clause-fields t c =
    let s = c.args.second in
    let i = c.loop-field.invariant in
    let starts = c.into_iter-field-iterator.ensures.into_iter_gives in
    let long : into_iter_len c.into_iter-field-iterator.result ≡ length s.fields.items = omega (arith, starts.1) in
    let end = YieldsList-end (YieldsList-from_vec s.fields.items starts.0 long) c.loop-field.yielded c.loop-field.field-iterator c.loop-field.yielded_by _ c.next.new.self c.in-None.is c.next.ensures.steps in
    ap (puts (counted_of c.loop-field.first)) (sym (drop_all s.names s.fields.items c.loop-field.place (sym end.1 ∙ sym i.place))) ∙ i.fields
