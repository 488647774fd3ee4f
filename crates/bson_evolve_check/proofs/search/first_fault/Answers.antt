use Rattle.std.proofs.Common.{◌≡◌, ◌+◌, ◌<◌, ◌∷◌, ◌++◌, [], length, true, refl, ap, sym, subst, ◌∙◌, arith}
use Rattle.std.specs.BTreeSet.{btree_set_len}
use Rattle.bson_shape.specs.Form.{no_fields}
use Rattle.bson_shape.specs.ShapeView.{fields_of}
use Rattle.bson_evolve_laws.specs.First.{most_pairs, start, IsFirstFault}
use Rattle.bson_evolve_laws.specs.Placed.{placed}
use Rattle.bson_evolve_check.specs.Meeting.{pair_at}
use Rattle.bson_evolve_check.specs.Numbering.{parts_in}
use Rattle.bson_evolve_check.specs.Placing.{place_view, tables_in, IsTable}
use Rattle.bson_evolve_check.specs.Searching.{pending_list, pending_of, next_view, route_path, Enters, GoesOn, IsNext, Searches}
use Rattle.bson_evolve_check.specs.Steps.{steps_view}
use Rattle.bson_evolve_check.specs.declared.place.Place.{Place}
use Rattle.bson_evolve_check.proofs.Few.{all_pairs, closed, few_more, few_none, fewer_left, first_among, not_met}
use Rattle.bson_evolve_check.proofs.Going.{begins, enters, faults, passes, path_is, pending_is, searches, start_is}
use Rattle.bson_evolve_check.proofs.Meets.{contains_none, holds_none}
use Rattle.bson_evolve_check.proofs.search.first_fault.Goals as goal

pub outside-requires : goal.outside-requires
outside-requires c = c.new-parts.ensures

pub loop-waiting-init : goal.loop-waiting-init
loop-waiting-init c =
    let old = c.args.old.now in
    let new = c.args.new.now in
    let parts = c.outside.new.self in
    let hs = tables_in parts.tables in
    let met = c.new-met.result in
    let w = c.start.result in
    let d = w.pending in
    let number = c.in_ok-table.ensures.number in
    let a = subst (λ (p : Place). IsTable hs p.table) (sym c.start.ensures.old) number in
    let b = subst (λ (p : Place). IsTable hs p.table) (sym c.start.ensures.new) number in
    let none : c.in_ok-table.table.definitions.now ≡ [] = c.in_ok-table.ensures.definitions in
    let first : place_view d.old ≡ placed no_fields old = ap place_view c.start.ensures.old ∙ ap (λ ds. placed (fields_of ds) old) none in
    let second : place_view d.new ≡ placed no_fields new = ap place_view c.start.ensures.new ∙ ap (λ ds. placed (fields_of ds) new) none in
    let holds = holds_none (parts_in parts) met (contains_none met c.new-met.ensures.empty) in
    let goes = begins old new d c.start.ensures.level c.start.ensures.way first second (all_pairs old new) parts met c.in_ok-table.ensures.more.good holds a b (first_among old new) in
    let whole : start old new ∷ [] ≡ pending_list [] (d ∷ []) = start_is old new d c.start.ensures.level c.start.ensures.way first second in
    let route : c.new-route.result.items ≡ [] = c.new-route.ensures.items in
    let pending : pending_of c.push.new.self.items ≡ d ∷ [] = ap pending_of (c.in_ok-push.ensures.items ∙ ap (λ ds. ds ++ w ∷ []) c.new-waiting.ensures.items) in (
      [],
      subst (λ ds. GoesOn (all_pairs old new) [] parts met c.new-route.result.items ds) (sym pending) (subst (λ r. GoesOn (all_pairs old new) [] parts met r (d ∷ [])) (sym route) goes),
      subst (Searches old new []) (whole ∙ (λ k. pending_list (sym route k) (sym pending k))) (λ n. (n, refl)),
      few_none old new (btree_set_len met) c.new-met.ensures.len,
    )

pub next_unmet-requires : goal.next_unmet-requires
next_unmet-requires c = let g = c.loop-waiting.invariant.1 in record { good = g.good; known = g.known }

pub push_row-requires : goal.push_row-requires
push_row-requires c = c.requires.bson

pub returns-then-not-branch : goal.returns-then-not-branch
returns-then-not-branch c =
    let old = c.args.old.now in
    let new = c.args.new.now in
    let pairs = c.loop-waiting.invariant.0 in
    let d = c.in-Some.next.pending in
    let before = pending_list c.loop-waiting.route.items (pending_of c.loop-waiting.waiting.items) in
    let n : IsNext (all_pairs old new) pairs before c.next_unmet.new.parts c.next_unmet.new.met c.loop-waiting.route.items d (pending_of c.next_unmet.new.waiting.items) × (btree_set_len c.next_unmet.new.met ≡ btree_set_len c.loop-waiting.met + 1) =
    rw c.in-Some.is at (c.in_ok-next.ensures (all_pairs old new) pairs c.loop-waiting.route.items c.loop-waiting.invariant.1) in
    let after = c.push-in-Some.new.self.items in
    let longer = c.in_ok-push-2.ensures.items ∙ ap (λ ws. ws ++ d.way ∷ []) c.truncate.ensures.items in
    let none = subst (λ b. Enters b c.len.result d (pending_of c.next_unmet.new.waiting.items) (pending_of c.push_row.new.waiting.items)) c.if-not-branch.true c.in_ok-push_row.ensures in
    let route = c.loop-waiting.route.items in
    let rest = pending_of c.next_unmet.new.waiting.items in
    let path = path_is (all_pairs old new) pairs before c.next_unmet.new.parts c.next_unmet.new.met route rest d n.0 after longer in
    subst (IsFirstFault old new) (sym (c.in_ok-path_of.ensures ∙ ap route_path c.deref.ensures.value ∙ path))
    (faults old new pairs before (pending_list route rest) (next_view route d) n.0.first c.loop-waiting.invariant.2 none)

pub loop-waiting-preserved : goal.loop-waiting-preserved
loop-waiting-preserved c =
    let old = c.args.old.now in
    let new = c.args.new.now in
    let all = all_pairs old new in
    let pairs = c.loop-waiting.invariant.0 in
    let route = c.loop-waiting.route.items in
    let d = c.in-Some.next.pending in
    let before = pending_list c.loop-waiting.route.items (pending_of c.loop-waiting.waiting.items) in
    let n : IsNext (all_pairs old new) pairs before c.next_unmet.new.parts c.next_unmet.new.met c.loop-waiting.route.items d (pending_of c.next_unmet.new.waiting.items) × (btree_set_len c.next_unmet.new.met ≡ btree_set_len c.loop-waiting.met + 1) =
    rw c.in-Some.is at (c.in_ok-next.ensures (all_pairs old new) pairs c.loop-waiting.route.items c.loop-waiting.invariant.1) in
    let after = c.push-in-Some.new.self.items in
    let longer = c.in_ok-push-2.ensures.items ∙ ap (λ ws. ws ++ d.way ∷ []) c.truncate.ensures.items in
    let rest = pending_of c.next_unmet.new.waiting.items in
    let pending = pending_of c.push_row.new.waiting.items in
    let count : c.len.result ≡ length after = omega (arith, c.len.ensures) in
    let e = subst (λ n. Enters true n d rest pending) count (subst (λ b. Enters b c.len.result d rest pending) c.if-not-branch.false c.in_ok-push_row.ensures) in
    let among = closed old new c.known.ensures.shape c.known-2.ensures.shape c.requires.plain (next_view route d) n.0.here (steps_view e.0) e.1 in
    let few = few_more old new pairs (pair_at d.old d.new) (btree_set_len c.loop-waiting.met) n.0.here n.0.fresh c.loop-waiting.invariant.3 in (
      pair_at d.old d.new ∷ pairs,
      enters all pairs before c.next_unmet.new.parts c.next_unmet.new.met route rest d n.0 after longer e.0 pending e.2 among,
      subst (Searches old new (pair_at d.old d.new ∷ pairs)) (sym (pending_is all pairs before c.next_unmet.new.parts c.next_unmet.new.met route rest d n.0 after longer e.0 pending e.2))
          (searches old new pairs before (pending_list route rest) (next_view route d) n.0.first c.loop-waiting.invariant.2 (steps_view e.0) e.1),
      subst (λ m. not_met old new (pair_at d.old d.new ∷ pairs) + m < most_pairs old new) (sym n.1) few,
    )

pub loop-waiting-smaller : goal.loop-waiting-smaller
loop-waiting-smaller c =
    let old = c.args.old.now in
    let new = c.args.new.now in
    let pairs = c.loop-waiting.invariant.0 in
    let d = c.in-Some.next.pending in
    let before = pending_list c.loop-waiting.route.items (pending_of c.loop-waiting.waiting.items) in
    let n : IsNext (all_pairs old new) pairs before c.next_unmet.new.parts c.next_unmet.new.met c.loop-waiting.route.items d (pending_of c.next_unmet.new.waiting.items) × (btree_set_len c.next_unmet.new.met ≡ btree_set_len c.loop-waiting.met + 1) =
    rw c.in-Some.is at (c.in_ok-next.ensures (all_pairs old new) pairs c.loop-waiting.route.items c.loop-waiting.invariant.1) in
    let few = few_more old new pairs (pair_at d.old d.new) (btree_set_len c.loop-waiting.met) n.0.here n.0.fresh c.loop-waiting.invariant.3 in
    fewer_left old new pairs (pair_at d.old d.new) (btree_set_len c.loop-waiting.met) (btree_set_len c.next_unmet.new.met) n.1
    (subst (λ m. not_met old new (pair_at d.old d.new ∷ pairs) + m < most_pairs old new) (sym n.1) few)

pub returns : goal.returns
returns c =
    let old = c.args.old.now in
    let new = c.args.new.now in
    let pairs = c.loop-waiting.invariant.0 in
    let before = pending_list c.loop-waiting.route.items (pending_of c.loop-waiting.waiting.items) in
    passes old new pairs before (rw c.in_default.is at (c.in_ok-next.ensures (all_pairs old new) pairs c.loop-waiting.route.items c.loop-waiting.invariant.1)) c.loop-waiting.invariant.2
