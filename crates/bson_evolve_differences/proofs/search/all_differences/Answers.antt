use Rattle.std.proofs.Common.{◌≡◌, ◌+◌, ◌<◌, ◌∷◌, ◌++◌, [], List, length, map, reverse, ap, sym, subst, ◌∙◌}
use Rattle.std.specs.BTreeSet.{btree_set_len}
use Rattle.bson_shape.specs.Form.{no_fields}
use Rattle.bson_shape.specs.ShapeView.{fields_of}
use Rattle.bson_evolve_laws.specs.First.{most_pairs, pending_step, start, PendingPair}
use Rattle.bson_evolve_laws.specs.Placed.{placed}
use Rattle.bson_evolve_laws.specs.Rows.{Step}
use Rattle.bson_evolve_check.specs.Meeting.{pair_at}
use Rattle.bson_evolve_check.specs.Numbering.{parts_in}
use Rattle.bson_evolve_check.specs.Placing.{place_view, tables_in, IsTable}
use Rattle.bson_evolve_check.specs.Searching.{next_view, pending_at, pending_list, pending_of, route_path, AreAmong, GoesOn, IsNext}
use Rattle.bson_evolve_check.specs.declared.place.Place.{Place}
use Rattle.bson_evolve_check.proofs.Few.{all_pairs, few_more, few_none, fewer_left, first_among, not_met}
use Rattle.bson_evolve_check.proofs.Going.{begins, enters, path_is, pending_is, start_is}
use Rattle.bson_evolve_check.proofs.Meets.{contains_none, holds_none}
use Rattle.bson_evolve_differences.specs.Views.{differences_view}
use Rattle.bson_evolve_differences.specs.Differences.{difference, differences_at, reached, reasons}
use Rattle.bson_evolve_differences.proofs.Going.{finds_all, finds_on, found_all, Finds}
use Rattle.bson_evolve_differences.proofs.Reaching.{reached_among}
use Rattle.bson_evolve_differences.proofs.search.all_differences.Goals as goal

pub outside-requires : goal.outside-requires
outside-requires c = c.new-parts.ensures

pub loop-found-init : goal.loop-found-init
loop-found-init c =
    let old = c.args.old.now in
    let new = c.args.new.now in
    let parts = c.outside.new.self in
    let hs = tables_in parts.tables in
    let met = c.new-met.result in
    let w = c.start.result in
    let d = w.pending in
    let number = c.in_ok-table.ensures.number in
    let a = subst (λ (p : Place). IsTable hs p.table) (sym c.start.ensures.old) number in
    let b = subst (λ (p : Place). IsTable hs p.table) (sym c.start.ensures.new) number in
    let none : c.in_ok-table.table.definitions.now ≡ [] = c.in_ok-table.ensures.definitions in
    let first : place_view d.old ≡ placed no_fields old = ap place_view c.start.ensures.old ∙ ap (λ ds. placed (fields_of ds) old) none in
    let second : place_view d.new ≡ placed no_fields new = ap place_view c.start.ensures.new ∙ ap (λ ds. placed (fields_of ds) new) none in
    let holds = holds_none (parts_in parts) met (contains_none met c.new-met.ensures.empty) in
    let goes = begins old new d c.start.ensures.level c.start.ensures.way first second (all_pairs old new) parts met c.in_ok-table.ensures.more.good holds a b (first_among old new) in
    let whole : start old new ∷ [] ≡ pending_list [] (d ∷ []) = start_is old new d c.start.ensures.level c.start.ensures.way first second in
    let route : c.new-route.result.items ≡ [] = c.new-route.ensures.items in
    let found : differences_view c.new-found.result.items ≡ [] = ap differences_view c.new-found.ensures.items in
    let pending : pending_of c.push.new.self.items ≡ d ∷ [] = ap pending_of (c.in_ok-push.ensures.items ∙ ap (λ ds. ds ++ w ∷ []) c.new-waiting.ensures.items) in (
      [],
      subst (λ ds. GoesOn (all_pairs old new) [] parts met c.new-route.result.items ds) (sym pending) (subst (λ r. GoesOn (all_pairs old new) [] parts met r (d ∷ [])) (sym route) goes),
      subst (λ ds. Finds old new ds [] (pending_list c.new-route.result.items (pending_of c.push.new.self.items))) (sym found)
          (subst (Finds old new [] []) (whole ∙ (λ k. pending_list (sym route k) (sym pending k))) (finds_all old new)),
      few_none old new (btree_set_len met) c.new-met.ensures.len,
    )

pub next_unmet-requires : goal.next_unmet-requires
next_unmet-requires c = let g = c.loop-found.invariant.1 in record { good = g.good; known = g.known }

pub enter-requires : goal.enter-requires
enter-requires c = c.requires.bson

pub loop-found-preserved : goal.loop-found-preserved
loop-found-preserved c =
    let old = c.args.old.now in
    let new = c.args.new.now in
    let all = all_pairs old new in
    let pairs = c.loop-found.invariant.0 in
    let route = c.loop-found.route.items in
    let d = c.in-Some.next.pending in
    let before = pending_list c.loop-found.route.items (pending_of c.loop-found.waiting.items) in
    let n : IsNext (all_pairs old new) pairs before c.next_unmet.new.parts c.next_unmet.new.met c.loop-found.route.items d (pending_of c.next_unmet.new.waiting.items) × (btree_set_len c.next_unmet.new.met ≡ btree_set_len c.loop-found.met + 1) =
    rw c.in-Some.is at (c.in_ok-next.ensures (all_pairs old new) pairs c.loop-found.route.items c.loop-found.invariant.1) in
    let after = c.push-in-Some.new.self.items in
    let longer = c.in_ok-push-2.ensures.items ∙ ap (λ ws. ws ++ d.way ∷ []) c.truncate.ensures.items in
    let rest = pending_of c.next_unmet.new.waiting.items in
    let pending = pending_of c.enter.new.waiting.items in
    let a = d.old.shape.now in
    let b = d.new.shape.now in
    let next : PendingPair = next_view route d in
    let ds = differences_view c.loop-found.found.items in
    let e = c.in_ok-enter.ensures.waiting in
    let pushed = subst (λ k. pending ≡ rest ++ reverse (map (pending_at k d.old.table d.new.table) e.0)) (ap length c.deref.ensures.value) e.2 in
    let path : route_path c.deref.result.now ≡ next.path = ap route_path c.deref.ensures.value ∙ path_is all pairs before c.next_unmet.new.parts c.next_unmet.new.met route rest d n.0 after longer in
    let among : AreAmong all (reached next) = reached_among old new c.known.ensures.shape c.known-2.ensures.shape c.requires.plain next n.0.here in
    let within = subst (λ (ss : List Step). AreAmong all (map (pending_step next) ss)) (sym e.1) among in
    let left = pending_is all pairs before c.next_unmet.new.parts c.next_unmet.new.met route rest d n.0 after longer e.0 pending pushed ∙ ap (λ (ss : List Step). map (pending_step next) ss ++ pending_list route rest) e.1 in
    let told_is : differences_view c.enter.new.found.items ≡ ds ++ differences_at next = c.in_ok-enter.ensures.found ∙ ap (λ p. ds ++ map (difference p a b) (reasons a b)) path in
    let few = few_more old new pairs (pair_at d.old d.new) (btree_set_len c.loop-found.met) n.0.here n.0.fresh c.loop-found.invariant.3 in (
      pair_at d.old d.new ∷ pairs,
      enters all pairs before c.next_unmet.new.parts c.next_unmet.new.met route rest d n.0 after longer e.0 pending pushed within,
      subst (λ fs. Finds old new fs (pair_at d.old d.new ∷ pairs) (pending_list after pending)) (sym told_is)
          (subst (Finds old new (ds ++ differences_at next) (pair_at d.old d.new ∷ pairs)) (sym left) (finds_on old new ds pairs before c.loop-found.invariant.2 next (pending_list route rest) n.0.first)),
      subst (λ m. not_met old new (pair_at d.old d.new ∷ pairs) + m < most_pairs old new) (sym n.1) few,
    )

pub loop-found-smaller : goal.loop-found-smaller
loop-found-smaller c =
    let old = c.args.old.now in
    let new = c.args.new.now in
    let pairs = c.loop-found.invariant.0 in
    let d = c.in-Some.next.pending in
    let before = pending_list c.loop-found.route.items (pending_of c.loop-found.waiting.items) in
    let n : IsNext (all_pairs old new) pairs before c.next_unmet.new.parts c.next_unmet.new.met c.loop-found.route.items d (pending_of c.next_unmet.new.waiting.items) × (btree_set_len c.next_unmet.new.met ≡ btree_set_len c.loop-found.met + 1) =
    rw c.in-Some.is at (c.in_ok-next.ensures (all_pairs old new) pairs c.loop-found.route.items c.loop-found.invariant.1) in
    let few = few_more old new pairs (pair_at d.old d.new) (btree_set_len c.loop-found.met) n.0.here n.0.fresh c.loop-found.invariant.3 in
    fewer_left old new pairs (pair_at d.old d.new) (btree_set_len c.loop-found.met) (btree_set_len c.next_unmet.new.met) n.1
    (subst (λ m. not_met old new (pair_at d.old d.new ∷ pairs) + m < most_pairs old new) (sym n.1) few)

pub returns : goal.returns
returns c =
    let old = c.args.old.now in
    let new = c.args.new.now in
    let pairs = c.loop-found.invariant.0 in
    let before = pending_list c.loop-found.route.items (pending_of c.loop-found.waiting.items) in
    found_all old new (differences_view c.loop-found.found.items) pairs before c.loop-found.invariant.2 (rw c.in_default.is at (c.in_ok-next.ensures (all_pairs old new) pairs c.loop-found.route.items c.loop-found.invariant.1))
