use Rattle.std.proofs.Common.{◌≡◌, ◌+◌, [], cond, false, reverse, refl, ap, ◌∙◌, arith}
use Rattle.std.proofs.lemmas.List.{nil_from_length}
use Rattle.std.specs.BTreeSet.{btree_set_len}
use Rattle.bson_evolve_check.specs.Numbering.{parts_in}
use Rattle.bson_evolve_check.specs.Placing.{place_view, tables_in}
use Rattle.bson_evolve_check.specs.Searching.{pending_of}
use Rattle.bson_evolve_check.specs.declared.search.Pending.{Pending}
use Rattle.bson_evolve_check.proofs.Going.{comes, pending_of_last, ends, known_more, popped_known, seen_at, skipped, skips}
use Rattle.bson_evolve_check.proofs.Numbers.{all_both}
use Rattle.bson_evolve_check.proofs.Placings.{at_longer, at_more}
use Rattle.bson_evolve_check.proofs.search.next_unmet.Goals as goal

pub loop-next-init : goal.loop-next-init
loop-next-init c = record { good = c.requires.good; known = c.requires.known; goes = λ all pairs route g. (g, refl); many = refl }

pub part-requires : goal.part-requires
part-requires c =
    let last = pending_of_last c.loop-next.waiting.items c.pop.new.self.items c.in-Some.next c.in-Some.ensures.items in
    let k = popped_known (tables_in c.loop-next.parts.tables) (pending_of c.loop-next.waiting.items) (pending_of c.pop.new.self.items) c.in-Some.next.pending last c.loop-next.invariant.known in
    record { good = c.loop-next.invariant.good; table = k.0 }

pub part-requires-in-Some : goal.part-requires-in-Some
part-requires-in-Some c =
    let last = pending_of_last c.loop-next.waiting.items c.pop.new.self.items c.in-Some.next c.in-Some.ensures.items in
    let k = popped_known (tables_in c.loop-next.parts.tables) (pending_of c.loop-next.waiting.items) (pending_of c.pop.new.self.items) c.in-Some.next.pending last c.loop-next.invariant.known in
    let more = c.in_ok-first.ensures.more in
    record { good = more.good; table = at_more (tables_in c.loop-next.parts.tables) (tables_in c.part.new.self.tables) c.in-Some.next.pending.new.table.number _ more.tables k.1 }

pub returns-then-branch : goal.returns-then-branch
returns-then-branch c = λ all pairs route g.
    let goes = c.loop-next.invariant.goes all pairs route g in
    let w = c.in-Some.next in
    let last = pending_of_last c.loop-next.waiting.items c.pop.new.self.items w c.in-Some.ensures.items in
    let p = c.loop-next.parts in
    let q = c.part.new.self in
    let r = c.part-in-Some.new.self in
    let a = c.in_ok-first.ensures in
    let b = c.in_ok-second.ensures in
    let s = c.in_ok-first.first in
    let t = c.in_ok-second.second in
    let i = at_more (tables_in q.tables) (tables_in r.tables) s.seen.table.number _ b.more.tables a.part.table in
    let next : Pending = record { level = w.pending.level; way = w.pending.way; old = s.seen; new = t.seen } in
    let many : btree_set_len c.meet.new.met ≡ btree_set_len c.loop-next.met + 1 = c.in_ok-meet.ensures.many ∙ ap (λ t. btree_set_len c.loop-next.met + cond t 1 0) c.if-branch.true in (
      comes all pairs p c.loop-next.met route (pending_of c.loop-next.waiting.items) (pending_of c.pop.new.self.items) w.pending last goes.0 r c.meet.new.met (all_both p q r a.more b.more) s.seen t.seen i
          b.part.table (seen_at s w.pending.old a.part.seen a.place) (seen_at t w.pending.new b.part.seen b.place) s.number t.number (at_longer (parts_in q) (parts_in r) s.number (place_view s.seen) b.more.parts a.part.number) b.part.number c.in_ok-meet.field-0 c.in_ok-meet.ensures.met c.if-branch.true next refl
          refl refl refl _ goes.1,
      many ∙ ap (λ n. n + 1) c.loop-next.invariant.many,
    )

pub loop-next-preserved : goal.loop-next-preserved
loop-next-preserved c =
    let w = c.in-Some.next in
    let last = pending_of_last c.loop-next.waiting.items c.pop.new.self.items w c.in-Some.ensures.items in
    let p = c.loop-next.parts in
    let q = c.part.new.self in
    let r = c.part-in-Some.new.self in
    let a = c.in_ok-first.ensures in
    let b = c.in_ok-second.ensures in
    let s = c.in_ok-first.first in
    let t = c.in_ok-second.second in
    let more = all_both p q r a.more b.more in
    let i = at_more (tables_in q.tables) (tables_in r.tables) s.seen.table.number _ b.more.tables a.part.table in
    let k = popped_known (tables_in p.tables) (pending_of c.loop-next.waiting.items) (pending_of c.pop.new.self.items) w.pending last c.loop-next.invariant.known in
    let same : btree_set_len c.meet.new.met ≡ btree_set_len c.loop-next.met + cond false 1 0 = c.in_ok-meet.ensures.many ∙ ap (λ t. btree_set_len c.loop-next.met + cond t 1 0) c.if-branch.false in
    record {
      good = more.good;
      known = known_more (tables_in p.tables) (tables_in r.tables) more.tables (reverse (pending_of c.pop.new.self.items)) k.2;
      goes = λ all pairs route g.
          let goes = c.loop-next.invariant.goes all pairs route g in
          let at = at_longer (parts_in q) (parts_in r) s.number (place_view s.seen) b.more.parts a.part.number in
          let old_seen = seen_at s w.pending.old a.part.seen a.place in
          let new_seen = seen_at t w.pending.new b.part.seen b.place in
          let before = pending_of c.loop-next.waiting.items in
          let rest = pending_of c.pop.new.self.items in
          let now = c.meet.new.met in
          let meets = c.in_ok-meet.ensures.met in (
            skips all pairs p c.loop-next.met route before rest w.pending last goes.0 r now more s.seen t.seen i b.part.table old_seen new_seen s.number t.number at b.part.number c.in_ok-meet.field-0 meets c.if-branch.false,
            goes.1 ∙ skipped all pairs p c.loop-next.met route before rest w.pending last goes.0 r now more s.seen t.seen i b.part.table old_seen new_seen s.number t.number at b.part.number c.in_ok-meet.field-0 meets c.if-branch.false,
          );
      many = omega (arith, same, c.loop-next.invariant.many);
    }

pub returns : goal.returns
returns c = λ all pairs route g.
    let none : c.loop-next.waiting.items ≡ [] = nil_from_length c.loop-next.waiting.items (omega (arith, c.in_default.ensures.cases.0)) in
    (c.loop-next.invariant.goes all pairs route g).1 ∙ ends all pairs route (pending_of c.loop-next.waiting.items) (ap pending_of none)
