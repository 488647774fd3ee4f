-- How the search goes on.
use Rattle.std.proofs.Common.{◌≡◌, ℕ, suc, ◌+◌, ◌<◌, ◌≤◌, Bool, true, false, cond, not, List, [], ◌∷◌, ◌++◌, drop, get_or, length, map, reverse, take, take_all, Some, None, refl, ap, sym, subst, ◌∙◌, arith}
use Rattle.std.specs.BTreeSet.{BTreeSet}
use Rattle.std.proofs.lemmas.List.{append-nil, append_assoc, length-append, length-take-le, map-append, reverse-append, reverse-reverse, take-take, take_at}
use Rattle.bson_shape.specs.Form.{Form, Fields, no_fields}
use Rattle.bson_values.specs.Refusal.{Path}
use Rattle.bson_evolve_laws.specs.Compatible.{IsCompatible}
use Rattle.bson_evolve_laws.specs.First.{Pair, pair_of, is_met, PendingPair, pending_step, Outcome, unmet, entered, entered_first, search, start, IsFirstFault}
use Rattle.bson_evolve_laws.specs.Placed.{placed, peel, Placed}
use Rattle.bson_evolve_laws.specs.Rows.{row, Step as RowStep}
use Rattle.bson_evolve_laws.proofs.Searched.{search_yes}
use Rattle.bson_evolve_check.specs.Meeting.{PairKey, pair_at, Holds, IsMeeting}
use Rattle.bson_evolve_check.specs.Numbering.{parts_in, AreGood, AreMore}
use Rattle.bson_evolve_check.specs.Placing.{place_view, tables_in, AreDifferent, IsAt, IsMore, IsTable}
use Rattle.bson_evolve_check.specs.Searching.{pending_at, pending_list, pending_view, pending_of, next_view, route_path, AreAmong, AreKnown, AreWithin, GoesOn, IsNext, Searches}
use Rattle.bson_evolve_check.specs.Steps.{step_view, steps_view, way_path}
use Rattle.bson_evolve_check.specs.declared.parts.Part.{Part}
use Rattle.bson_evolve_check.specs.declared.parts.Parts.{Parts}
use Rattle.bson_evolve_check.specs.declared.place.Place.{Place}
use Rattle.bson_evolve_check.specs.declared.place.Table.{Table}
use Rattle.bson_evolve_check.specs.declared.search.Pending.{Pending}
use Rattle.bson_evolve_check.specs.declared.search.Waiting.{Waiting}
use Rattle.bson_evolve_check.specs.declared.step.Step.{Step}
use Rattle.bson_evolve_check.specs.declared.step.Way.{Way}
use Rattle.bson_evolve_check.proofs.Meets.{holds_more}
use Rattle.bson_evolve_check.proofs.Numbers.{more_numbers, parts_apart}
use Rattle.bson_evolve_check.proofs.Placings.{at_more}
use Rattle.bson_evolve_check.proofs.Pushes.{drop_next}

-- ---- one step of the search

abbrev later : ℕ → List Pair → List PendingPair → Outcome
later n more ds = search n more ds

skips_met : (pairs : List Pair) (d : PendingPair) (ds : List PendingPair) → is_met pairs d.pair ≡ true → unmet pairs (d ∷ ds) ≡ unmet pairs ds
skips_met pairs d ds e = ap (λ b. cond b (unmet pairs ds) (d ∷ ds)) e

stops_at : (pairs : List Pair) (d : PendingPair) (ds : List PendingPair) → is_met pairs d.pair ≡ false → unmet pairs (d ∷ ds) ≡ d ∷ ds
stops_at pairs d ds e = ap (λ b. cond b (unmet pairs ds) (d ∷ ds)) e

-- each pair that was met passes
pub passes : (old new : Form) (pairs : List Pair) (before : List PendingPair) → unmet pairs before ≡ [] → Searches old new pairs before → IsCompatible old new
passes old new pairs before none left = let r = left 1 in search_yes r.0 old new pairs (r.1 ∙ ap (entered_first (later 0) pairs) none)

module _ (old new : Form) (pairs : List Pair) (before rest : List PendingPair) (d : PendingPair) (first : unmet pairs before ≡ d ∷ rest) (left : Searches old new pairs before) where
  -- no row names the first that was not met
  pub faults : row d.pair.old.form d.pair.new.form ≡ None → IsFirstFault old new d.path
  faults none = let r = left 1 in (r.0, r.1 ∙ ap (entered_first (later 0) pairs) first ∙ ap (entered (later 0) pairs d rest) none)

  -- a row names it
  pub searches : (ss : List RowStep) → row d.pair.old.form d.pair.new.form ≡ Some ss → Searches old new (d.pair ∷ pairs) (map (pending_step d) ss ++ rest)
  searches ss is = λ n. let r = left (suc n) in (r.0, r.1 ∙ ap (entered_first (later n) pairs) first ∙ ap (entered (later n) pairs d rest) is)

-- ---- the route

path_append : (ws vs : List Way) → route_path (ws ++ vs) ≡ route_path ws ++ route_path vs
path_append [] vs = refl
path_append (w ∷ ws) vs = ap (λ p. way_path w ++ p) (path_append ws vs) ∙ sym (append_assoc (way_path w) (route_path ws) (route_path vs))

pub path_one : (ws : List Way) (w : Way) → route_path (ws ++ w ∷ []) ≡ route_path ws ++ way_path w
path_one ws w = path_append ws (w ∷ []) ∙ ap (λ p. route_path ws ++ p) (append-nil (way_path w))

-- one way more of a path
pub ways_more : (ws : List Way) (i : ℕ) (d : Way) (before now init : Path) → i < length ws → now ≡ before ++ way_path (get_or ws i d) → before ++ route_path (drop i ws) ≡ init → now ++ route_path (drop (i + 1) ws) ≡ init
ways_more ws i d before now init l e inv =
    ap (λ z. z ++ route_path (drop (i + 1) ws)) e
    ∙ append_assoc before (way_path (get_or ws i d)) (route_path (drop (i + 1) ws))
    ∙ ap (λ zs. before ++ route_path zs) (sym (drop_next ws i d l))
    ∙ inv

within_more : (m n : ℕ) (ds : List Pending) → m ≤ n → AreWithin m ds → AreWithin n ds
within_more m n [] l a = tt
within_more m n (d ∷ ds) l a = (omega (arith, l, a.0), a.1)

within_all : (n : ℕ) (ss : List Step) (s t : Table) (ds : List Pending) → AreWithin n ds → AreWithin n (map (pending_at n s t) ss ++ ds)
within_all n [] s t ds a = a
within_all n (x ∷ ss) s t ds a = (omega arith, within_all n ss s t ds a)

-- pairs that begin on the route no further out than it is the same are reached on the same ways
same_pending : (n : ℕ) (r q : List Way) → take n r ≡ take n q → (ds : List Pending) → AreWithin n ds → map (pending_view r) ds ≡ map (pending_view q) ds
same_pending n r q e [] a = refl
same_pending n r q e (d ∷ ds) a =
    let first : take d.level r ≡ take d.level q = sym (take-take d.level n r a.0) ∙ ap (take d.level) e ∙ take-take d.level n q a.0 in
    let here : pending_view r d ≡ pending_view q d = ap (λ ws. record { path = route_path ws ++ way_path d.way; pair = pair_of (place_view d.old) (place_view d.new) }) first in
    λ i. here i ∷ same_pending d.level r q first ds a.1 i

-- ---- numbers

pub known_more : (hs is : List Fields) → IsMore hs is → (ds : List Pending) → AreKnown hs ds → AreKnown is ds
known_more hs is m [] a = tt
known_more hs is m (d ∷ ds) a = (at_more hs is d.old.table.number _ m a.0, at_more hs is d.new.table.number _ m a.1, known_more hs is m ds a.2)

known_all : (hs : List Fields) (n : ℕ) (s t : Table) → IsTable hs s → IsTable hs t → (ss : List Step) (ds : List Pending) → AreKnown hs ds → AreKnown hs (map (pending_at n s t) ss ++ ds)
known_all hs n s t a b [] ds k = k
known_all hs n s t a b (x ∷ ss) ds k = (a, b, known_all hs n s t a b ss ds k)

-- the last of the pairs that wait
pub pending_of_last : (ws rest : List Waiting) (w : Waiting) → ws ≡ rest ++ w ∷ [] → pending_of ws ≡ pending_of rest ++ w.pending ∷ []
pending_of_last ws rest w e = ap pending_of e ∙ map-append (λ (x : Waiting). x.pending) rest (w ∷ [])

-- what a part is seen through, where it stands
pub seen_at : (s : Part) (p : Place) → place_view s.seen ≡ peel (place_view s.place) → place_view s.place ≡ place_view p → place_view s.seen ≡ peel (place_view p)
seen_at s p seen is = seen ∙ ap peel is

popped : (pending rest : List Pending) (d : Pending) → pending ≡ rest ++ d ∷ [] → reverse pending ≡ d ∷ reverse rest
popped pending rest d e = ap reverse e ∙ reverse-append rest (d ∷ [])

pub popped_known : (hs : List Fields) (pending rest : List Pending) (d : Pending) → pending ≡ rest ++ d ∷ [] → AreKnown hs (reverse pending) → IsTable hs d.old.table × IsTable hs d.new.table × AreKnown hs (reverse rest)
popped_known hs pending rest d e k = subst (AreKnown hs) (popped pending rest d e) k

among_all : (all : List Pair) (ds es : List PendingPair) → AreAmong all ds → AreAmong all es → AreAmong all (ds ++ es)
among_all all [] es a b = b
among_all all (d ∷ ds) es a b = (a.0, among_all all ds es a.1 b)

not_is : (x y : Bool) → x ≡ not y → y ≡ not x
not_is true true e = absurd (let both : true ≡ false = e in cc)
not_is true false e = refl
not_is false true e = refl
not_is false false e = absurd (let both : false ≡ true = e in cc)

-- the search begins with the pair of the two shapes
module _ (old new : Form) (d : Pending) (level : d.level ≡ 0) (way : way_path d.way ≡ []) (p : place_view d.old ≡ placed no_fields old) (q : place_view d.new ≡ placed no_fields new) where
  first_is : start old new ≡ pending_view [] d
  first_is =
      let path : route_path (take d.level []) ++ way_path d.way ≡ [] = (λ k. route_path (take (level k) []) ++ way k) in
      λ k. record { path = sym path k; pair = pair_of (sym p k) (sym q k) }

  pub start_is : start old new ∷ [] ≡ pending_list [] (d ∷ [])
  start_is = ap (λ x. x ∷ []) first_is

  pub begins : (all : List Pair) (parts : Parts) (met : BTreeSet PairKey) → AreGood parts → Holds (parts_in parts) met [] → IsTable (tables_in parts.tables) d.old.table → IsTable (tables_in parts.tables) d.new.table → is_met all (start old new).pair ≡ true
      → GoesOn all [] parts met [] (d ∷ [])
  begins all parts met a h i j among = record {
    good = a;
    holds = h;
    within = (omega (arith, level), tt);
    known = (i, j, tt);
    among = (subst (λ (x : PendingPair). is_met all x.pair ≡ true) first_is among, tt);
  }

module _ (all pairs : List Pair) where
  -- no pair is left to be entered
  pub ends : (route : List Way) (pending : List Pending) → pending ≡ [] → unmet pairs (pending_list route pending) ≡ []
  ends route pending e = ap (λ ds. unmet pairs (pending_list route ds)) e

  -- ---- the pair that is popped

  module _ (parts : Parts) (met : BTreeSet PairKey) (route : List Way) (pending rest : List Pending) (d : Pending) (pop : pending ≡ rest ++ d ∷ []) (g : GoesOn all pairs parts met route pending) where
    abbrev view : PendingPair
    view = pending_view route d

    all_pending : pending_list route pending ≡ view ∷ pending_list route rest
    all_pending = ap (map (pending_view route)) (popped pending rest d pop)

    within : AreWithin (length route) (d ∷ reverse rest)
    within = subst (AreWithin (length route)) (popped pending rest d pop) g.within

    known : AreKnown (tables_in parts.tables) (d ∷ reverse rest)
    known = subst (AreKnown (tables_in parts.tables)) (popped pending rest d pop) g.known

    among : AreAmong all (view ∷ pending_list route rest)
    among = subst (AreAmong all) all_pending g.among

    module _ (more : Parts) (now : BTreeSet PairKey) (m : AreMore parts more) (a b : Place) (i : IsTable (tables_in more.tables) a.table) (j : IsTable (tables_in more.tables) b.table)
        (seen_old : place_view a ≡ peel (place_view d.old)) (seen_new : place_view b ≡ peel (place_view d.new)) (k l : ℕ) (old_at : IsAt (parts_in more) k (place_view a)) (new_at : IsAt (parts_in more) l (place_view b)) (added : Bool)
        (meets : (all_parts : List Placed) (ps : List Pair) (p : Pair) → AreDifferent all_parts → Holds all_parts met ps → IsAt all_parts k p.old → IsAt all_parts l p.new → IsMeeting all_parts now ps p added) where
      meeting : IsMeeting (parts_in more) now pairs (pair_at a b) added
      meeting = meets (parts_in more) pairs (pair_at a b) (parts_apart more m.good) (holds_more (parts_in parts) (parts_in more) (more_numbers parts more m) met pairs g.holds) old_at new_at

      pair_is : view.pair ≡ pair_at a b
      pair_is = λ k. record { old = sym seen_old k; new = sym seen_new k }

      was_met : is_met pairs (pair_at a b) ≡ not added
      was_met = not_is added (is_met pairs (pair_at a b)) meeting.test

      -- a pair that was met already is passed over
      pub skips : added ≡ false → GoesOn all pairs more now route rest
      skips e = record {
        good = m.good;
        holds = subst (λ t. Holds (parts_in more) now (cond t (pair_at a b ∷ pairs) pairs)) e meeting.holds;
        within = within_more d.level (length route) (reverse rest) within.0 within.1;
        known = known_more (tables_in parts.tables) (tables_in more.tables) m.tables (reverse rest) known.2;
        among = among.1;
      }

      pub skipped : added ≡ false → unmet pairs (pending_list route pending) ≡ unmet pairs (pending_list route rest)
      skipped e = ap (unmet pairs) all_pending ∙ skips_met pairs view (pending_list route rest) (ap (is_met pairs) pair_is ∙ was_met ∙ ap not e)

      -- one that was not comes next
      pub comes : added ≡ true → (next : Pending) → next.level ≡ d.level → next.way ≡ d.way → next.old ≡ a → next.new ≡ b → (before : List PendingPair) → unmet pairs before ≡ unmet pairs (pending_list route pending) → IsNext all pairs before more now route next rest
      comes e next level way first second before left =
          let here : pair_at next.old next.new ≡ pair_at a b = (λ k. pair_at (first k) (second k)) in
          let same : view ≡ next_view route next = λ k. record { path = route_path (take (sym level k) route) ++ way_path (sym way k); pair = (pair_is ∙ sym here) k } in
          record {
            good = m.good;
            holds = subst (λ p. Holds (parts_in more) now (p ∷ pairs)) (sym here) (subst (λ t. Holds (parts_in more) now (cond t (pair_at a b ∷ pairs) pairs)) e meeting.holds);
            fresh = ap (is_met pairs) here ∙ was_met ∙ ap not e;
            within = (subst (λ n. n ≤ length route) (sym level) within.0, subst (λ n. AreWithin n (reverse rest)) (sym level) within.1);
            known =
                (subst (λ (p : Place). IsTable (tables_in more.tables) p.table) (sym first) i, subst (λ (p : Place). IsTable (tables_in more.tables) p.table) (sym second) j, known_more (tables_in parts.tables) (tables_in more.tables) m.tables (reverse rest) known.2);
            here = subst (λ p. is_met all p ≡ true) (pair_is ∙ sym here) among.0;
            among = among.1;
            first = left ∙ ap (unmet pairs) all_pending ∙ stops_at pairs view (pending_list route rest) (ap (is_met pairs) pair_is ∙ was_met ∙ ap not e) ∙ (λ k. same k ∷ pending_list route rest);
          }

  -- ---- the pair that comes next

  module _ (before : List PendingPair) (parts : Parts) (met : BTreeSet PairKey) (route : List Way) (rest : List Pending) (d : Pending) (g : IsNext all pairs before parts met route d rest) (after : List Way) (longer : after ≡ take d.level route ++ d.way ∷ []) where
    abbrev next : PendingPair
    next = next_view route d

    pub path_is : route_path after ≡ next.path
    path_is = ap route_path longer ∙ path_one (take d.level route) d.way

    level_is : length after ≡ suc d.level
    level_is =
        let n : length after ≡ length (take d.level route) + 1 = ap length longer ∙ length-append (take d.level route) (d.way ∷ []) in
        let m : length (take d.level route) ≡ d.level = length-take-le d.level route g.within.0 in
        omega (arith, n, m)

    step_is : (s : Step) → pending_view after (pending_at (length after) d.old.table d.new.table s) ≡ pending_step next (step_view s)
    step_is s =
        let path : route_path (take (length after) after) ≡ next.path = ap route_path (take_all (length after) after (omega arith)) ∙ path_is in
        λ k. record { path = path k ++ way_path s.way; pair = pair_of (placed next.pair.old.around s.old.now) (placed next.pair.new.around s.new.now) }

    steps_are : (ss : List Step) → map (pending_view after) (map (pending_at (length after) d.old.table d.new.table) ss) ≡ map (pending_step next) (steps_view ss)
    steps_are [] = refl
    steps_are (s ∷ ss) = λ k. step_is s k ∷ steps_are ss k

    others_are : pending_list after rest ≡ pending_list route rest
    others_are =
        let first : take d.level after ≡ take d.level route = ap (take d.level) longer ∙ take_at (take d.level route) (d.way ∷ []) d.level (length-take-le d.level route g.within.0) in
        same_pending d.level after route first (reverse rest) g.within.1

    -- the pairs of these steps are to be entered next
    module _ (ss : List Step) (pending : List Pending) (f : pending ≡ rest ++ reverse (map (pending_at (length after) d.old.table d.new.table) ss)) where
      order : reverse pending ≡ map (pending_at (length after) d.old.table d.new.table) ss ++ reverse rest
      order =
          let steps = map (pending_at (length after) d.old.table d.new.table) ss in
          ap reverse f ∙ reverse-append rest (reverse steps) ∙ ap (λ xs. xs ++ reverse rest) (reverse-reverse steps)

      pub pending_is : pending_list after pending ≡ map (pending_step next) (steps_view ss) ++ pending_list route rest
      pending_is =
          let steps = map (pending_at (length after) d.old.table d.new.table) ss in
          ap (map (pending_view after)) order ∙ map-append (pending_view after) steps (reverse rest) ∙ (λ k. steps_are ss k ++ others_are k)

      pub enters : AreAmong all (map (pending_step next) (steps_view ss)) → GoesOn all (pair_at d.old d.new ∷ pairs) parts met after pending
      enters closed = record {
        good = g.good;
        holds = g.holds;
        within = subst (AreWithin (length after)) (sym order) (within_all (length after) ss d.old.table d.new.table (reverse rest) (within_more d.level (length after) (reverse rest) (omega (arith, level_is)) g.within.1));
        known = subst (AreKnown (tables_in parts.tables)) (sym order) (known_all (tables_in parts.tables) (length after) d.old.table d.new.table g.known.0 g.known.1 ss (reverse rest) g.known.2);
        among = subst (AreAmong all) (sym pending_is) (among_all all (map (pending_step next) (steps_view ss)) (pending_list route rest) closed g.among);
      }
