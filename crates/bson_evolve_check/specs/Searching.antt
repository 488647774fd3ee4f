-- What the search has and what it finds. Source: this library's own comparison of shapes, by depth-first search.
use Rattle.std.specs.Prelude.{◌≡◌, ◌≤◌, ◌+◌, ℕ, Bool, true, false, List, [], ◌∷◌, ◌++◌, length, map, reverse, take, Option, Some, None}
use Rattle.std.specs.BTreeSet.{btree_set_len, BTreeSet}
use Rattle.bson_shape.specs.Form.{Form, Fields}
use Rattle.bson_values.specs.PathView.{path_view}
use Rattle.bson_values.specs.Refusal as refusal
use Rattle.bson_values.specs.declared.path.Path.{Path}
use Rattle.bson_evolve_laws.specs.Compatible.{IsCompatible}
use Rattle.bson_evolve_laws.specs.First.{is_met, pair_of, search, start, unmet, PendingPair, IsFirstFault, Pair}
use Rattle.bson_evolve_laws.specs.Rows.{row}
use Rattle.bson_evolve_check.specs.Meeting.{pair_at, Holds, PairKey}
use Rattle.bson_evolve_check.specs.Numbering.{parts_in, AreGood}
use Rattle.bson_evolve_check.specs.Placing.{place_view, tables_in, IsTable}
use Rattle.bson_evolve_check.specs.Steps.{steps_view, way_path}
use Rattle.bson_evolve_check.specs.declared.place.Table.{Table}
use Rattle.bson_evolve_check.specs.declared.parts.Parts.{Parts}
use Rattle.bson_evolve_check.specs.declared.search.Pending.{Pending}
use Rattle.bson_evolve_check.specs.declared.search.Entry.{Entry}
use Rattle.bson_evolve_check.specs.declared.search.Waiting.{Waiting}
use Rattle.bson_evolve_check.specs.declared.step.Step.{Step}
use Rattle.bson_evolve_check.specs.declared.step.Way.{Way}

-- the path of ways, one behind the other
abbrev pub route_path : List Way → refusal.Path
route_path [] = []
route_path (w ∷ ws) = way_path w ++ route_path ws

-- a pair that is still to be entered, as the route leads to it
abbrev pub pending_view : List Way → Pending → PendingPair
pending_view route d = record { path = route_path (take d.level route) ++ way_path d.way; pair = pair_of (place_view d.old) (place_view d.new) }

-- a pair of a row that is still to be entered: the level is that of the route behind the pair that the row is of
abbrev pub pending_at : ℕ → (old new : Table) → Step → Pending
pending_at level old new s = record { level = level; way = s.way; old = record { table = old; shape = s.old }; new = record { table = new; shape = s.new } }

-- the pairs that wait
abbrev pub pending_of : List Waiting → List Pending
pending_of ws = map (λ (w : Waiting). w.pending) ws

-- The pairs that are still to be entered, the first one first: it begins at most so many ways along the route, and each other one no farther along it than the one before.
abbrev pub AreWithin : ℕ → List Pending → Type 0
AreWithin n [] = Unit {0}
AreWithin n (d ∷ ds) = (d.level ≤ n) × AreWithin d.level ds

-- the definitions around the parts of each pair have their numbers
abbrev pub AreKnown : List Fields → List Pending → Type 0
AreKnown tables [] = Unit {0}
AreKnown tables (d ∷ ds) = IsTable tables d.old.table × IsTable tables d.new.table × AreKnown tables ds

-- each of these pairs is among the others
abbrev pub AreAmong : (all : List Pair) → List PendingPair → Type 0
AreAmong all [] = Unit {0}
AreAmong all (d ∷ ds) = (is_met all d.pair ≡ true) × AreAmong all ds

-- the pairs that are still to be entered, the first one first
abbrev pub pending_list : List Way → List Pending → List PendingPair
pending_list route pending = map (pending_view route) (reverse pending)

-- What is still to be entered, where these pairs were met: all of it is numbered, and among these pairs.
pub record GoesOn (all pairs : List Pair) (parts : Parts) (met : BTreeSet PairKey) (route : List Way) (pending : List Pending) : Type 0 where
  pub good : AreGood parts
  pub holds : Holds (parts_in parts) met pairs
  pub within : AreWithin (length route) (reverse pending)
  pub known : AreKnown (tables_in parts.tables) (reverse pending)
  pub among : AreAmong all (pending_list route pending)

-- a pair that was met just now, each part of it seen through, and the path to it
abbrev pub next_view : List Way → Pending → PendingPair
next_view route d = record { path = route_path (take d.level route) ++ way_path d.way; pair = pair_at d.old d.new }

-- The first of the pairs before that was not met yet is this one, behind which these are still to be entered.
pub record IsNext (all pairs : List Pair) (before : List PendingPair) (parts : Parts) (met : BTreeSet PairKey) (route : List Way) (d : Pending) (pending : List Pending) : Type 0 where
  pub good : AreGood parts
  pub holds : Holds (parts_in parts) met (pair_at d.old d.new ∷ pairs)
  pub fresh : is_met pairs (pair_at d.old d.new) ≡ false
  pub within : AreWithin (length route) (d ∷ reverse pending)
  pub known : AreKnown (tables_in parts.tables) (d ∷ reverse pending)
  pub here : is_met all (pair_at d.old d.new) ≡ true
  pub among : AreAmong all (pending_list route pending)
  pub first : unmet pairs before ≡ next_view route d ∷ pending_list route pending

-- what comes next of the pairs before: nothing, where every pair was met, or the first that was not, so that the set has one more
abbrev pub ComesNext : (all pairs : List Pair) (before : List PendingPair) (parts : Parts) (many : ℕ) (met : BTreeSet PairKey) (route : List Way) (pending : List Pending) → Option Entry → Type 0
ComesNext all pairs before parts many met route pending None = unmet pairs before ≡ []
ComesNext all pairs before parts many met route pending (Some e) = IsNext all pairs before parts met route e.pending pending × (btree_set_len met ≡ many + 1)

-- A search of these pairs, where those were met, gives what the whole search gives.
abbrev pub Searches : (old new : Form) (pairs : List Pair) → List PendingPair → Type 0
Searches old new pairs ds = (n : ℕ) → (m : ℕ) × (search m [] (start old new ∷ []) ≡ search n pairs ds)

-- The pairs that the row of a pair names come first of what is still to be entered; or no row names it.
abbrev pub Enters : (passes : Bool) → (level : ℕ) → Pending → (old new : List Pending) → Type 0
Enters true level d old new = (ss : List Step) × (row d.old.shape.now d.new.shape.now ≡ Some (steps_view ss)) × (new ≡ old ++ reverse (map (pending_at level d.old.table d.new.table) ss))
Enters false level d old new = row d.old.shape.now d.new.shape.now ≡ None

-- what is found: nothing where the shapes are compatible, and else the path to the first pair of parts that does not pass
abbrev pub Finds : Option Path → (old new : Form) → Type 0
Finds None old new = IsCompatible old new
Finds (Some path) old new = IsFirstFault old new (path_view path)
