-- The search for a name that leads back to itself, and what is known at each moment of it. Nothing here says what anything means.
use Rattle.std.specs.Prelude.{◌≡◌, ◌<◌, ◌≤◌, ℕ, ◌+◌, ◌*◌, Bool, true, false, ◌||◌, ◌⊎◌, if◌then◌else◌, List, [], ◌∷◌, map, reverse, Option, Some, None, option_map}
use Rattle.std.specs.Borrow.{Bor}
use Rattle.std.specs.BTreeMap.{BTreeMap, get_by, btree_map_len}
use Rattle.std.specs.BTreeSet.{BTreeSet, contains_by}
use Rattle.std.specs.Cmp.Lexicographic.{slice_cmp}
use Rattle.std.specs.Ordering.{nat_cmp}
use Rattle.std.specs.Str.{bytes_eq}
use Rattle.bson_kinds.specs.Text.{Utf8}
use Rattle.bson_shape.specs.Form.{Form, optional, lossy, human_readable, by_mode, newtype, reference, Fields}
use Rattle.bson_shape.specs.Guarded.{definition, LeadsTo, NameLeadsTo, LeadsIn, LeadsBack, Ends}
use Rattle.bson_shape.specs.ShapeView.{nodes, fields_nodes}
use Rattle.bson_shape.specs.declared.search.Task.{Task as RustTask}
use Rattle.bson_shape.specs.declared.search.Task.TheVariants as tasks
use Rattle.bson_shape.specs.declared.search.Lead.{Lead as RustLead}
use Rattle.bson_shape.specs.declared.search.Lead.TheVariants as leads
use Rattle.bson_shape.specs.declared.search.Search.{Search as RustSearch}

-- What is to be done.
pub data Task : Type 0 where
  -- to follow what this form leads to
  follow : Form → Task
  -- all that the definition of this name leads to has been followed
  leave : Utf8 → Task

-- What a form leads to without a step into a value.
pub data Lead : Type 0 where
  -- to no name
  nowhere : Lead
  -- to this name
  to_name : Utf8 → Lead
  -- where this form leads to
  to_inner : Form → Lead
  -- where both of these lead to
  to_both : Form → Form → Lead

abbrev pub lead_of : Form → Lead
lead_of (reference name) = to_name name
lead_of (optional f) = to_inner f
lead_of (lossy f) = to_inner f
lead_of (human_readable f) = to_inner f
lead_of (by_mode r c) = to_both r c
lead_of (newtype name f) = to_inner f
lead_of f = nowhere

abbrev pub lead_view : RustLead → Lead
lead_view leads.Nowhere = nowhere
lead_view (leads.Name name) = to_name name.now
lead_view (leads.Inner shape) = to_inner shape.now
lead_view (leads.Both readable compact) = to_both readable.now compact.now

-- The search at a moment: the definitions that are not entered, and how many these are, the names that are entered, and what is to be done, the next first.
pub record Search : Type 0 where
  pub unseen : Utf8 → Option Form
  pub count : ℕ
  pub entered : Utf8 → Bool
  pub tasks : List Task

abbrev pub task_view : RustTask → Task
task_view (tasks.Follow shape) = follow shape.now
task_view (tasks.Leave name) = leave name.now

abbrev pub unseen_in : BTreeMap (Bor Utf8) (Bor Form) → Utf8 → Option Form
unseen_in m key = option_map (λ s. s.now) (get_by (λ k. slice_cmp nat_cmp key k.now) m)

abbrev pub entered_in : BTreeSet (Bor Utf8) → Utf8 → Bool
entered_in s key = contains_by (λ k. slice_cmp nat_cmp key k.now) s

-- the last of the stack is the next
abbrev pub search_view : RustSearch → Search
search_view s = record { unseen = unseen_in s.unseen; count = btree_map_len s.unseen; entered = entered_in s.entered; tasks = reverse (map task_view s.tasks.items) }

-- with this to be done first
abbrev pub with_task : Task → Search → Search
with_task t s = record { unseen = s.unseen; count = s.count; entered = s.entered; tasks = t ∷ s.tasks }

-- the definition of this name, which is this form, is entered
abbrev pub entering : Utf8 → Form → Search → Search
entering name f s = record { unseen = s.unseen; count = s.count; entered = λ key. if bytes_eq name key then true else s.entered key; tasks = follow f ∷ leave name ∷ s.tasks }

-- the definition of this name is not unseen any more
abbrev pub without_unseen : Utf8 → ℕ → Search → Search
without_unseen name count s = record { unseen = λ key. if bytes_eq name key then None else s.unseen key; count = count; entered = s.entered; tasks = s.tasks }

-- it is left
abbrev pub leaving : Utf8 → Search → Search
leaving name s = record { unseen = s.unseen; count = s.count; entered = λ key. if bytes_eq name key then false else s.entered key; tasks = s.tasks }

module _ (h : Fields) where
  -- a chain of references from this name ends
  abbrev pub Settled : Utf8 → Type 0
  Settled name = (n : ℕ) × Ends h n name

  -- Each name that an entered definition leads to is settled, or taken care of by what is to be done before that definition is left; of the innermost one,
  -- such names besides as P tells.
  abbrev pub Covered : (P : Utf8 → Type 0) → List Task → Type 0
  Covered P [] = Unit {0}
  Covered P (follow f ∷ ts) = Covered (λ key. P key ⊎ LeadsTo f key) ts
  Covered P (leave name ∷ ts) = ((key : Utf8) → NameLeadsTo h name key → Settled key ⊎ P key) × Covered (λ key. name ≡ key) ts

  -- each entered definition leads to this name
  abbrev pub AllLead : List Task → Utf8 → Type 0
  AllLead [] key = Unit {0}
  AllLead (follow f ∷ ts) key = AllLead ts key
  AllLead (leave name ∷ ts) key = ((n : ℕ) × LeadsIn h n name key) × AllLead ts key

  -- so it does to each name that something to be done leads to
  abbrev pub Follows : List Task → Type 0
  Follows [] = Unit {0}
  Follows (follow f ∷ ts) = ((key : Utf8) → LeadsTo f key → AllLead ts key) × Follows ts
  Follows (leave name ∷ ts) = AllLead ts name × Follows ts

  -- Some name leads back to itself.
  abbrev pub IsUnguarded : Type 0
  IsUnguarded = (name : Utf8) × LeadsBack h name

-- the definition of this name is still to be left
abbrev pub is_entered : List Task → Utf8 → Bool
is_entered [] key = false
is_entered (follow f ∷ ts) key = is_entered ts key
is_entered (leave name ∷ ts) key = bytes_eq name key || is_entered ts key

-- What is known: only definitions are unseen, an entered one is still to be left, and every other name is settled.
pub record Searches (h : Fields) (s : Search) : Type 0 where
  pub known : (key : Utf8) (f : Form) → s.unseen key ≡ Some f → definition h key ≡ Some f
  pub inside : (key : Utf8) → s.entered key ≡ true → is_entered s.tasks key ≡ true
  pub settled : (key : Utf8) → s.unseen key ≡ None → s.entered key ≡ false → Settled h key
  pub covered : Covered h (λ _. ⊥) s.tasks
  pub follows : Follows h s.tasks

-- how much is to be done, without what is unseen
abbrev pub work : List Task → ℕ
work [] = 0
work (follow f ∷ ts) = nodes f + work ts
work (leave name ∷ ts) = 1 + work ts

-- and with it
abbrev pub left : Fields → Search → ℕ
left h s = s.count * (fields_nodes h + 2) + work s.tasks

-- A step: the search goes on, with less to be done, or some name leads back to itself.
abbrev pub Goes : Fields → Search → Bool → Search → Type 0
Goes h s true t = Searches h t × (left h t < left h s) × (t.count ≤ s.count)
Goes h s false t = IsUnguarded h

-- All that was to be done is done, or some name leads back to itself.
abbrev pub Ran : Fields → Search → Bool → Search → Type 0
Ran h s true t = Searches h t × (t.tasks ≡ []) × (t.count ≤ s.count)
Ran h s false t = IsUnguarded h
