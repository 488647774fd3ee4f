-- The definitions in which no name leads back to itself. Source: the usual condition on recursive types.
use Rattle.std.specs.Prelude.{◌≡◌, ℕ, zero, suc, Bool, true, false, ◌&&◌, ◌⊎◌, if◌then◌else◌, Option, Some, None}
use Rattle.std.specs.Str.{bytes_eq}
use Rattle.bson_kinds.specs.Text.{Utf8}
use Rattle.bson_shape.specs.Form.{Form, optional, lossy, human_readable, by_mode, newtype, reference, Fields, no_fields, field}

-- how many names there are
abbrev pub count : Fields → ℕ
count no_fields = 0
count (field name f h) = suc (count h)

-- the first form of this name
abbrev pub definition : Fields → Utf8 → Option Form
definition no_fields key = None
definition (field name f h) key = if bytes_eq name key then Some f else definition h key

-- ---- names that lead back

-- The form leads to the name without a step into a value: through options, marks, both of two forms and newtypes, but not into other definitions.
abbrev pub LeadsTo : Form → Utf8 → Type 0
LeadsTo (reference name) key = name ≡ key
LeadsTo (optional f) key = LeadsTo f key
LeadsTo (lossy f) key = LeadsTo f key
LeadsTo (human_readable f) key = LeadsTo f key
LeadsTo (by_mode r c) key = LeadsTo r key ⊎ LeadsTo c key
LeadsTo (newtype name f) key = LeadsTo f key
LeadsTo f key = ⊥

-- the same of a form that there may be
abbrev pub FoundLeadsTo : Option Form → Utf8 → Type 0
FoundLeadsTo None key = ⊥
FoundLeadsTo (Some f) key = LeadsTo f key

-- the definition of a name leads to another one
abbrev pub NameLeadsTo : Fields → Utf8 → Utf8 → Type 0
NameLeadsTo h from to = FoundLeadsTo (definition h from) to

-- a name leads to another, by this many names between them
abbrev pub LeadsIn : Fields → ℕ → Utf8 → Utf8 → Type 0
LeadsIn h zero from to = NameLeadsTo h from to
LeadsIn h (suc n) from to = (by : Utf8) × NameLeadsTo h from by × LeadsIn h n by to

-- a name leads back to itself
abbrev pub LeadsBack : Fields → Utf8 → Type 0
LeadsBack h name = (n : ℕ) × LeadsIn h n name name

-- ---- chains that end

-- it holds of each name that the form leads to
abbrev pub Leads : (Utf8 → Type 0) → Form → Type 0
Leads P (reference name) = P name
Leads P (optional f) = Leads P f
Leads P (lossy f) = Leads P f
Leads P (human_readable f) = Leads P f
Leads P (by_mode r c) = Leads P r × Leads P c
Leads P (newtype name f) = Leads P f
Leads P f = Unit {0}

abbrev pub FoundLeads : (Utf8 → Type 0) → Option Form → Type 0
FoundLeads P None = Unit {0}
FoundLeads P (Some f) = Leads P f

-- a chain of references from this name ends before it has more names than so many
abbrev pub Ends : Fields → ℕ → Utf8 → Type 0
Ends h zero name = ⊥
Ends h (suc n) name = FoundLeads (Ends h n) (definition h name)

-- No name leads back to itself: a chain of references has at most one name more than there are definitions: the last may have none.
abbrev pub IsGuarded : Fields → Type 0
IsGuarded h = (name : Utf8) → Ends h (suc (count h)) name

-- ---- a test

-- the test holds of each name that the form leads to
abbrev pub leading : (Utf8 → Bool) → Form → Bool
leading p (reference name) = p name
leading p (optional f) = leading p f
leading p (lossy f) = leading p f
leading p (human_readable f) = leading p f
leading p (by_mode r c) = leading p r && leading p c
leading p (newtype name f) = leading p f
leading p f = true

abbrev pub found_leading : (Utf8 → Bool) → Option Form → Bool
found_leading p None = true
found_leading p (Some f) = leading p f

-- a chain of references from this name ends
abbrev pub ends : Fields → ℕ → Utf8 → Bool
ends h zero name = false
ends h (suc n) name = found_leading (ends h n) (definition h name)

-- so it does from each of these names
abbrev pub all_end : Fields → ℕ → Fields → Bool
all_end h n no_fields = true
all_end h n (field name f t) = ends h n name && all_end h n t

-- no name leads back to itself
abbrev pub is_guarded : Fields → Bool
is_guarded h = all_end h (suc (count h)) h
