-- The edit of a document: each element in its place, as it is or as a step changes it, and those that were missing behind them. Source: this library's own programs, over
-- bsonspec.org, version 1.1, `document`.
use Rattle.std.specs.Prelude.{ℕ, ◌+◌, ◌-◌, Bool, true, false, ◌||◌, [], ◌++◌, length, nat_lt, if◌then◌else◌, Option, Some, None, Result, Ok, Err}
use Rattle.std.specs.Str.{bytes_eq}
use Rattle.bson_kinds.specs.Text.{Bytes, Utf8}
use Rattle.bson_kinds.specs.Outcome.{◌>>=◌, result_map}
use Rattle.bson_kinds.specs.declared.element_type.ElementType.{ElementType}
use Rattle.bson_kinds.specs.declared.element_type.ElementType.TheVariants as kinds
use Rattle.bson_base.specs.Sound.{max_bytes, max_levels}
use Rattle.bson_base.specs.Tree.{Tree, kind, enc, depth, element, enclosed}
use Rattle.bson_faults.specs.declared.raw.Error.{Error}
use Rattle.bson_rawdoc.specs.Envelope.{envelope}
use Rattle.bson_rawdoc.specs.Walk.{Element, Walk, ended, faulty, then_walk, walk}
use Rattle.bson_values.specs.Refusal.{Segment, at_key, at_index, Refusal, here, inside}
use Rattle.bson_editing.specs.Plan.{Edit, keep, drop_it, change, inside_it, Steps, no_steps, step, is_for}

-- a value: its kind and its bytes
pub record Value : Type 0 where
  pub kind : ElementType
  pub bytes : Bytes

abbrev pub value_of : Element → Value
value_of e = record { kind = e.kind; bytes = e.value }

abbrev pub with_key : Utf8 → Value → Element
with_key key v = record { kind = v.kind; key = key; value = v.bytes }

-- What the changes of these numbers make of a value, where there may be so many levels of documents and arrays in it, or why they refuse it.
abbrev pub Changing : Type 0 → Type 0
Changing X = (number : ℕ) → (levels : ℕ) → Value → Result Value X

-- why a document is not edited
pub data Fault (X : Type 0) : Type 0 where
  -- the bytes of a document, or one of its elements, have this fault
  faulty_bytes : Error → Fault X
  -- the document has an element of the new name
  taken : (name : Utf8) → Fault X
  -- a document or an array would have more bytes than one may have
  too_long : Fault X
  -- a value that was missing would have more levels than it may have
  too_deep : Fault X
  -- a change refuses a value
  unchanged : X → Fault X

-- what an edit gives, or its first refusal in the order of the document
abbrev pub Editing : (X A : Type 0) → Type 0
Editing X A = Result A (Refusal (Fault X))

abbrev pub refused : {X A : Type 0} → Fault X → Editing X A
refused fault = Err (here fault)

-- what becomes of an element: an element, or none
abbrev pub Outcome : Type 0 → Type 0
Outcome X = Editing X (Option Element)

-- ---- where an element is

-- a document or an array whose elements are edited
pub record Around : Type 0 where
  -- it is an array
  pub array : Bool
  -- how many levels of documents and arrays may be in a value of it
  pub levels : ℕ
  -- its elements
  pub elements : Walk

abbrev pub segment : Around → (index : ℕ) → Utf8 → Segment
segment a index key = if a.array then at_index index else at_key key

-- an element has the key
abbrev pub has_key : Utf8 → Walk → Bool
has_key key ended = false
has_key key (faulty e) = false
has_key key (then_walk e w) = bytes_eq key e.key || has_key key w

-- the key that an element gets: a new one is one that no element has
abbrev pub new_key : {X : Type 0} → (to : Option Utf8) → (key : Utf8) → Walk → Editing X Utf8
new_key None key w = Ok key
new_key (Some to) key w = if has_key to w then refused (taken to) else Ok to

-- what becomes of an element that gets such a key
abbrev pub renamed : {X : Type 0} → (Utf8 → Outcome X) → (to : Option Utf8) → (key : Utf8) → Walk → Outcome X
renamed f to key w = new_key to key w >>= f

-- ---- the elements of a document

-- the walk with what becomes of an element in its place
abbrev pub in_place : Option Element → Walk → Walk
in_place None w = w
in_place (Some e) w = then_walk e w

-- the walk with what becomes of each element, from this index on, in its place
abbrev pub each_edited : {X : Type 0} → (ℕ → Element → Outcome X) → (index : ℕ) → Walk → Editing X Walk
each_edited f i ended = Ok ended
each_edited f i (faulty e) = refused (faulty_bytes e)
each_edited f i (then_walk x w) = f i x >>= λ o. result_map (in_place o) (each_edited f (i + 1) w)

-- one walk behind another
abbrev pub behind : Walk → Walk → Walk
behind ended v = v
behind (faulty e) v = faulty e
behind (then_walk x w) v = then_walk x (behind w v)

-- the bytes of the elements
abbrev pub joined : Walk → Bytes
joined ended = []
joined (faulty e) = []
joined (then_walk x w) = element x.kind x.key x.value ++ joined w

abbrev pub enclosed_within : {X : Type 0} → Bytes → Editing X Bytes
enclosed_within body = if nat_lt max_bytes (length body + 5) then refused too_long else Ok (enclosed body)

-- the elements, and behind them those that were missing
abbrev pub all_edited : {X : Type 0} → (ℕ → Element → Outcome X) → (missing : Editing X Walk) → Walk → Editing X Walk
all_edited f missing w = each_edited f 0 w >>= λ done. result_map (behind done) missing

-- a document or an array in these bytes whose elements become this
abbrev pub made_of : {X : Type 0} → (Around → ℕ → Element → Outcome X) → (missing : Around → Editing X Walk) → (array : Bool) → (levels : ℕ) → Bytes → Editing X Bytes
made_of f missing array levels bytes =
    let a : Around = record { array = array; levels = levels; elements = walk bytes } in
    all_edited (f a) (missing a) (walk bytes) >>= λ w. enclosed_within (joined w)

abbrev pub of_envelope : {X : Type 0} → (Bytes → Editing X Bytes) → Result Bytes Error → Editing X Bytes
of_envelope f (Ok bytes) = f bytes
of_envelope f (Err e) = refused (faulty_bytes e)

-- ---- one element

-- whether a value has elements, and is an array
abbrev pub nested : ElementType → Option Bool
nested kinds.EmbeddedDocument = Some false
nested kinds.Array = Some true
nested k = None

-- an element whose value is changed
abbrev pub changed : {X : Type 0} → (key : Utf8) → Result Value X → Outcome X
changed key (Ok v) = Ok (Some (with_key key v))
changed key (Err x) = refused (unchanged x)

-- An element whose elements become this, if it has any. They may have a level less.
abbrev pub with_nested : {X : Type 0} → ((array : Bool) → (levels : ℕ) → Bytes → Editing X Bytes) → (levels : ℕ) → (key : Utf8) → Value → Option Bool → Outcome X
with_nested f levels key v None = Ok (Some (with_key key v))
with_nested f levels key v (Some array) = result_map (λ b. Some (record { kind = v.kind; key = key; value = b })) (of_envelope (f array (levels - 1)) (envelope v.bytes))

-- the name and the value of an element that a step puts where it is missing: in a document that has no element of the name
abbrev pub absent : Around → (name : Option Utf8) → (missing : Option Tree) → Option (Utf8 × Tree)
absent a (Some name) (Some t) = if a.array || has_key name a.elements then None else Some (name, t)
absent a name missing = None

-- a value that was missing, where there may be so many levels in it
abbrev pub new_value : {X : Type 0} → (levels : ℕ) → Tree → Editing X Value
new_value levels t =
    if nat_lt levels (depth t) then refused too_deep
    else if nat_lt max_bytes (length (enc t)) then refused too_long
    else Ok (record { kind = kind t; bytes = enc t })

-- what becomes of an element that was missing
abbrev pub put_value : {X : Type 0} → (Utf8 → Value → Outcome X) → (levels : ℕ) → (name : Utf8) → Tree → Outcome X
put_value f levels name t = new_value levels t >>= f name

abbrev pub put_absent : {X : Type 0} → (Utf8 → Value → Outcome X) → (levels : ℕ) → Option (Utf8 × Tree) → Outcome X
put_absent f levels None = Ok None
put_absent f levels (Some p) = inside (at_key p.0) (put_value f levels p.0 p.1)

abbrev pub chosen : {X : Type 0} → Bool → Outcome X → Outcome X → Outcome X
chosen b x y = if b then x else y

abbrev mutual
  -- what becomes of an element that gets this key, where there may be so many levels in its value
  pub edited_as : {X : Type 0} → Changing X → Edit → (levels : ℕ) → (key : Utf8) → Value → Outcome X
  edited_as r keep levels key v = Ok (Some (with_key key v))
  edited_as r drop_it levels key v = Ok None
  edited_as r (change n) levels key v = changed key (r n levels v)
  edited_as r (inside_it steps) levels key v = with_nested (λ array inner bytes. made_of (λ a i e. edited_by r steps a i e) (λ a. missing_by r steps a) array inner bytes) levels key v (nested v.kind)

  -- what becomes of an element: the first step that is for it edits it; where none is, it is as it was
  pub edited_by : {X : Type 0} → Changing X → Steps → Around → (index : ℕ) → Element → Outcome X
  edited_by r no_steps a i e = Ok (Some e)
  edited_by r (step name to missing edit rest) a i e =
      chosen (is_for a.array name e.key) (inside (segment a i e.key) (renamed (λ key. edited_as r edit a.levels key (value_of e)) to e.key a.elements)) (edited_by r rest a i e)

  -- the elements that steps put where they are missing, each edited by its step
  pub missing_by : {X : Type 0} → Changing X → Steps → Around → Editing X Walk
  missing_by r no_steps a = Ok ended
  missing_by r (step name to missing edit rest) a =
      put_absent (λ key v. edited_as r edit a.levels key v) a.levels (absent a name missing) >>= λ o. result_map (in_place o) (missing_by r rest a)

-- the elements of an edited document or array, where it has these
abbrev pub edited_walk : {X : Type 0} → Changing X → Steps → (array : Bool) → (levels : ℕ) → Walk → Editing X Walk
edited_walk r steps array levels w =
    let a : Around = record { array = array; levels = levels; elements = w } in
    all_edited (edited_by r steps a) (missing_by r steps a) w

-- the edit of the elements of a document or an array
abbrev pub edited_in : {X : Type 0} → Changing X → Steps → (array : Bool) → (levels : ℕ) → Bytes → Editing X Bytes
edited_in r steps array levels bytes = made_of (edited_by r steps) (missing_by r steps) array levels bytes

-- The edit of a document: a value of it may have a level less than a document may have.
abbrev pub edited : {X : Type 0} → Changing X → Steps → Bytes → Editing X Bytes
edited r steps bytes = of_envelope (edited_in r steps false (max_levels - 1)) (envelope bytes)
