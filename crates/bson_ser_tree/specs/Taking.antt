-- What the calls of a writer that takes a value part by part answer, by what the whole value is made into. Source: this library's own readers and writers.
use Rattle.std.specs.Prelude.{◌≡◌, ℕ, Bool, false, [], Option, Some, None, Result, Ok, Err, IsErrAnd}
use Rattle.bson_base.specs.BsonView.{tree_of}
use Rattle.bson_kinds.specs.Text.{Utf8}
use Rattle.bson_base.specs.Tree.{Tree, no_pairs}
use Rattle.bson_base.specs.declared.bson.Bson.{Bson}
use Rattle.bson_values.specs.Cause as cause
use Rattle.bson_values.specs.Refusal.{unwritable, no_memory, bare, FailsAs}
use Rattle.bson_values.specs.ErrorView.{write_failure}
use Rattle.bson_values.specs.Value.{Value, str, map, Items, item, Entries, entry, FieldValues, field_value}
use Rattle.bson_values.specs.declared.ser.Error.{Error}
use Rattle.bson_laws.specs.Spell.{Writing}
use Rattle.bson_tree_laws.specs.TreeSpell.{tree_items, tree_entries, tree_fields, tree_key_text, tree_whole}
use Rattle.bson_ser_tree.specs.Answers.{without_paths}
use Rattle.bson_writing.specs.Joined.{items_joined, entries_joined, fields_joined, with_item, with_entry, with_field}
use Rattle.bson_ser_tree.specs.Made.{ItemsMade, PairsMade, EntriesMade}

-- ---- what a writer has taken

-- what was made so far is what the definition gives
abbrev pub IsMade : {A : Type 0} → Option A → Writing A → Type 0
IsMade None expected = ⊥
IsMade (Some a) expected = expected ≡ Ok a

-- the values that a writer of an array has taken, with so many levels left for what is in them
pub record HasItems (levels : ℕ) (readable : Bool) (w : ItemsMade) (vs : Items) : Type 0 where
  pub form : w.readable ≡ readable
  pub made : IsMade w.trees (tree_items readable 0 vs levels)

-- the fields that a writer of a struct has taken
pub record HasFields (levels : ℕ) (readable : Bool) (w : PairsMade) (fs : FieldValues) : Type 0 where
  pub form : w.readable ≡ readable
  pub made : IsMade w.pairs (tree_fields readable false fs no_pairs levels)

-- the entries that a writer of a map has taken, and the key that it was given last
pub record HasEntries (levels : ℕ) (readable : Bool) (w : EntriesMade) (es : Entries) (k : Value) : Type 0 where
  pub form : w.made.readable ≡ readable
  pub made : IsMade w.made.pairs (tree_entries readable es no_pairs levels)
  pub key : tree_key_text readable k levels ≡ Ok w.key

-- nothing is left of what was made: the writer has failed
abbrev pub HasFailed : {A : Type 0} → Option A → Type 0
HasFailed made = made ≡ None

-- ---- what a call answers

-- the part was taken; or the writer has failed, and answers the refusal of the definition without its path, or that memory ran out
abbrev pub Takes : {Y : Type 0} → (taken failed : Type 0) → Writing Y → Result (Unit {0}) Error → Type 0
Takes taken failed expected (Ok x) = taken
Takes taken failed expected (Err e) = failed × FailsAs (write_failure e) (without_paths expected)

-- the call answers that the writer failed before
abbrev pub AnswersFailed : {X : Type 0} → Result X Error → Type 0
AnswersFailed result = IsErrAnd result (λ e. write_failure e ≡ bare (unwritable cause.failed))

-- the whole value is given, or memory ran out
abbrev pub GivesWhole : Writing Tree → Result Bson Error → Type 0
GivesWhole expected (Ok b) = expected ≡ Ok (tree_of b)
GivesWhole expected (Err e) = write_failure e ≡ no_memory

-- a value is handed to a writer of an array: what refuses it is the refusal of each whole value that begins with the values so far and this one
abbrev pub TakesItem : (whole : Items → Value) → (levels : ℕ) → (old new : ItemsMade) → Value → Result (Unit {0}) Error → Type 0
TakesItem whole levels old new v result =
    (readable : Bool) (before after : Items) → HasItems levels readable old before
    → Takes (HasItems levels readable new (with_item before v)) (HasFailed new.trees) (tree_whole readable (whole (items_joined before (item v after)))) result

-- a field is handed to a writer of a struct
abbrev pub TakesField : (whole : FieldValues → Value) → (levels : ℕ) → (old new : PairsMade) → Utf8 → Value → Result (Unit {0}) Error → Type 0
TakesField whole levels old new name v result =
    (readable : Bool) (before after : FieldValues) → HasFields levels readable old before
    → Takes (HasFields levels readable new (with_field before name v)) (HasFailed new.pairs) (tree_whole readable (whole (fields_joined before (field_value name v after)))) result

-- a key is handed to a writer of a map: it is judged as the key of the next entry, whatever comes
abbrev pub TakesKey : (levels : ℕ) → (old new : EntriesMade) → Value → Result (Unit {0}) Error → Type 0
TakesKey levels old new k result =
    (readable : Bool) (before after : Entries) (last v : Value) → HasEntries levels readable old before last
    → Takes (HasEntries levels readable new before k) (HasFailed new.made.pairs) (tree_whole readable (map (entries_joined before (entry k v after)))) result

-- a value is handed to a writer of a map: it takes the key that was given last, and the next one takes the empty text where no key comes before it
abbrev pub TakesValue : (levels : ℕ) → (old new : EntriesMade) → Value → Result (Unit {0}) Error → Type 0
TakesValue levels old new v result =
    (readable : Bool) (before after : Entries) (last : Value) → HasEntries levels readable old before last
    → Takes (HasEntries levels readable new (with_entry before last v) (str [])) (HasFailed new.made.pairs) (tree_whole readable (map (entries_joined before (entry last v after)))) result

-- what the values, the fields or the entries are together
abbrev pub EndsItems : (whole : Items → Value) → (levels : ℕ) → ItemsMade → Result Bson Error → Type 0
EndsItems whole levels w result = (readable : Bool) (vs : Items) → HasItems levels readable w vs → GivesWhole (tree_whole readable (whole vs)) result

abbrev pub EndsFields : (whole : FieldValues → Value) → (levels : ℕ) → PairsMade → Result Bson Error → Type 0
EndsFields whole levels w result = (readable : Bool) (fs : FieldValues) → HasFields levels readable w fs → GivesWhole (tree_whole readable (whole fs)) result

abbrev pub EndsEntries : (levels : ℕ) → EntriesMade → Result Bson Error → Type 0
EndsEntries levels w result = (readable : Bool) (es : Entries) (last : Value) → HasEntries levels readable w es last → GivesWhole (tree_whole readable (map es)) result
