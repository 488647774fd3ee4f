-- What one more part makes of those that were made before. Source: this library's own readers and writers.
use Rattle.std.specs.Prelude.{◌≡◌, ℕ, Bool, false, Option, Some, None, Result, Ok, Err}
use Rattle.bson_kinds.specs.Outcome.{◌>>=◌}
use Rattle.bson_base.specs.Pairs.{put}
use Rattle.bson_kinds.specs.Text.{Utf8}
use Rattle.bson_base.specs.Tree.{Tree, Trees, no_trees, tree, Pairs}
use Rattle.bson_values.specs.Refusal.{no_memory, FailsAs}
use Rattle.bson_values.specs.ErrorView.{write_failure}
use Rattle.bson_values.specs.Value.{Value}
use Rattle.bson_values.specs.declared.ser.Error.{Error}
use Rattle.bson_laws.specs.Spell.{Writing}
use Rattle.bson_tree_laws.specs.TreeSpell.{tree_spell}
use Rattle.bson_ser_tree.specs.Answers.{without_paths}
use Rattle.bson_ser_tree.specs.Taking.{HasFailed, AnswersFailed}

-- what the definition gives was made; or nothing is left, and the refusal is answered without its path, or that memory ran out
abbrev pub Steps : {A : Type 0} → Writing A → (new : Option A) → Result (Unit {0}) Error → Type 0
Steps expected new (Ok x) = (a : _) × (expected ≡ Ok a) × (new ≡ Some a)
Steps expected new (Err e) = HasFailed new × FailsAs (write_failure e) (without_paths expected)

-- a step from what was made before; a writer that failed answers that it did
abbrev pub StepsFrom : {A : Type 0} → (old : Option A) → (A → Writing A) → (new : Option A) → Result (Unit {0}) Error → Type 0
StepsFrom None step new result = HasFailed new × AnswersFailed result
StepsFrom (Some a) step new result = Steps (step a) new result

-- trees, and others behind them
abbrev pub trees_joined : (before after : Trees) → Trees
trees_joined no_trees us = us
trees_joined (tree t ts) us = tree t (trees_joined ts us)

-- trees, and one more behind them
abbrev pub with_tree : Trees → Tree → Trees
with_tree ts t = trees_joined ts (tree t no_trees)

-- one more value of an array, with so many levels left
abbrev pub item_step : (readable : Bool) → Value → ℕ → Trees → Writing Trees
item_step readable v levels ts = tree_spell readable false v levels >>= λ t. Ok (with_tree ts t)

-- one more pair of a document
abbrev pub pair_step : (readable : Bool) → Utf8 → Value → ℕ → Pairs → Writing Pairs
pair_step readable key v levels ps = tree_spell readable false v levels >>= λ t. Ok (put key t ps)

-- a text was given, and what was made stays; or nothing is left of it, and the refusal is answered without its path, or that memory ran out
abbrev pub Keeps : {A X Y : Type 0} → (see : X → Y) → A → Writing Y → (new : Option A) → Result X Error → Type 0
Keeps see a expected new (Ok x) = (expected ≡ Ok (see x)) × (new ≡ Some a)
Keeps see a expected new (Err e) = HasFailed new × FailsAs (write_failure e) (without_paths expected)

-- the same from what was made before; a writer that failed answers that it did
abbrev pub KeepsFrom : {A X Y : Type 0} → (see : X → Y) → (old : Option A) → Writing Y → (new : Option A) → Result X Error → Type 0
KeepsFrom see None expected new result = HasFailed new × AnswersFailed result
KeepsFrom see (Some a) expected new result = Keeps see a expected new result

-- what everything together becomes is given, or memory ran out; a writer that failed answers that it did
abbrev pub Finishes : {X A B : Type 0} → (become : A → B) → (see : X → B) → Option A → Result X Error → Type 0
Finishes become see None result = AnswersFailed result
Finishes become see (Some a) (Ok x) = become a ≡ see x
Finishes become see (Some a) (Err e) = write_failure e ≡ no_memory
