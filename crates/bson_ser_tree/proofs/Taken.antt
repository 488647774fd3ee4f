-- What a call of a writer answers is what the whole value is made into, by the step that the call makes.
use Rattle.std.proofs.Common.{◌≡◌, ℕ, suc, Bool, false, [], Option, Some, None, Result, Ok, Err, refl, ap, sym, subst, ◌∙◌}
use Rattle.bson_base.specs.BsonView.{tree_of}
use Rattle.bson_base.specs.Folded.{fold}
use Rattle.bson_kinds.specs.Outcome.{◌>>=◌, result_map}
use Rattle.bson_base.specs.Pairs.{put}
use Rattle.bson_kinds.specs.Text.{Utf8}
use Rattle.bson_base.specs.Tree.{Tree, document, array, Pairs, no_pairs, pair, Trees, no_trees, tree}
use Rattle.bson_base.specs.declared.bson.Bson.{Bson}
use Rattle.bson_kinds.proofs.Outcomes.{bind_ok}
use Rattle.bson_values.specs.Refusal.{Refusal, WriteFault, Failure, no_memory, bare, placed, under, under_index, FailsAs}
use Rattle.bson_values.specs.ErrorView.{write_failure}
use Rattle.bson_values.specs.Value.{Value, str, sequence, tuple, tuple_structure, tuple_variant, map, structure, structure_variant, Items, item, no_items, Entries, entry, no_entries, FieldValues, field_value, no_field_values}
use Rattle.bson_values.specs.declared.ser.Error.{Error}
use Rattle.bson_laws.specs.Spell.{Writing}
use Rattle.bson_tree_laws.specs.TreeSpell.{tree_spell, tree_items, tree_entries, tree_fields, tree_key_text, tree_whole}
use Rattle.bson_ser_tree.specs.Answers.{without_paths}
use Rattle.bson_writing.specs.Joined.{items_joined, entries_joined, fields_joined, with_item, with_entry, with_field}
use Rattle.bson_ser_tree.specs.Made.{ItemsMade, PairsMade, EntriesMade}
use Rattle.bson_ser_tree.specs.Steps.{StepsFrom, KeepsFrom, Finishes, trees_joined, with_tree, item_step, pair_step}
use Rattle.bson_ser_tree.specs.Taking.{IsMade, HasItems, HasFields, HasEntries, HasFailed, Takes, GivesWhole, TakesItem, TakesField, TakesKey, TakesValue, EndsItems, EndsFields, EndsEntries, AnswersFailed}
use Rattle.bson_ser_tree.proofs.Joined.{index_after, items_on, fields_on, entries_on}

-- ---- refusals without paths

abbrev refused : {A : Type 0} → Refusal WriteFault → Writing A
refused f = Err f

bind_err : {A B : Type 0} (x : Writing A) (g : A → B) (f : Refusal WriteFault) → (x >>= λ a. Ok (g a)) ≡ refused f → x ≡ Err f
bind_err (Ok a) g f e = absurd cc
bind_err (Err h) g f e = let same : h ≡ f = cc in ap Err same

-- where one thing is refused for the fault that another is refused for, it fails as that does
pub fails_with : {A B : Type 0} (x : Writing A) (y : Writing B) (f : Failure WriteFault) → ((r : Refusal WriteFault) → x ≡ Err r → without_paths y ≡ Err (bare r.fault)) → FailsAs f (without_paths x) → FailsAs f (without_paths y)
fails_with (Ok a) y no_memory h s = tt
fails_with (Ok a) y (bare g) h s = absurd cc
fails_with (Ok a) y (placed path g) h s = absurd cc
fails_with (Err r) y no_memory h s = tt
fails_with (Err r) y (bare g) h s = let same : bare r.fault ≡ bare g = cc in h r refl ∙ ap Err same
fails_with (Err r) y (placed path g) h s = absurd cc

-- the fault of the parts is that of the whole value
abbrev pub KeepsFaults : {A : Type 0} → (Writing A → Writing Tree) → Type 0
KeepsFaults outer = (f : Refusal WriteFault) → without_paths (outer (Err f)) ≡ Err (bare f.fault)

-- ---- values of an array

-- the whole value is made from what its values are made into
abbrev pub OfItems : (whole : Items → Value) → (levels : ℕ) → (outer : Writing Trees → Writing Tree) → Type 0
OfItems whole levels outer = (readable : Bool) (vs : Items) → tree_whole readable (whole vs) ≡ outer (tree_items readable 0 vs levels)

item_taken : (readable : Bool) (levels : ℕ) (before : Items) (v : Value) (ts : Trees) (t : Tree) → tree_items readable 0 before levels ≡ Ok ts → tree_spell readable false v levels ≡ Ok t
    → tree_items readable 0 (with_item before v) levels ≡ Ok (with_tree ts t)
item_taken readable levels before v ts t made e =
    items_on readable before (item v no_items) 0 levels ts made ∙ ap (λ x. result_map (trees_joined ts) (under_index (index_after 0 before) x >>= λ u. Ok (tree u no_trees))) e

module _ (whole : Items → Value) (levels : ℕ) (outer : Writing Trees → Writing Tree) (is : OfItems whole levels outer) (keeps : KeepsFaults outer) where
  item_refused : (readable : Bool) (before after : Items) (v : Value) (ts : Trees) (f : Refusal WriteFault) → tree_items readable 0 before levels ≡ Ok ts → tree_spell readable false v levels ≡ Err f
      → without_paths (tree_whole readable (whole (items_joined before (item v after)))) ≡ Err (bare f.fault)
  item_refused readable before after v ts f made e =
      let i = index_after 0 before in
      let behind = λ (x : Writing Tree). outer (result_map (trees_joined ts) (under_index i x >>= λ t. tree_items readable (suc i) after levels >>= λ us. Ok (tree t us))) in
      ap without_paths (is readable (items_joined before (item v after)) ∙ ap outer (items_on readable before (item v after) 0 levels ts made) ∙ ap behind e) ∙ keeps _

  item_step_taken : (readable : Bool) (o new : Option Trees) (before after : Items) (v : Value) (result : Result (Unit {0}) Error) → StepsFrom o (item_step readable v levels) new result → IsMade o (tree_items readable 0 before levels)
      → Takes (IsMade new (tree_items readable 0 (with_item before v) levels)) (HasFailed new) (tree_whole readable (whole (items_joined before (item v after)))) result
  item_step_taken readable None new before after v result s made = absurd made
  item_step_taken readable (Some ts) new before after v (Ok x) s made =
      let b = bind_ok (tree_spell readable false v levels) (λ t. Ok (with_tree ts t)) s.0 s.1 in
      subst (λ o. IsMade o (tree_items readable 0 (with_item before v) levels)) (sym s.2) (item_taken readable levels before v ts b.0 made b.1 ∙ b.2)
  item_step_taken readable (Some ts) new before after v (Err e) s made = (
    s.0,
    fails_with (item_step readable v levels ts) (tree_whole readable (whole (items_joined before (item v after)))) (write_failure e)
        (λ r q. item_refused readable before after v ts r made (bind_err (tree_spell readable false v levels) (with_tree ts) r q)) s.1,
  )

  pub takes_item : (old new : ItemsMade) (v : Value) (result : Result (Unit {0}) Error) → new.readable ≡ old.readable → StepsFrom old.trees (item_step old.readable v levels) new.trees result → TakesItem whole levels old new v result
  takes_item old new v result same steps readable before after has =
      let step = subst (λ r. StepsFrom old.trees (item_step r v levels) new.trees result) has.form steps in
      with_form (same ∙ has.form) result (item_step_taken readable old.trees new.trees before after v result step has.made)
    where
      with_form : new.readable ≡ readable → (r : Result (Unit {0}) Error) → Takes (IsMade new.trees (tree_items readable 0 (with_item before v) levels)) (HasFailed new.trees) (tree_whole readable (whole (items_joined before (item v after)))) r
          → Takes (HasItems levels readable new (with_item before v)) (HasFailed new.trees) (tree_whole readable (whole (items_joined before (item v after)))) r
      with_form f (Ok x) t = record { form = f; made = t }
      with_form f (Err e) t = t

  -- everything is given, where the whole value of what was made is seen so
  items_given : (readable : Bool) (o : Option Trees) (become : Trees → Tree) (vs : Items) (result : Result Bson Error) → ((ts : Trees) → outer (Ok ts) ≡ Ok (become ts)) → Finishes become tree_of o result → IsMade o (tree_items readable 0 vs levels)
      → GivesWhole (tree_whole readable (whole vs)) result
  items_given readable None become vs result ok all made = absurd made
  items_given readable (Some ts) become vs (Ok b) ok all made = is readable vs ∙ ap outer made ∙ ok ts ∙ ap Ok all
  items_given readable (Some ts) become vs (Err e) ok all made = all

  pub ends_items : (w : ItemsMade) (become : Trees → Tree) (result : Result Bson Error) → ((ts : Trees) → outer (Ok ts) ≡ Ok (become ts)) → Finishes become tree_of w.trees result → EndsItems whole levels w result
  ends_items w become result ok all readable vs has = items_given readable w.trees become vs result ok all has.made

-- ---- fields of a struct

abbrev pub OfFields : (whole : FieldValues → Value) → (levels : ℕ) → (outer : Writing Pairs → Writing Tree) → Type 0
OfFields whole levels outer = (readable : Bool) (fs : FieldValues) → tree_whole readable (whole fs) ≡ outer (tree_fields readable false fs no_pairs levels)

module _ (whole : FieldValues → Value) (levels : ℕ) (outer : Writing Pairs → Writing Tree) (is : OfFields whole levels outer) (keeps : KeepsFaults outer) where
  field_refused : (readable : Bool) (before after : FieldValues) (name : Utf8) (v : Value) (ps : Pairs) (f : Refusal WriteFault) → tree_fields readable false before no_pairs levels ≡ Ok ps → tree_spell readable false v levels ≡ Err f
      → without_paths (tree_whole readable (whole (fields_joined before (field_value name v after)))) ≡ Err (bare f.fault)
  field_refused readable before after name v ps f made e =
      let behind = λ (x : Writing Tree). outer (under name x >>= λ t. tree_fields readable false after (put name t ps) levels) in
      ap without_paths (is readable (fields_joined before (field_value name v after)) ∙ ap outer (fields_on readable false before (field_value name v after) no_pairs ps levels made) ∙ ap behind e) ∙ keeps _

  field_step_taken : (readable : Bool) (o new : Option Pairs) (before after : FieldValues) (name : Utf8) (v : Value) (result : Result (Unit {0}) Error) → StepsFrom o (pair_step readable name v levels) new result → IsMade o (tree_fields readable false before no_pairs levels)
      → Takes (IsMade new (tree_fields readable false (with_field before name v) no_pairs levels)) (HasFailed new) (tree_whole readable (whole (fields_joined before (field_value name v after)))) result
  field_step_taken readable None new before after name v result s made = absurd made
  field_step_taken readable (Some ps) new before after name v (Ok x) s made =
      let b = bind_ok (tree_spell readable false v levels) (λ t. Ok (put name t ps)) s.0 s.1 in
      subst (λ o. IsMade o (tree_fields readable false (with_field before name v) no_pairs levels)) (sym s.2)
      (fields_on readable false before (field_value name v no_field_values) no_pairs ps levels made ∙ ap (λ x. under name x >>= λ t. Ok (put name t ps)) b.1 ∙ b.2)
  field_step_taken readable (Some ps) new before after name v (Err e) s made = (
    s.0,
    fails_with (pair_step readable name v levels ps) (tree_whole readable (whole (fields_joined before (field_value name v after)))) (write_failure e)
        (λ r q. field_refused readable before after name v ps r made (bind_err (tree_spell readable false v levels) (λ t. put name t ps) r q)) s.1,
  )

  pub takes_field : (old new : PairsMade) (name : Utf8) (v : Value) (result : Result (Unit {0}) Error) → new.readable ≡ old.readable → StepsFrom old.pairs (pair_step old.readable name v levels) new.pairs result
      → TakesField whole levels old new name v result
  takes_field old new name v result same steps readable before after has =
      let step = subst (λ r. StepsFrom old.pairs (pair_step r name v levels) new.pairs result) has.form steps in
      with_form (same ∙ has.form) result (field_step_taken readable old.pairs new.pairs before after name v result step has.made)
    where
      with_form : new.readable ≡ readable → (r : Result (Unit {0}) Error) → Takes (IsMade new.pairs (tree_fields readable false (with_field before name v) no_pairs levels)) (HasFailed new.pairs) (tree_whole readable (whole (fields_joined before (field_value name v after)))) r
          → Takes (HasFields levels readable new (with_field before name v)) (HasFailed new.pairs) (tree_whole readable (whole (fields_joined before (field_value name v after)))) r
      with_form f (Ok x) t = record { form = f; made = t }
      with_form f (Err e) t = t

  fields_given : (readable : Bool) (o : Option Pairs) (become : Pairs → Tree) (fs : FieldValues) (result : Result Bson Error) → ((ps : Pairs) → outer (Ok ps) ≡ Ok (become ps)) → Finishes become tree_of o result → IsMade o (tree_fields readable false fs no_pairs levels)
      → GivesWhole (tree_whole readable (whole fs)) result
  fields_given readable None become fs result ok all made = absurd made
  fields_given readable (Some ps) become fs (Ok b) ok all made = is readable fs ∙ ap outer made ∙ ok ps ∙ ap Ok all
  fields_given readable (Some ps) become fs (Err e) ok all made = all

  pub ends_fields : (w : PairsMade) (become : Pairs → Tree) (result : Result Bson Error) → ((ps : Pairs) → outer (Ok ps) ≡ Ok (become ps)) → Finishes become tree_of w.pairs result → EndsFields whole levels w result
  ends_fields w become result ok all readable fs has = fields_given readable w.pairs become fs result ok all has.made

-- ---- entries of a map, which is folded

-- how many levels are left for what is in a map
module _ (levels : ℕ) (is : (readable : Bool) (es : Entries) → tree_whole readable (map es) ≡ result_map fold (tree_entries readable es no_pairs levels)) where
  -- the key of the next entry is judged before its value
  key_refused : (readable : Bool) (before after : Entries) (k v : Value) (ps : Pairs) (f : Refusal WriteFault) → tree_entries readable before no_pairs levels ≡ Ok ps → tree_key_text readable k levels ≡ Err f
      → without_paths (tree_whole readable (map (entries_joined before (entry k v after)))) ≡ Err (bare f.fault)
  key_refused readable before after k v ps f made e =
      let behind = λ (x : Writing Utf8). result_map fold (x >>= λ key. under key (tree_spell readable false v levels) >>= λ t. tree_entries readable after (put key t ps) levels) in
      ap without_paths (is readable (entries_joined before (entry k v after)) ∙ ap (result_map fold) (entries_on readable before (entry k v after) no_pairs ps levels made) ∙ ap behind e)

  value_refused : (readable : Bool) (before after : Entries) (k v : Value) (key : Utf8) (ps : Pairs) (f : Refusal WriteFault) → tree_entries readable before no_pairs levels ≡ Ok ps → tree_key_text readable k levels ≡ Ok key
      → tree_spell readable false v levels ≡ Err f → without_paths (tree_whole readable (map (entries_joined before (entry k v after)))) ≡ Err (bare f.fault)
  value_refused readable before after k v key ps f made judged e =
      let behind = λ (x : Writing Utf8). result_map fold (x >>= λ y. under y (tree_spell readable false v levels) >>= λ t. tree_entries readable after (put y t ps) levels) in
      let further = λ (x : Writing Tree). result_map fold (under key x >>= λ t. tree_entries readable after (put key t ps) levels) in
      ap without_paths (is readable (entries_joined before (entry k v after)) ∙ ap (result_map fold) (entries_on readable before (entry k v after) no_pairs ps levels made) ∙ ap behind judged ∙ ap further e)

  kept : {X : Type 0} (see : X → Utf8) (x : X) (o new : Option Pairs) (expected : Writing Utf8) (made : Writing Pairs) → KeepsFrom see o expected new (Ok x) → IsMade o made → (expected ≡ Ok (see x)) × IsMade new made
  kept see x None new expected made s m = absurd m
  kept see x (Some ps) new expected made s m = (s.0, subst (λ o. IsMade o made) (sym s.1) m)

  pub takes_key : {X : Type 0} (see : X → Utf8) (x : X) (old new : EntriesMade) (k : Value) → new.made.readable ≡ old.made.readable → new.key ≡ see x
      → KeepsFrom see old.made.pairs (tree_key_text old.made.readable k levels) new.made.pairs (Ok x) → TakesKey levels old new k (Ok tt)
  takes_key see x old new k same key keeps readable before after last v has =
      let step = subst (λ r. KeepsFrom see old.made.pairs (tree_key_text r k levels) new.made.pairs (Ok x)) has.form keeps in
      let both = kept see x old.made.pairs new.made.pairs (tree_key_text readable k levels) (tree_entries readable before no_pairs levels) step has.made in
      record { form = same ∙ has.form; made = both.1; key = both.0 ∙ ap Ok (sym key) }

  unkept : {X : Type 0} (see : X → Utf8) (readable : Bool) (o new : Option Pairs) (before after : Entries) (k v : Value) (e : Error) → KeepsFrom see o (tree_key_text readable k levels) new (Err e)
      → IsMade o (tree_entries readable before no_pairs levels) → HasFailed new × FailsAs (write_failure e) (without_paths (tree_whole readable (map (entries_joined before (entry k v after)))))
  unkept see readable None new before after k v e s made = absurd made
  unkept see readable (Some ps) new before after k v e s made = (
    s.0,
    fails_with (tree_key_text readable k levels) (tree_whole readable (map (entries_joined before (entry k v after)))) (write_failure e) (λ r q. key_refused readable before after k v ps r made q) s.1,
  )

  pub refuses_key : {X : Type 0} (see : X → Utf8) (e : Error) (old new : EntriesMade) (k : Value)
      → KeepsFrom see old.made.pairs (tree_key_text old.made.readable k levels) new.made.pairs (Err e) → TakesKey levels old new k (Err e)
  refuses_key see e old new k keeps readable before after last v has =
      let step = subst (λ r. KeepsFrom see old.made.pairs (tree_key_text r k levels) new.made.pairs (Err e)) has.form keeps in
      unkept see readable old.made.pairs new.made.pairs before after k v e step has.made

  value_step_taken : (readable : Bool) (o new : Option Pairs) (before after : Entries) (k v : Value) (key : Utf8) (result : Result (Unit {0}) Error) → StepsFrom o (pair_step readable key v levels) new result
      → IsMade o (tree_entries readable before no_pairs levels) → tree_key_text readable k levels ≡ Ok key
      → Takes (IsMade new (tree_entries readable (with_entry before k v) no_pairs levels)) (HasFailed new) (tree_whole readable (map (entries_joined before (entry k v after)))) result
  value_step_taken readable None new before after k v key result s made judged = absurd made
  value_step_taken readable (Some ps) new before after k v key (Ok x) s made judged =
      let b = bind_ok (tree_spell readable false v levels) (λ t. Ok (put key t ps)) s.0 s.1 in
      let behind = λ (x : Writing Utf8). x >>= λ y. under y (tree_spell readable false v levels) >>= λ t. Ok (put y t ps) in
      subst (λ o. IsMade o (tree_entries readable (with_entry before k v) no_pairs levels)) (sym s.2)
      (entries_on readable before (entry k v no_entries) no_pairs ps levels made ∙ ap behind judged ∙ ap (λ x. under key x >>= λ t. Ok (put key t ps)) b.1 ∙ b.2)
  value_step_taken readable (Some ps) new before after k v key (Err e) s made judged = (
    s.0,
    fails_with (pair_step readable key v levels ps) (tree_whole readable (map (entries_joined before (entry k v after)))) (write_failure e)
        (λ r q. value_refused readable before after k v key ps r made judged (bind_err (tree_spell readable false v levels) (λ t. put key t ps) r q)) s.1,
  )

  pub takes_value : (old new : EntriesMade) (v : Value) (result : Result (Unit {0}) Error) → new.made.readable ≡ old.made.readable → new.key ≡ []
      → StepsFrom old.made.pairs (pair_step old.made.readable old.key v levels) new.made.pairs result → TakesValue levels old new v result
  takes_value old new v result same key steps readable before after last has =
      let step = subst (λ r. StepsFrom old.made.pairs (pair_step r old.key v levels) new.made.pairs result) has.form steps in
      with_form (same ∙ has.form) result (value_step_taken readable old.made.pairs new.made.pairs before after last v old.key result step has.made has.key)
    where
      with_form : new.made.readable ≡ readable → (r : Result (Unit {0}) Error)
          → Takes (IsMade new.made.pairs (tree_entries readable (with_entry before last v) no_pairs levels)) (HasFailed new.made.pairs) (tree_whole readable (map (entries_joined before (entry last v after)))) r
          → Takes (HasEntries levels readable new (with_entry before last v) (str [])) (HasFailed new.made.pairs) (tree_whole readable (map (entries_joined before (entry last v after)))) r
      with_form f (Ok x) t = record { form = f; made = t; key = ap Ok (sym key) }
      with_form f (Err e) t = t

  entries_given : (readable : Bool) (o : Option Pairs) (es : Entries) (result : Result Bson Error) → Finishes fold tree_of o result → IsMade o (tree_entries readable es no_pairs levels) → GivesWhole (tree_whole readable (map es)) result
  entries_given readable None es result all made = absurd made
  entries_given readable (Some ps) es (Ok b) all made = is readable es ∙ ap (result_map fold) made ∙ ap Ok all
  entries_given readable (Some ps) es (Err e) all made = all

  pub ends_entries : (w : EntriesMade) (result : Result Bson Error) → Finishes fold tree_of w.made.pairs result → EndsEntries levels w result
  ends_entries w result all readable es last has = entries_given readable w.made.pairs es result all has.made

-- ---- writers that failed

pub steps_failed : {A : Type 0} (o new : Option A) (step : A → Writing A) (result : Result (Unit {0}) Error) → StepsFrom o step new result → HasFailed o → HasFailed new × AnswersFailed result
steps_failed None new step result s h = s
steps_failed (Some a) new step result s h = absurd cc

pub keeps_failed : {A X Y : Type 0} (see : X → Y) (o new : Option A) (expected : Writing Y) (result : Result X Error) → KeepsFrom see o expected new result → HasFailed o → HasFailed new × AnswersFailed result
keeps_failed see None new expected result s h = s
keeps_failed see (Some a) new expected result s h = absurd cc

pub finish_failed : {X A B : Type 0} (become : A → B) (see : X → B) (o : Option A) (result : Result X Error) → Finishes become see o result → HasFailed o → AnswersFailed result
finish_failed become see None result s h = s
finish_failed become see (Some a) result s h = absurd cc

-- ---- the seven whole values

pub sequence_is : OfItems sequence 199 (result_map array)
sequence_is readable vs = refl

pub tuple_is : OfItems tuple 199 (result_map array)
tuple_is readable vs = refl

pub tuple_structure_is : (name : Utf8) → OfItems (tuple_structure name) 199 (result_map array)
tuple_structure_is name readable vs = refl

pub structure_is : OfFields (structure []) 199 (result_map fold)
structure_is readable fs = refl

pub map_is : (readable : Bool) (es : Entries) → tree_whole readable (map es) ≡ result_map fold (tree_entries readable es no_pairs 199)
map_is readable es = refl

-- what a variant is made into, by what its contents are
abbrev pub in_variant_of : {A : Type 0} → Utf8 → (A → Tree) → Writing A → Writing Tree
in_variant_of name content x = result_map document (under name (result_map content x) >>= λ t. Ok (pair name t no_pairs))

pub tuple_variant_is : (name : Utf8) → OfItems (tuple_variant name) 198 (in_variant_of name array)
tuple_variant_is name readable vs = refl

pub structure_variant_is : (name : Utf8) → OfFields (structure_variant name) 198 (in_variant_of name fold)
structure_variant_is name readable fs = refl

pub map_keeps : {A : Type 0} (content : A → Tree) → KeepsFaults (result_map content)
map_keeps content f = refl

pub variant_keeps : {A : Type 0} (name : Utf8) (content : A → Tree) → KeepsFaults (in_variant_of name content)
variant_keeps name content f = refl
