-- What a writer answers. Source: bsonspec.org, version 1.1, `document`, `element` and `code_w_s`.
use Rattle.std.specs.Prelude.{◌≡◌, ℕ, zero, suc, ◌+◌, ◌<◌, [], ◌∷◌, ◌++◌, ◌⊎◌, Result, Ok, Err}
use Rattle.bson_kinds.specs.Text.{Bytes, Utf8}
use Rattle.bson_kinds.specs.Outcome.{◌>>=◌, result_map}
use Rattle.bson_base.specs.Sound.{max_bytes}
use Rattle.bson_base.specs.Tree.{Tree, document, array, javascript_code_with_scope, Pairs, no_pairs, pair, Trees, no_trees, tree, enc, elements, array_elements, element, kind}
use Rattle.bson_values.specs.Cause.{too_deep, too_long}
use Rattle.bson_values.specs.Refusal.{WriteFault, unwritable, here, under, Failure, no_memory, with_path}
use Rattle.bson_values.specs.ErrorView.{write_failure}
use Rattle.bson_values.specs.declared.ser.Error.{Error}
use Rattle.bson_laws.specs.Spell.{Writing}

-- the bytes so far, with those of what is written behind them
abbrev pub with_bytes : {A : Type 0} → (A → Bytes) → Bytes → Writing A → Writing Bytes
with_bytes bytes old r = result_map (λ x. old ++ bytes x) r

-- the bytes so far, with those of a value behind them
abbrev pub with_tree : Bytes → Writing Tree → Writing Bytes
with_tree = with_bytes enc

-- the front of an element before its kind is known: a zero in the place of the kind, and the key closed by a zero
abbrev pub front : Utf8 → Bytes
front key = 0 ∷ (key ++ 0 ∷ [])

-- the bytes so far, with an element behind them
abbrev pub with_element : Bytes → Utf8 → Writing Tree → Writing Bytes
with_element old key = with_bytes (λ t. element (kind t) key (enc t)) old

-- the bytes so far, with the element of an entry behind them: its key is judged before its value, which is under it
abbrev pub with_entry : Bytes → Writing Utf8 → Writing Tree → Writing Bytes
with_entry old key r = key >>= λ k. with_element old k (under k r)

-- the bytes so far, with the elements of a document behind them
abbrev pub with_elements : Bytes → Writing Pairs → Writing Bytes
with_elements = with_bytes elements

-- the bytes so far, with the elements of an array from an index on behind them
abbrev pub with_array_elements : Bytes → ℕ → Writing Trees → Writing Bytes
with_array_elements old i = with_bytes (array_elements i) old

-- four zeros in the place of a length
abbrev pub length_place : Bytes
length_place = 0 ∷ 0 ∷ 0 ∷ 0 ∷ []

abbrev mutual
  -- how many bytes of a value are written over such places: the kind of each element in it, and the length of each document, array and code with its scope
  pub places : Tree → ℕ
  places (document ps) = pair_places ps + 4
  places (array ts) = tree_places ts + 4
  places (javascript_code_with_scope code scope) = pair_places scope + 8
  places t = 0

  pub pair_places : Pairs → ℕ
  pair_places no_pairs = 0
  pair_places (pair key t ps) = places t + 1 + pair_places ps

  pub tree_places : Trees → ℕ
  tree_places no_trees = 0
  tree_places (tree t ts) = places t + 1 + tree_places ts

-- such a number of what is written, and 0 where it is refused
abbrev pub count_of : {A : Type 0} → (A → ℕ) → Writing A → ℕ
count_of count (Ok x) = count x
count_of count (Err r) = 0

-- how many levels are left for what is in a document or an array, which takes one of those that are left
abbrev pub level_inside : ℕ → Writing ℕ
level_inside zero = Err (here (unwritable too_deep))
level_inside (suc levels) = Ok levels

-- the failure for a document that would have more bytes than a document may; it names no value inside
abbrev pub too_long_failure : Failure WriteFault
too_long_failure = with_path (here (unwritable too_long))

-- the failure is the refusal of the definition, with its path
abbrev pub IsExpected : {A : Type 0} → Writing A → Failure WriteFault → Type 0
IsExpected (Ok x) f = ⊥
IsExpected (Err r) f = f ≡ with_path r

-- Why something of a size is not written: because memory ran out, for the refusal of the definition, or for its size.
abbrev pub Fails : {A : Type 0} → ℕ → Writing A → Failure WriteFault → Type 0
Fails size expected f = (f ≡ no_memory) ⊎ IsExpected expected f ⊎ ((f ≡ too_long_failure) × (max_bytes < size))

-- these bytes are given, or memory ran out
abbrev pub GivesBytes : {X : Type 0} → (X → Bytes) → Bytes → Result X Error → Type 0
GivesBytes see bytes (Ok x) = see x ≡ bytes
GivesBytes see bytes (Err e) = write_failure e ≡ no_memory
