-- The entries of a map, one after another: read back.
use Rattle.std.proofs.Common.{◌≡◌, ℕ, ◌≤◌, false, cond, Option, Some, refl, ap, sym, subst, ◌∙◌, arith}
use Rattle.std.specs.Prelude.{option_map, option_and_then}
use Rattle.std.specs.Str.{bytes_eq}
use Rattle.bson_kinds.specs.Text.{Utf8}
use Rattle.bson_kinds.specs.Outcome.{◌>>=◌}
use Rattle.bson_base.specs.Sound.{ArePairsClean, Lacks}
use Rattle.bson_base.specs.Tree.{Tree, Pairs, no_pairs, pair, pairs_depth}
use Rattle.bson_kinds.proofs.Outcomes.{some_is, some_map, some_then}
use Rattle.bson_rawdoc.specs.Node.{Sight, piece, Node, tree_node, pair_nodes}
use Rattle.bson_kinds.specs.Piece.{Piece}
use Rattle.bson_values.specs.Value.{EntriesOf, ValueOf, Value, Entries, no_entries, entry}
use Rattle.bson_values.specs.Marked.{Marked, MarkedEntries, contents, entry_contents}
use Rattle.bson_values.specs.Same.{same}
use Rattle.bson_values.specs.Refusal.{under}
use Rattle.bson_laws.specs.Judged.{Reading}
use Rattle.bson_laws.specs.ReadsLeaf.{put_entry}
use Rattle.bson_laws.specs.Containers.{reads_entries}
use Rattle.bson_laws.specs.Views.{views_entries}
use Rattle.bson_laws.proofs.Fitted.{unlike_swap}
use Rattle.bson_laws.proofs.Items.{ReadsBack}
use Rattle.bson_laws.proofs.Judged.{ReadAs}

-- ---- entries that go last

-- the entries of one list, and then those of another
abbrev pub joined : {T : Type 0} → EntriesOf T → EntriesOf T → EntriesOf T
joined no_entries ds = ds
joined (entry k v es) ds = entry k v (joined es ds)

pub joined_none : {T : Type 0} (es : EntriesOf T) → joined es no_entries ≡ es
joined_none no_entries = refl
joined_none (entry k v es) = ap (entry k v) (joined_none es)

pub joined_one : {T : Type 0} (es : EntriesOf T) (k v : ValueOf T) (ds : EntriesOf T) → joined (joined es (entry k v no_entries)) ds ≡ joined es (entry k v ds)
joined_one no_entries k v ds = refl
joined_one (entry j w es) k v ds = ap (entry j w) (joined_one es k v ds)

pub joined_contents : (es ds : MarkedEntries) → entry_contents (joined es ds) ≡ joined (entry_contents es) (entry_contents ds)
joined_contents no_entries ds = refl
joined_contents (entry k v es) ds = ap (entry (contents k) (contents v)) (joined_contents es ds)

-- no entry has the key
abbrev pub IsNew : Value → Entries → Type 0
IsNew key no_entries = Unit {0}
IsNew key (entry k v es) = (same key k ≡ false) × IsNew key es

pub put_last : (k v : Marked) (es : MarkedEntries) → IsNew (contents k) (entry_contents es) → put_entry k v es ≡ joined es (entry k v no_entries)
put_last k v no_entries n = refl
put_last k v (entry j w es) n = ap (λ b. cond b (entry j v es) (entry j w (put_entry k v es))) n.0 ∙ ap (entry j w) (put_last k v es n.1)

-- two texts are the same key where they are the same text
abbrev pub KeepsApart : (Utf8 → Value) → Type 0
KeepsApart key_of = (a b : Utf8) → same (key_of a) (key_of b) ≡ bytes_eq a b

-- no entry has the key that a key of these pairs is
abbrev pub AreNew : (Utf8 → Value) → Pairs → Entries → Type 0
AreNew key_of no_pairs es = Unit {0}
AreNew key_of (pair key t ps) es = IsNew (key_of key) es × AreNew key_of ps es

pub new_first : (key_of : Utf8 → Value) (ps : Pairs) → AreNew key_of ps no_entries
new_first key_of no_pairs = tt
new_first key_of (pair k t ps) = (tt, new_first key_of ps)

pub new_joined : (key k v : Value) (es : Entries) → same key k ≡ false → IsNew key es → IsNew key (joined es (entry k v no_entries))
new_joined key k v no_entries unlike n = (unlike, tt)
new_joined key k v (entry j w es) unlike n = (n.0, new_joined key k v es unlike n.1)

new_later : (key_of : Utf8 → Value) → KeepsApart key_of → (ps : Pairs) (k : Utf8) (v : Value) (es : Entries) → Lacks k ps → AreNew key_of ps es → AreNew key_of ps (joined es (entry (key_of k) v no_entries))
new_later key_of apart no_pairs k v es lacks n = tt
new_later key_of apart (pair key t ps) k v es lacks n =
    (new_joined (key_of key) (key_of k) v es (apart key k ∙ unlike_swap k key lacks.0) n.0, new_later key_of apart ps k v es lacks.1 n.1)

-- ---- all entries

-- what a key is in a view is what the text is as a key, and is read as it
abbrev pub ReadsKeys : (at : Sight) → (Utf8 → Value) → (Utf8 → Option Value) → (Piece → Reading Marked) → Type 0
ReadsKeys at key_of view read = (key : Utf8) (k : Value) → view key ≡ Some k → (k ≡ key_of key) × ReadAs contents (read (piece at.texts key)) (key_of key)

-- what the pairs of a document are in a view is read from it, where what each key and each value is in the view is
module _ (at : Sight) (key_of : Utf8 → Value) (apart : KeepsApart key_of) (view_key : Utf8 → Option Value) (read_key : Piece → Reading Marked) (view : Tree → Option Value) (read : Node → Reading Marked) (levels : ℕ) (keys : ReadsKeys at key_of view_key read_key) (each : ReadsBack at view read levels) where
  pub entries_again : (ps : Pairs) (es : MarkedEntries) (ds : Entries) → ArePairsClean ps → pairs_depth ps ≤ levels → AreNew key_of ps (entry_contents es) → views_entries view_key view ps ≡ Some ds
      → ReadAs entry_contents (reads_entries read_key read (pair_nodes at ps levels) es) (joined (entry_contents es) ds)
  entries_again no_pairs es ds c d n e = (es, refl, sym (joined_none (entry_contents es)) ∙ ap (joined (entry_contents es)) (some_is no_entries ds e))
  entries_again (pair key t ps) es ds c d n e =
      let a = some_then (λ k. option_and_then (λ v. option_map (entry k v) (views_entries view_key view ps)) (view t)) (view_key key) ds e in
      let b = some_then (λ v. option_map (entry a.0 v) (views_entries view_key view ps)) (view t) ds a.2 in
      let m = some_map (entry a.0 b.0) (views_entries view_key view ps) ds b.2 in
      let k = keys key a.0 a.1 in
      let f = each t b.0 c.2 (omega arith) b.1 in
      let old = entry_contents es in
      let now = joined es (entry k.1.0 f.0 no_entries) in
      let is : entry_contents now ≡ joined old (entry (key_of key) (contents f.0) no_entries) = joined_contents es (entry k.1.0 f.0 no_entries) ∙ ap (λ x. joined old (entry x (contents f.0) no_entries)) k.1.2 in
      let rest = entries_again ps now m.0 c.3 (omega arith) (subst (AreNew key_of ps) (sym is) (new_later key_of apart ps key (contents f.0) old c.1 n.1)) m.1 in
      let nodes = pair_nodes at ps levels in (
        rest.0,
        ap (λ r. r >>= λ x. under key (read (tree_node at t levels)) >>= λ v. reads_entries read_key read nodes (put_entry x v es)) k.1.1
            ∙ ap (λ r. under key r >>= λ v. reads_entries read_key read nodes (put_entry k.1.0 v es)) f.1
            ∙ ap (reads_entries read_key read nodes) (put_last k.1.0 f.0 es (subst (λ x. IsNew x old) (sym k.1.2) n.0))
            ∙ rest.1,
        rest.2 ∙ ap (λ x. joined x m.0) is ∙ joined_one old (key_of key) (contents f.0) m.0 ∙ (λ i. joined old (entry (sym k.0 i) (f.2 i) m.0)) ∙ ap (joined old) m.2,
      )
