-- The law at `any`: a tree of its own form is read as a value that is written as this tree, so its bytes are written as they are.
use Rattle.std.proofs.Common.{◌≡◌, ℕ, zero, suc, List, [], ◌∷◌, ◌++◌, length, false, cond, Ok, Err, refl, ap, sym, subst, ◌∙◌, arith}
use Rattle.std.proofs.lemmas.Bool.{le-ltb}
use Rattle.bson_kinds.specs.Outcome.{◌>>=◌, result_map}
use Rattle.bson_base.specs.Sound.{max_binary}
use Rattle.bson_kinds.specs.Text.{Utf8}
use Rattle.bson_base.specs.Tree as tree
use Rattle.bson_base.specs.Tree.{Tree, double, string, document, array, binary, boolean, null, int32, int64, Pairs, no_pairs, pair, Trees, no_trees, enc, behind_subtype}
use Rattle.bson_rawdoc.specs.Node as node
use Rattle.bson_rawdoc.specs.Node.{Whole, of_bytes, from_input, Node, Nodes, tree_node, pair_nodes, tree_nodes}
use Rattle.bson_values.specs.Value as value
use Rattle.bson_values.specs.Value.{str, no_items, item, no_entries, entry}
use Rattle.bson_values.specs.Marked.{Marked, MarkedItems, MarkedEntries, contents, item_contents, entry_contents}
use Rattle.bson_values.specs.Cause.{binary_too_long}
use Rattle.bson_values.specs.Refusal.{under, here, unwritable, unsigned_exceeds}
use Rattle.bson_values.specs.Same.{same}
use Rattle.bson_kinds.specs.Piece.{borrowed}
use Rattle.bson_laws.specs.Judged.{Reading, judged}
use Rattle.bson_laws.specs.ReadsLeaf.{put_entry, read_any, any_items, any_entries}
use Rattle.bson_laws.specs.Spell.{spell, spell_items, spell_entries}
use Rattle.bson_laws.proofs.Writable.{wide_small}
use Rattle.bson_itself.specs.Itself.{IsItself, ArePairsThemselves, AreTreesThemselves}
use Rattle.bson_itself.specs.declared.untyped.UntypedLeaf.TheVariants.{Any}
use Rattle.bson_keys.proofs.Distinct.{bytes_eq-swap}
use Rattle.bson_itself.proofs.Names.{LacksAll, lacked_rest}

-- a value without a shape, after it is judged
abbrev pub judged_any : Node → Reading Marked
judged_any n = judged n >>= λ _. read_any n

-- ---- entries

-- entries with more behind them
abbrev pub behind : MarkedEntries → MarkedEntries → MarkedEntries
behind no_entries more = more
behind (entry k v es) more = entry k v (behind es more)

-- the keys of entries are these texts
abbrev pub HaveKeys : MarkedEntries → List Utf8 → Type 0
HaveKeys no_entries names = names ≡ []
HaveKeys (entry k v es) names = (name : Utf8) × (others : List Utf8) × (names ≡ name ∷ others) × (contents k ≡ str name) × HaveKeys es others

-- an entry of a new key goes last
put_last : (name : Utf8) (t : Tree) (ps : Pairs) (v : Marked) (es : MarkedEntries) (names : List Utf8) → HaveKeys es names → LacksAll names (pair name t ps)
    → put_entry (str (borrowed name)) v es ≡ behind es (entry (str (borrowed name)) v no_entries)
put_last name t ps v no_entries names keys new = refl
put_last name t ps v (entry key old es) names keys new =
    let n : LacksAll (keys.0 ∷ keys.1) (pair name t ps) = subst (λ ks. LacksAll ks (pair name t ps)) keys.2 new in
    let other : same (contents (str (borrowed name))) (contents key) ≡ false = ap (λ k. same (str name) k) keys.3 ∙ bytes_eq-swap name keys.0 ∙ n.0.0 in
    ap (λ c. cond c (entry key v es) (entry key old (put_entry (str (borrowed name)) v es))) other ∙ ap (entry key old) (put_last name t ps v es keys.1 keys.4 n.1)

keys_last : (name : Utf8) (v : Marked) (es : MarkedEntries) (names : List Utf8) → HaveKeys es names → HaveKeys (behind es (entry (str (borrowed name)) v no_entries)) (names ++ name ∷ [])
keys_last name v no_entries names keys = (name, [], ap (λ l. l ++ name ∷ []) keys, refl, refl)
keys_last name v (entry key old es) names keys = (keys.0, keys.1 ++ name ∷ [], ap (λ l. l ++ name ∷ []) keys.2, keys.3, keys_last name v es keys.1 keys.4)

behind_behind : (k v : Marked) (es more : MarkedEntries) → behind (behind es (entry k v no_entries)) more ≡ behind es (entry k v more)
behind_behind k v no_entries more = refl
behind_behind k v (entry key old es) more = ap (entry key old) (behind_behind k v es more)

behind_none : (es : MarkedEntries) → behind es no_entries ≡ es
behind_none no_entries = refl
behind_none (entry k v es) = ap (entry k v) (behind_none es)

-- ---- the law, by the tree

-- it is read as a value that is written as the tree
pub record IsSame (n : Node) (t : Tree) (levels : ℕ) : Type 0 where
  pub given : Marked
  pub read : judged_any n ≡ Ok given
  pub spelled : spell (contents given) levels ≡ Ok t

pub record AreSameItems (ns : Nodes) (ts : Trees) (index levels : ℕ) : Type 0 where
  pub given : MarkedItems
  pub read : any_items index ns ≡ Ok given
  pub spelled : spell_items index (item_contents given) levels ≡ Ok ts

pub record AreSameEntries (ns : Nodes) (ps : Pairs) (before : List Utf8) (levels : ℕ) : Type 0 where
  pub given : MarkedEntries
  pub read : (es : MarkedEntries) → HaveKeys es before → any_entries ns es ≡ Ok (behind es given)
  pub spelled : spell_entries (entry_contents given) levels ≡ Ok ps

abbrev pub AtLevel : Tree → ℕ → Type 0
AtLevel t levels = IsSame (tree_node from_input t levels) t levels

items_of : (slice : Whole) (ns : Nodes) (ts : Trees) (m : ℕ) → AreSameItems ns ts 0 m → IsSame (node.array slice ns) (array ts) (suc m)
items_of slice ns ts m h = record { given = value.sequence h.given; read = ap (result_map value.sequence) h.read; spelled = ap (result_map array) h.spelled }

entries_of : (slice : Whole) (ns : Nodes) (ps : Pairs) (m : ℕ) → AreSameEntries ns ps [] m → IsSame (node.document slice ns) (document ps) (suc m)
entries_of slice ns ps m h = record { given = value.map h.given; read = ap (result_map value.map) (h.read no_entries refl); spelled = ap (result_map document) h.spelled }

mutual
  pub same_tree : (t : Tree) (levels : ℕ) → IsItself Any t levels → AtLevel t levels
  same_tree (double b) levels h = record { given = value.double b; read = refl; spelled = refl }
  same_tree (string t) levels h = record { given = str (borrowed t); read = rw h refl; spelled = refl }
  same_tree (document ps) zero h = absurd h
  same_tree (document ps) (suc m) h = entries_of (of_bytes (enc (document ps))) (pair_nodes from_input ps m) ps m (same_pairs ps [] m h tt)
  same_tree (array ts) zero h = absurd h
  same_tree (array ts) (suc m) h = items_of (of_bytes (enc (array ts))) (tree_nodes from_input 0 ts m) ts m (same_trees ts 0 m h)
  same_tree (binary zero b) levels h = record { given = value.bytes (borrowed b); read = refl; spelled = ap (λ c. cond c (Err (here (unwritable (binary_too_long (length (behind_subtype 0 b)))))) (Ok (binary 0 b))) (le-ltb (max_binary 0) (length b) h.1.fits) }
  same_tree (binary (suc n) b) levels h = absurd (omega (arith, h.0))
  same_tree (boolean b) levels h = record { given = value.boolean b; read = refl; spelled = refl }
  same_tree null levels h = record { given = value.unit; read = refl; spelled = refl }
  same_tree (int32 n) levels h = record { given = value.integer value.i32 n; read = refl; spelled = refl }
  same_tree (int64 n) levels h = record { given = value.integer value.i64 n; read = refl; spelled = ap (λ b. cond b (Err (here (unsigned_exceeds n))) (Ok (int64 n))) (wide_small n h) }
  same_tree t levels h = absurd h

  pub same_pairs : (ps : Pairs) (before : List Utf8) (levels : ℕ) → ArePairsThemselves Any ps levels → LacksAll before ps → AreSameEntries (pair_nodes from_input ps levels) ps before levels
  same_pairs no_pairs before levels h lacked = record { given = no_entries; read = λ es keys. ap Ok (sym (behind_none es)); spelled = refl }
  same_pairs (pair key t ps) before levels h lacked =
      let one = same_tree t levels h.4 in
      let rest = same_pairs ps (before ++ key ∷ []) levels h.5 (lacked_rest before key t ps lacked h.3) in
      let ns = pair_nodes from_input ps levels in
      record {
        given = entry (str (borrowed key)) one.given rest.given;
        read = λ es keys.
            ap (λ r. under key r >>= λ v. any_entries ns (put_entry (str (borrowed key)) v es)) one.read
            ∙ ap (any_entries ns) (put_last key t ps one.given es before keys lacked)
            ∙ rest.read (behind es (entry (str (borrowed key)) one.given no_entries)) (keys_last key one.given es before keys)
            ∙ ap Ok (behind_behind (str (borrowed key)) one.given es rest.given);
        spelled = rw (h.1, one.spelled, rest.spelled) refl;
      }

  pub same_trees : (ts : Trees) (index levels : ℕ) → AreTreesThemselves Any ts levels → AreSameItems (tree_nodes from_input index ts levels) ts index levels
  same_trees no_trees i levels h = record { given = no_items; read = refl; spelled = refl }
  same_trees (tree.tree t ts) i levels h =
      let one = same_tree t levels h.0 in
      let rest = same_trees ts (suc i) levels h.1 in
      record { given = item one.given rest.given; read = rw (one.read, rest.read) refl; spelled = rw (one.spelled, rest.spelled) refl }
