-- What a clean tree is without a shape is read from it.
use Rattle.std.proofs.Common.{◌≡◌, ℕ, zero, suc, ◌≤◌, Option, Some, Ok, refl, ap, sym, ◌∙◌, arith}
use Rattle.std.specs.Prelude.{option_map, option_and_then}
use Rattle.bson_kinds.specs.Text.{Utf8}
use Rattle.bson_kinds.specs.Outcome.{◌>>=◌, result_map}
use Rattle.bson_base.specs.Sound.{IsClean}
use Rattle.bson_base.specs.Tree.{Tree, double, string, document, array, binary, boolean, null, javascript_code_with_scope, int32, int64, Pairs, no_pairs, pair, Trees, no_trees, tree, depth}
use Rattle.bson_kinds.proofs.Outcomes.{some_is, some_map}
use Rattle.bson_rawdoc.specs.Node as node
use Rattle.bson_rawdoc.specs.Node.{Sight, piece, Node, Nodes, tree_node, pair_nodes, tree_nodes}
use Rattle.bson_kinds.specs.Piece.{Piece}
use Rattle.bson_values.specs.Value as value
use Rattle.bson_values.specs.Value.{i32, i64, Value, item, no_entries, entry}
use Rattle.bson_values.specs.Marked.{Marked, MarkedEntries, contents}
use Rattle.bson_values.specs.Refusal.{under, under_index}
use Rattle.bson_laws.specs.Judged.{Reading, judged}
use Rattle.bson_laws.specs.Taken.{owned_under_mark}
use Rattle.bson_laws.specs.ReadsLeaf.{put_entry, read_any, any_items, any_entries}
use Rattle.bson_laws.specs.Containers.{reads_items, reads_entries}
use Rattle.bson_laws.specs.Views.{views_any, views_any_items, views_any_entries, views_items, views_entries}
use Rattle.bson_laws.proofs.Judged.{ReadAs, judged_again}
use Rattle.bson_laws.proofs.Borrowed.{owned_same}
use Rattle.bson_laws.proofs.Items.{ReadsBack, items_again}
use Rattle.bson_laws.proofs.Entries.{new_first, entries_again}
use Rattle.bson_kinds.proofs.Apart.{no_some}

-- ---- items and entries, each of them viewed and read without a shape

abbrev view_text : Utf8 → Option Value
view_text key = Some (value.str key)

viewed_items : (ts : Trees) → views_any_items ts ≡ views_items views_any ts
viewed_items no_trees = refl
viewed_items (tree t ts) = ap (λ o. option_and_then (λ v. option_map (item v) o) (views_any t)) (viewed_items ts)

viewed_entries : (ps : Pairs) → views_any_entries ps ≡ views_entries view_text views_any ps
viewed_entries no_pairs = refl
viewed_entries (pair key t ps) = ap (λ o. option_and_then (λ v. option_map (entry (value.str key) v) o) (views_any t)) (viewed_entries ps)

-- a value, judged and read without a shape
abbrev pub reads_any : Node → Reading Marked
reads_any n = judged n >>= λ _. read_any n

abbrev pub key_text : Piece → Reading Marked
key_text key = Ok (value.str key)

pub items_any : (i : ℕ) (ns : Nodes) → any_items i ns ≡ reads_items reads_any i ns
items_any i node.ended = refl
items_any i (node.faulty e) = refl
items_any i (node.then_node key n ns) = ap (λ r. under_index i (reads_any n) >>= λ v. result_map (item v) r) (items_any (suc i) ns)

pub entries_any : (ns : Nodes) (es : MarkedEntries) → any_entries ns es ≡ reads_entries key_text reads_any ns es
entries_any node.ended es = refl
entries_any (node.faulty e) es = refl
entries_any (node.then_node key n ns) es = λ i. under key.bytes (reads_any n) >>= λ v. entries_any ns (put_entry (value.str key) v es) i

-- ---- values

-- a tree that holds no value is read
flat_again : (at : Sight) (t : Tree) (v : Value) (levels : ℕ) → depth t ≤ 0 → views_any t ≡ Some v → ReadAs contents (read_any (tree_node at t levels)) v
flat_again at (boolean x) v levels d e = (value.boolean x, refl, some_is (value.boolean x) v e)
flat_again at (int32 n) v levels d e = (value.integer i32 n, refl, some_is (value.integer i32 n) v e)
flat_again at (int64 n) v levels d e = (value.integer i64 n, refl, some_is (value.integer i64 n) v e)
flat_again at (double bits) v levels d e = (value.double bits, refl, some_is (value.double bits) v e)
flat_again at (string t) v levels d e = (value.str (piece at.texts t), refl, some_is (value.str t) v e)
flat_again at (binary zero bs) v levels d e = (value.bytes (owned_under_mark at.under_mark (piece at.bytes bs)), refl, ap value.bytes (owned_same at.under_mark (piece at.bytes bs)) ∙ some_is (value.bytes bs) v e)
flat_again at null v levels d e = (value.unit, refl, some_is value.unit v e)
flat_again at (array ts) v levels d e = absurd (omega arith)
flat_again at (document ps) v levels d e = absurd (omega arith)
flat_again at t v levels d e = absurd (no_some e)

pub any_again : (at : Sight) (levels : ℕ) (t : Tree) (v : Value) → IsClean t → depth t ≤ levels → views_any t ≡ Some v → ReadAs contents (read_any (tree_node at t levels)) v
any_again at zero t v c d e = flat_again at t v zero d e
any_again at (suc n) (array ts) v c d e =
    let m = some_map value.sequence (views_any_items ts) v e in
    let each : ReadsBack at views_any reads_any n = λ u w c' d' h. let r = any_again at n u w c' d' h in (r.0, ap (λ x. x >>= λ _. read_any (tree_node at u n)) (judged_again at u n c' d') ∙ r.1, r.2) in
    let h = items_again at views_any reads_any n each 0 ts m.0 c (omega arith) (sym (viewed_items ts) ∙ m.1) in
    (value.sequence h.0, ap (result_map value.sequence) (items_any 0 (tree_nodes at 0 ts n) ∙ h.1), ap value.sequence h.2 ∙ m.2)
any_again at (suc n) (document ps) v c d e =
    let m = some_map value.map (views_any_entries ps) v e in
    let each : ReadsBack at views_any reads_any n = λ u w c' d' h. let r = any_again at n u w c' d' h in (r.0, ap (λ x. x >>= λ _. read_any (tree_node at u n)) (judged_again at u n c' d') ∙ r.1, r.2) in
    let h = entries_again at value.str (λ a b. refl) view_text key_text views_any reads_any n (λ key k is. (sym (some_is (value.str key) k is), (value.str (piece at.texts key), refl, refl))) each ps no_entries m.0 c (omega arith) (new_first value.str ps) (sym (viewed_entries ps) ∙ m.1) in
    (value.map h.0, ap (result_map value.map) (entries_any (pair_nodes at ps n) no_entries ∙ h.1), ap value.map h.2 ∙ m.2)
any_again at (suc n) (javascript_code_with_scope code scope) v c d e = absurd (no_some e)
any_again at (suc n) t v c d e = flat_again at t v (suc n) (omega arith) e
