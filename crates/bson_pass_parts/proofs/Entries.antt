-- Recasting the entries of a map one by one.
use Rattle.std.proofs.Common.{◌≡◌, ℕ, suc, List, [], ◌∷◌, ◌++◌, true, false, cond, Option, Ok, Bor, refl, ap, sym, subst, ◌∙◌}
use Rattle.std.specs.Str.{bytes_eq}
use Rattle.std.proofs.lemmas.List.{append_assoc, append-nil}
use Rattle.bson_kinds.specs.Text.{Bytes, Utf8, has_zero}
use Rattle.bson_base.specs.Tree as tree
use Rattle.bson_base.specs.Tree.{Tree, Pairs, no_pairs, pair, enc, kind, element, elements, enclosed}
use Rattle.bson_kinds.specs.declared.element_type.ElementType.TheVariants as kinds
use Rattle.bson_kinds.proofs.Tests.{not_taken}
use Rattle.bson_rawdoc.specs.Node.{Node, Nodes, ended, then_node, inner_node, node_in, nodes_with}
use Rattle.bson_kinds.specs.Piece.{borrowed, made}
use Rattle.bson_rawdoc.specs.Walk.{Element, Walk, then_walk, walk}
use Rattle.bson_shape.specs.Form as form
use Rattle.bson_shape.specs.Form.{Form, leaf}
use Rattle.bson_shape.specs.declared.leaf.Leaf.{Leaf}
use Rattle.bson_shape.specs.declared.leaf.Leaf.TheVariants as leaves
use Rattle.bson_values.specs.Marked.{Marked, MarkedEntries, contents, entry_contents}
use Rattle.bson_values.specs.Same.{same}
use Rattle.bson_values.specs.Value as value
use Rattle.bson_values.specs.Value.{str, no_entries, entry}
use Rattle.bson_laws.specs.Containers.{reads_key, reads_entries}
use Rattle.bson_laws.specs.ReadsLeaf.{put_entry}
use Rattle.bson_laws.specs.Spell.{spell, spell_entries}
use Rattle.bson_keys.specs.New.{is_new}
use Rattle.bson_pass_parts.specs.ReadsUnrolled.{reads}
use Rattle.bson_pass_parts.specs.Free.{takes_keys}
use Rattle.bson_pass_parts.specs.Put.{of_writing, recast_node, recast_entries, IsPut, IsElementPut, ArePairsPut}
use Rattle.bson_pass_parts.proofs.Containers.{recast_mapped, pairs_put}
use Rattle.bson_pass_parts.proofs.Places.{read_by}

-- ---- keys

-- a key that is read as a text
record IsKey (key : Leaf) (name : Utf8) : Type 0 where
  pub value : Marked
  pub read : reads_key (leaf key) (borrowed name) ≡ Ok value
  pub text : contents value ≡ str name

key_read : (key : Leaf) (name : Utf8) → takes_keys key ≡ true → IsKey key name
key_read leaves.Str name h = record { value = str (borrowed name); read = refl; text = refl }
key_read leaves.String name h = record { value = str (made name); read = refl; text = refl }
key_read l name h = absurd cc

-- ---- what is written

-- an entry of this key that is written as this element
pub record IsEntry (levels : ℕ) (k v : Marked) (name : Utf8) (bytes : Bytes) : Type 0 where
  pub tree : Tree
  pub text : contents k ≡ str name
  pub spelled : spell (contents v) levels ≡ Ok tree
  pub closed : has_zero name ≡ false
  pub bytes_are : bytes ≡ element (kind tree) name (enc tree)

-- entries of these keys that are written as these bytes
abbrev pub AreEntries : (levels : ℕ) → MarkedEntries → List Utf8 → Bytes → Type 0
AreEntries levels no_entries names bytes = (names ≡ []) × (bytes ≡ [])
AreEntries levels (entry k v es) names bytes =
    (name : Utf8) × (others : List Utf8) × (first : Bytes) × (rest : Bytes) × (names ≡ name ∷ others) × (bytes ≡ first ++ rest) × IsEntry levels k v name first × AreEntries levels es others rest

-- one more, of a new key
entries_more : (levels : ℕ) (k v : Marked) (name : Utf8) (one : Bytes) (es : MarkedEntries) (names : List Utf8) (bytes : Bytes) → IsEntry levels k v name one → is_new name names ≡ true → AreEntries levels es names bytes
    → AreEntries levels (put_entry k v es) (names ++ name ∷ []) (bytes ++ one)
entries_more levels k v name one no_entries names bytes e new h = (name, [], one, [], ap (λ l. l ++ name ∷ []) h.0, ap (λ b. b ++ one) h.1 ∙ sym (append-nil one), e, (refl, refl))
entries_more levels k v name one (entry key old es) names bytes e new h =
    let n = not_taken (bytes_eq name h.0) (is_new name h.1) (ap (is_new name) (sym h.4) ∙ new) in
    let other : same (contents k) (contents key) ≡ false = (λ i. same (e.text i) (h.6.text i)) ∙ n.0 in
    subst (λ c. AreEntries levels (cond c (entry key v es) (entry key old (put_entry k v es))) (names ++ name ∷ []) (bytes ++ one)) (sym other)
    (h.0, h.1 ++ name ∷ [], h.2, h.3 ++ one, ap (λ l. l ++ name ∷ []) h.4, ap (λ b. b ++ one) h.5 ∙ append_assoc h.2 h.3 one, h.6, entries_more levels k v name one es h.1 h.3 e n.1 h.7)

-- the pairs that entries are written as
entries_spelled : (levels : ℕ) (es : MarkedEntries) (names : List Utf8) (bytes : Bytes) → AreEntries levels es names bytes → (ps : Pairs) × (spell_entries (entry_contents es) levels ≡ Ok ps) × (bytes ≡ elements ps)
entries_spelled levels no_entries names bytes h = (no_pairs, refl, h.1)
entries_spelled levels (entry k v es) names bytes h =
    let e = h.6 in
    let rest = entries_spelled levels es h.1 h.3 h.7 in
    (pair h.0 e.tree rest.0, rw (e.text, e.closed, e.spelled, rest.1) refl, h.5 ∙ ap (λ b. b ++ h.3) e.bytes_are ∙ ap (λ b. element (kind e.tree) h.0 (enc e.tree) ++ b) rest.2)

-- ---- steps

-- The elements up to a place were written as entries of these keys: what is left of the document is put to them, and these bytes were appended.
pub record AreEntriesPut (key : Leaf) (s : Form) (levels : ℕ) (whole : Option Pairs) (ns : Nodes) (names : List Utf8) (old made : Bytes) : Type 0 where
  pub before : MarkedEntries
  pub bytes : Bytes
  pub left : whole ≡ recast_entries key s before levels ns
  pub written : AreEntries levels before names bytes
  pub put : made ≡ old ++ bytes

entry_read : (key : Leaf) (s : Form) (levels : ℕ) (before : MarkedEntries) (name : Utf8) (n : Node) (ns : Nodes) (k v : Marked) → reads_key (leaf key) (borrowed name) ≡ Ok k → reads s n ≡ Ok v
    → recast_entries key s before levels (then_node (borrowed name) n ns) ≡ recast_entries key s (put_entry k v before) levels ns
entry_read key s levels before name n ns k v is read = rw (is, read) refl

-- an element of a new key was put
pub entry_step : (key : Leaf) (s : Form) (levels : ℕ) (whole : Option Pairs) (names : List Utf8) (name : Bor Utf8) (old_walk new_walk : Walk) (e : Element) (old made new : Bytes) → takes_keys key ≡ true → old_walk ≡ then_walk e new_walk
    → AreEntriesPut key s levels whole (nodes_with (node_in levels) old_walk) names old made → name.now ≡ e.key → is_new name.now names ≡ true → has_zero name.now ≡ false
    → IsElementPut (recast_node s levels (node_in levels e.kind e.value)) name.now made new → AreEntriesPut key s levels whole (nodes_with (node_in levels) new_walk) (names ++ name.now ∷ []) old new
entry_step key s levels whole names name old_walk new_walk e old made new takes step p key_is new_key closed h =
    let n = node_in levels e.kind e.value in
    let ns = nodes_with (node_in levels) new_walk in
    let q = read_by levels name.now made new (reads s n) h in
    let k = key_read key name.now takes in
    let el = element (kind q.1) name.now (enc q.1) in
    record {
      before = put_entry k.value q.0 p.before;
      bytes = p.bytes ++ el;
      left = p.left
          ∙ ap (λ w. recast_entries key s p.before levels (nodes_with (node_in levels) w)) step
          ∙ ap (λ b. recast_entries key s p.before levels (then_node (borrowed b) n ns)) (sym key_is)
          ∙ entry_read key s levels p.before name.now n ns k.value q.0 k.read q.2;
      written =
          (entries_more levels k.value q.0 name.now el p.before names p.bytes (record { tree = q.1; text = k.text; spelled = q.3; closed = closed; bytes_are = refl }) new_key p.written);
      put = q.4 ∙ ap (λ b. b ++ el) p.put ∙ append_assoc old p.bytes el;
    }

-- no element is left
pub entries_end : (key : Leaf) (s : Form) (levels : ℕ) (whole : Option Pairs) (names : List Utf8) (old made : Bytes) → AreEntriesPut key s levels whole ended names old made → ArePairsPut whole old made
entries_end key s levels whole names old made p =
    let all = entries_spelled levels p.before names p.bytes p.written in
    subst (λ (o : Option Pairs). ArePairsPut o old made) (sym (p.left ∙ ap of_writing all.1)) (p.put ∙ ap (λ b. old ++ b) all.2)

-- ---- the whole document

pub map_put : (key : Leaf) (s : Form) (levels m : ℕ) (b old begun filled new : Bytes) → levels ≡ suc m → ((b : Bytes) → filled ≡ begun ++ b → new ≡ old ++ enclosed b)
    → ArePairsPut (recast_entries key s no_entries m (nodes_with (node_in m) (walk b))) begun filled → IsPut (recast_node (form.map (leaf key) s) levels (inner_node levels kinds.EmbeddedDocument b)) old new kinds.EmbeddedDocument
map_put key s levels m b old begun filled new e wraps h =
    pairs_put (form.map (leaf key) s) (recast_entries key s no_entries m (nodes_with (node_in m) (walk b))) levels m b old begun filled new
    (recast_mapped (λ v. spell (contents v) (suc m)) value.map (λ es. spell_entries (entry_contents es) m) tree.document (reads_entries (reads_key (leaf key)) (reads s) (nodes_with (node_in m) (walk b)) no_entries) (λ es. refl)) e wraps h
