-- What is read as a tree after one change of the pieces of a value is read as it after another; and so what is read at every form.
use Rattle.std.proofs.Common.{◌≡◌, ℕ, suc, Bool, true, false, cond, Option, Some, None, Ok, refl, ap, sym, subst, ◌∙◌}
use Rattle.std.specs.Prelude.{unsigned_abs, codes, option_map, option_and_then}
use Rattle.std.specs.Str.{bytes_eq}
use Rattle.uuid.specs.Text.{parsed}
use Rattle.bson_dates.specs.DateText.{date_of_text}
use Rattle.bson_kinds.specs.Outcome.{◌>>=◌, result_map}
use Rattle.bson_base.specs.Pairs.{put}
use Rattle.bson_base.specs.Parsed.{bytes_of_digits, integer_of_text}
use Rattle.bson_base.specs.Sorted.{sorted}
use Rattle.bson_kinds.specs.Text.{Bytes, Utf8}
use Rattle.bson_base.specs.Tree as tree
use Rattle.bson_base.specs.Tree.{Tree, Pairs, no_pairs, Trees}
use Rattle.bson_kinds.specs.declared.element_type.ElementType.TheVariants as kinds
use Rattle.bson_kinds.proofs.Outcomes.{map_ok, bind_ok}
use Rattle.bson_rawdoc.specs.Node as node
use Rattle.bson_rawdoc.specs.Node.{Node, Extended, Nodes, ended, faulty, then_node, text_fault, fault, extended_fault, mended}
use Rattle.bson_kinds.specs.Piece.{Piece, made}
use Rattle.bson_shape.specs.Form.{Form, leaf}
use Rattle.bson_shape.specs.declared.leaf.Leaf.TheVariants as leaves
use Rattle.bson_values.specs.Cause.{unknown_field}
use Rattle.bson_values.specs.Marked.{Marked, contents}
use Rattle.bson_values.specs.Refusal.{at_index, under, under_index}
use Rattle.bson_values.specs.Value.{Value}
use Rattle.bson_values.specs.Wrapper.{of_key}
use Rattle.bson_values.specs.declared.wrapper.Wrapper.{Wrapper}
use Rattle.bson_values.specs.declared.wrapper.Wrapper.TheVariants as wrappers
use Rattle.bson_laws.specs.Datum.{datum, uuid_datum}
use Rattle.bson_laws.specs.Leaves as leaf_kinds
use Rattle.bson_laws.specs.Leaves.{ExtendedLeaf, object_ids, uuids, of_kind, documents}
use Rattle.bson_laws.specs.Judged.{Reading, refused, judged, scope_key}
use Rattle.bson_laws.specs.Owned.{IsOwned}
use Rattle.bson_laws.specs.ReadsExtended.{tree_of_kind, object_id_at, or_bad_uuid, uuid_in, uuid_at, read_extended}
use Rattle.bson_laws.specs.ReadsLeaf.{no_extended}
use Rattle.bson_laws.specs.Shaped.{reads}
use Rattle.bson_laws.specs.Taken.{text_of}
use Rattle.bson_laws.specs.Trees.{code_key, or_bad, pairs_in, by_meaning, by_key, after_scope, as_tree, extended_tree, array_trees, document_tree, after_code}
use Rattle.bson_laws.specs.Wrapped.{id_of_text, text_at, text_body, int32_of, double_of_text, binary_of_texts, of_length, Body, at, text, with_field, with_fields, a_text, a_number, a_boolean, some_bytes, a_field, two_fields, two_texts, two_numbers, oid_body, date_body, judging, tree_if, being_one, Meaning, body, code, scope, meaning}
use Rattle.bson_values.specs.declared.wrapper.Wrapper.TheVariants.{Oid}
use Rattle.bson_laws.proofs.Changed as changes
use Rattle.bson_laws.proofs.Changed.{Follows, neither, read_after, then_after, text_after, text_same}
use Rattle.bson_laws.proofs.ChangedNodes.{Change, changed, changed_value, changed_nodes, bare, as_it_is, changed_same, mended_bare}
use Rattle.bson_laws.proofs.Judged.{ReadAs}
use Rattle.bson_laws.proofs.Sizes.{inside_ok, under_ok}
use Rattle.bson_kinds.proofs.Apart.{no_ok}

module _ (a b : Change) (is_bare : Bool) (f : Follows a b is_bare) where
  abbrev before : Node → Node
  before = changed a

  abbrev nodes_before : Nodes → Nodes
  nodes_before = changed_nodes a

  abbrev after : Node → Node
  after = changed b

  abbrev nodes_after : Nodes → Nodes
  nodes_after = changed_nodes b

  -- the value has no fault of its own after the first change
  abbrev IsWhole : Node → Type 0
  IsWhole n = fault (before n) ≡ None

  same : (t : Piece) → text_fault (a.text t) ≡ None → (b.text t).bytes ≡ (a.text t).bytes
  same = text_same a b is_bare f

  read_judged : {A : Type 0} (n : Node) (read : Node → Reading A) (x : A) → (judged (before n) >>= read) ≡ Ok x → IsWhole n × (judged (after n) ≡ Ok (after n)) × (read (before n) ≡ Ok x)
  read_judged n read x e = read_after a b is_bare f n read x e

  then_judged : {A : Type 0} (n : Node) (r : Reading A) (x : A) → (judged (before n) >>= λ _. r) ≡ Ok x → IsWhole n × (judged (after n) ≡ Ok (after n)) × (r ≡ Ok x)
  then_judged n r x e = then_after a b is_bare f n r x e

  -- ---- the bodies of wrapper keys

  body_after : (s : Form) → IsOwned s → (n : Node) (m : Marked) → reads no_extended s (before n) ≡ Ok m → ReadAs contents (reads no_extended s (after n)) (contents m)
  body_after s owned = changes.reads_after a b is_bare f no_extended (λ k n m w e. absurd cc) s (λ o. owned)

  -- a body that is read so
  abbrev IsAfter : Body → Type 0
  IsAfter r = (n : Node) (o : Option Tree) → r (before n) ≡ Ok o → r (after n) ≡ Ok o

  at_after : (s : Form) (make : Value → Option Tree) → IsOwned s → IsAfter (at s make)
  at_after s make owned n o e =
      let m = map_ok (λ (v : Marked). make (contents v)) (reads no_extended s (before n)) o e in
      let h = body_after s owned n m.0 m.1 in
      ap (result_map (λ v. make (contents v))) h.1 ∙ ap (λ x. Ok (make x)) h.2 ∙ ap Ok m.2

  id_after : IsAfter (judging oid_body)
  id_after n o e = let j = read_judged n oid_body o e in ap (λ r. r >>= oid_body) j.1 ∙ by_kind n j.0 j.2 where
    by_kind : (m : Node) → IsWhole m → oid_body (before m) ≡ Ok o → oid_body (after m) ≡ Ok o
    by_kind (node.string t) w q = ap (λ x. Ok (id_of_text x)) (same t w) ∙ q
    by_kind (node.bytes u x) w q = q
    by_kind m w q = absurd (no_ok q)

  date_after : IsAfter (judging date_body)
  date_after n o e = let j = read_judged n date_body o e in ap (λ r. r >>= date_body) j.1 ∙ by_kind n j.0 j.2 where
    by_kind : (m : Node) → IsWhole m → date_body (before m) ≡ Ok o → date_body (after m) ≡ Ok o
    by_kind (node.string t) w q = ap (λ x. Ok (option_map tree.date_time (date_of_text x))) (same t w) ∙ q
    by_kind m w q = at_after (with_field (codes "$numberLong") text) (a_field (a_text (λ t. option_map tree.date_time (integer_of_text t)))) (tt, tt) m o q

  text_at_after : (n : Node) (x : Utf8) → text_at (before n) ≡ Ok x → text_at (after n) ≡ Ok x
  text_at_after n x e =
      let m = map_ok (λ (t : Piece). t.bytes) (judged (before n) >>= text_of false) x e in
      let j = read_judged n (text_of false) m.0 m.1 in
      let h = text_after a b is_bare f false n m.0 (λ o. tt) j.0 j.2 in
      ap (λ r. result_map (λ (t : Piece). t.bytes) (r >>= text_of false)) j.1 ∙ ap (result_map (λ (t : Piece). t.bytes)) h.1 ∙ ap Ok (h.2 ∙ m.2)

  text_body_after : (make : Utf8 → Option Tree) → IsAfter (text_body make)
  text_body_after make n o e = let m = map_ok make (text_at (before n)) o e in ap (result_map make) (text_at_after n m.0 m.1) ∙ ap Ok m.2

  abbrev IsMeaningAfter : Meaning → Type 0
  IsMeaningAfter (body r) = IsAfter r
  IsMeaningAfter m = Unit {0}

  wrapper_after : (w : Wrapper) → IsMeaningAfter (meaning w)
  wrapper_after wrappers.Oid = id_after
  wrapper_after wrappers.Symbol = text_body_after (λ t. Some (tree.symbol t))
  wrapper_after wrappers.NumberInt = text_body_after (λ t. option_and_then int32_of (integer_of_text t))
  wrapper_after wrappers.NumberLong = text_body_after (λ t. option_map tree.int64 (integer_of_text t))
  wrapper_after wrappers.NumberDouble = text_body_after double_of_text
  wrapper_after wrappers.Binary = at_after (with_fields (codes "base64") text (codes "subType") text) (two_texts binary_of_texts) (tt, (tt, tt))
  wrapper_after wrappers.Uuid = text_body_after (λ t. option_map (tree.binary 4) (parsed t))
  wrapper_after wrappers.Code = tt
  wrapper_after wrappers.Scope = tt
  wrapper_after wrappers.Timestamp = at_after (with_fields (codes "t") (leaf leaves.U32) (codes "i") (leaf leaves.U32)) (two_numbers (λ t i. Some (tree.timestamp (unsigned_abs t) (unsigned_abs i)))) (tt, (tt, tt))
  wrapper_after wrappers.RegularExpression = at_after (with_fields (codes "pattern") text (codes "options") text) (two_texts (λ p q. Some (tree.regular_expression p (sorted q)))) (tt, (tt, tt))
  wrapper_after wrappers.DbPointer =
      at_after (with_fields (codes "$ref") text (codes "$id") (with_field (codes "$oid") text)) (two_fields (λ v w. a_text (λ t. a_field (a_text (λ id. option_map (tree.db_pointer t) (bytes_of_digits 12 id))) w) v)) (tt, ((tt, tt), tt))
  wrapper_after wrappers.Date = date_after
  wrapper_after wrappers.MinKey = at_after (leaf leaves.U8) (a_number (being_one tree.min_key)) tt
  wrapper_after wrappers.MaxKey = at_after (leaf leaves.U8) (a_number (being_one tree.max_key)) tt
  wrapper_after wrappers.Undefined = at_after (leaf leaves.Bool) (a_boolean (λ x. tree_if x tree.undefined)) tt
  wrapper_after wrappers.NumberDecimal = text_body_after (λ t. None)
  wrapper_after wrappers.NumberDecimalBytes = at_after (leaf leaves.ByteBuf) (some_bytes (of_length 16 tree.decimal128)) tt

  -- ---- what is behind a scope

  scope_code : (key : Utf8) (c : Bool) (n : Node) (ps : Pairs) (t : Tree)
      → cond c (result_map (λ x. tree.javascript_code_with_scope x ps) (under key (text_at (before n)))) (refused (unknown_field key)) ≡ Ok t
      → cond c (result_map (λ x. tree.javascript_code_with_scope x ps) (under key (text_at (after n)))) (refused (unknown_field key)) ≡ Ok t
  scope_code key true n ps t e =
      let m = map_ok (λ x. tree.javascript_code_with_scope x ps) (under key (text_at (before n))) t e in
      ap (λ r. result_map (λ x. tree.javascript_code_with_scope x ps) (under key r)) (text_at_after n m.0 (under_ok key (text_at (before n)) m.0 m.1)) ∙ ap Ok m.2
  scope_code key false n ps t e = absurd (no_ok e)

  after_scope_after : (ps : Pairs) (ns : Nodes) (t : Tree) → after_scope ps (nodes_before ns) ≡ Ok t → after_scope ps (nodes_after ns) ≡ Ok t
  after_scope_after ps ended t e = absurd (no_ok e)
  after_scope_after ps (faulty g) t e = absurd (no_ok e)
  after_scope_after ps (then_node key n ns) t e = scope_code key.bytes (bytes_eq key.bytes code_key) n ps t e

  -- ---- trees

  abbrev value_of : Node → Reading Tree
  value_of n = judged n >>= λ _. as_tree n

  abbrev IsValueAfter : Node → Type 0
  IsValueAfter n = (t : Tree) → value_of (before n) ≡ Ok t → value_of (after n) ≡ Ok t

  value_after : (n : Node) → ((t : Tree) → IsWhole n → as_tree (before n) ≡ Ok t → as_tree (after n) ≡ Ok t) → IsValueAfter n
  value_after n h t e = let j = then_judged n (as_tree (before n)) t e in ap (λ r. r >>= λ _. as_tree (after n)) j.1 ∙ h t j.0 j.2

  meant_after : (w : Wrapper) (m : Meaning) (key : Utf8) (n : Node) (x y : Utf8 → Reading Tree) (ns : Nodes) (t : Tree) → IsMeaningAfter m → IsValueAfter n → ((u : Utf8) → x u ≡ Ok t → y u ≡ Ok t)
      → by_meaning w m key (before n) (value_of (before n)) x (λ qs. after_scope qs (nodes_before ns)) ≡ Ok t → by_meaning w m key (after n) (value_of (after n)) y (λ qs. after_scope qs (nodes_after ns)) ≡ Ok t
  meant_after w (body r) key n x y ns t is each coded e =
      let d = bind_ok (r (before n)) (or_bad w) t (under_ok key (r (before n) >>= or_bad w) t e) in
      ap (λ q. under key (q >>= or_bad w)) (is n d.0 d.1) ∙ ap (under key) d.2
  meant_after w code key n x y ns t is each coded e =
      let d = bind_ok (under key (text_at (before n))) x t e in
      ap (λ r. under key r >>= y) (text_at_after n d.0 (under_ok key (text_at (before n)) d.0 d.1)) ∙ coded d.0 d.2
  meant_after w scope key n x y ns t is each coded e =
      let d = bind_ok (under key (value_of (before n) >>= pairs_in)) (λ qs. after_scope qs (nodes_before ns)) t e in
      let c = bind_ok (value_of (before n)) pairs_in d.0 (under_ok key (value_of (before n) >>= pairs_in) d.0 d.1) in
      ap (λ r. under key (r >>= pairs_in) >>= λ qs. after_scope qs (nodes_after ns)) (each c.0 c.1) ∙ ap (λ r. under key r >>= λ qs. after_scope qs (nodes_after ns)) c.2 ∙ after_scope_after d.0 ns t d.2

  keyed_after : (o : Option Wrapper) (key : Utf8) (n : Node) (g h : Tree → Reading Tree) (x y : Utf8 → Reading Tree) (ns : Nodes) (t : Tree) → IsValueAfter n
      → ((u : Tree) → g u ≡ Ok t → h u ≡ Ok t) → ((u : Utf8) → x u ≡ Ok t → y u ≡ Ok t)
      → by_key o key (before n) (value_of (before n)) g x (λ qs. after_scope qs (nodes_before ns)) ≡ Ok t → by_key o key (after n) (value_of (after n)) h y (λ qs. after_scope qs (nodes_after ns)) ≡ Ok t
  keyed_after None key n g h x y ns t each rest coded e =
      let d = bind_ok (under key (value_of (before n))) g t e in
      ap (λ r. under key r >>= h) (each d.0 (under_ok key (value_of (before n)) d.0 d.1)) ∙ rest d.0 d.2
  keyed_after (Some w) key n g h x y ns t each rest coded e = meant_after w (meaning w) key n x y ns t (wrapper_after w) each coded e

  code_scope : (c : Bool) (key x : Utf8) (n : Node) (t : Tree) → IsValueAfter n
      → cond c (result_map (tree.javascript_code_with_scope x) (under key (value_of (before n) >>= pairs_in))) (refused (unknown_field key)) ≡ Ok t
      → cond c (result_map (tree.javascript_code_with_scope x) (under key (value_of (after n) >>= pairs_in))) (refused (unknown_field key)) ≡ Ok t
  code_scope true key x n t each e =
      let m = map_ok (tree.javascript_code_with_scope x) (under key (value_of (before n) >>= pairs_in)) t e in
      let d = bind_ok (value_of (before n)) pairs_in m.0 (under_ok key (value_of (before n) >>= pairs_in) m.0 m.1) in
      ap (λ r. result_map (tree.javascript_code_with_scope x) (under key (r >>= pairs_in))) (each d.0 d.1) ∙ ap (λ r. result_map (tree.javascript_code_with_scope x) (under key r)) d.2 ∙ ap Ok m.2
  code_scope false key x n t each e = absurd (no_ok e)

  mutual
    pub as_tree_after : (n : Node) (t : Tree) → IsWhole n → as_tree (before n) ≡ Ok t → as_tree (after n) ≡ Ok t
    as_tree_after (node.string p) t w e = ap (λ x. Ok (tree.string x)) (same p w) ∙ e
    as_tree_after (node.document slice ns) t w e = pairs_after ns no_pairs t e
    as_tree_after (node.array slice ns) t w e = let m = map_ok tree.array (array_trees 0 (nodes_before ns)) t e in ap (result_map tree.array) (items_after 0 ns m.0 m.1) ∙ ap Ok m.2
    as_tree_after (node.extended x ns) t w e = extended_tree_after x t w e
    as_tree_after n t w e = e

    extended_tree_after : (x : Extended) (t : Tree) → extended_fault (changed_value a x) ≡ None → extended_tree (changed_value a x) ≡ Ok t → extended_tree (changed_value b x) ≡ Ok t
    extended_tree_after (node.regular_expression p q) t w e =
        let two = neither (text_fault (a.text p)) (text_fault (a.text q)) w in
        (λ i. Ok (tree.regular_expression (same p two.0 i) (sorted (same q two.1 i)))) ∙ e
    extended_tree_after (node.db_pointer p id) t w e = ap (λ x. Ok (tree.db_pointer x id)) (same p w) ∙ e
    extended_tree_after (node.javascript_code p) t w e = ap (λ x. Ok (tree.javascript_code x)) (same p w) ∙ e
    extended_tree_after (node.symbol p) t w e = ap (λ x. Ok (tree.symbol x)) (same p w) ∙ e
    extended_tree_after (node.javascript_code_with_scope p n) t w e =
        let two = neither (text_fault (a.text p)) (fault (before n)) w in
        let make = λ (x : Utf8). tree.javascript_code_with_scope x in
        let m = map_ok (make (a.text p).bytes) (under scope_key (value_of (before n) >>= pairs_in)) t e in
        let d = bind_ok (value_of (before n)) pairs_in m.0 (under_ok scope_key (value_of (before n) >>= pairs_in) m.0 m.1) in
        ap (λ r. result_map (make (b.text p).bytes) (under scope_key (r >>= pairs_in))) (value_after n (λ u v q. as_tree_after n u v q) d.0 d.1)
        ∙ ap (λ r. result_map (make (b.text p).bytes) (under scope_key r)) d.2
        ∙ ap (λ x. Ok (make x m.0)) (same p two.0)
        ∙ ap Ok m.2
    extended_tree_after x t w e = e

    items_after : (i : ℕ) (ns : Nodes) (ts : Trees) → array_trees i (nodes_before ns) ≡ Ok ts → array_trees i (nodes_after ns) ≡ Ok ts
    items_after i ended ts e = e
    items_after i (faulty g) ts e = absurd (no_ok e)
    items_after i (then_node key n ns) ts e =
        let d = bind_ok (under_index i (value_of (before n))) (λ t. result_map (tree.tree t) (array_trees (suc i) (nodes_before ns))) ts e in
        let m = map_ok (tree.tree d.0) (array_trees (suc i) (nodes_before ns)) ts d.2 in
        ap (λ r. under_index i r >>= λ t. result_map (tree.tree t) (array_trees (suc i) (nodes_after ns))) (value_after n (λ u v q. as_tree_after n u v q) d.0 (inside_ok (at_index i) (value_of (before n)) d.0 d.1))
        ∙ ap (result_map (tree.tree d.0)) (items_after (suc i) ns m.0 m.1)
        ∙ ap Ok m.2

    pairs_after : (ns : Nodes) (ps : Pairs) (t : Tree) → document_tree (nodes_before ns) ps ≡ Ok t → document_tree (nodes_after ns) ps ≡ Ok t
    pairs_after ended ps t e = e
    pairs_after (faulty g) ps t e = absurd (no_ok e)
    pairs_after (then_node key n ns) ps t e =
        keyed_after (of_key key.bytes) key.bytes n (λ u. document_tree (nodes_before ns) (put key.bytes u ps)) (λ u. document_tree (nodes_after ns) (put key.bytes u ps)) (λ x. after_code x (nodes_before ns)) (λ x. after_code x (nodes_after ns)) ns t
        (value_after n (λ u v q. as_tree_after n u v q)) (λ u q. pairs_after ns (put key.bytes u ps) t q) (λ x q. code_after x ns t q) e

    code_after : (x : Utf8) (ns : Nodes) (t : Tree) → after_code x (nodes_before ns) ≡ Ok t → after_code x (nodes_after ns) ≡ Ok t
    code_after x ended t e = e
    code_after x (faulty g) t e = absurd (no_ok e)
    code_after x (then_node key n ns) t e = code_scope (bytes_eq key.bytes scope_key) key.bytes x n t (value_after n (λ u v q. as_tree_after n u v q)) e

  -- ---- at leaves and shapes

  id_at_after : (n : Node) (t : Tree) → IsWhole n → object_id_at (before n) ≡ Ok t → object_id_at (after n) ≡ Ok t
  id_at_after (node.extended (node.object_id id) ns) t w e = e
  id_at_after (node.string p) t w e = ap (λ x. or_bad Oid (id_of_text x)) (same p w) ∙ e
  id_at_after (node.bytes u x) t w e = e
  id_at_after (node.document slice ns) t w e =
      let d = bind_ok (as_tree (before (node.document slice ns))) (tree_of_kind kinds.ObjectId) t e in ap (λ r. r >>= tree_of_kind kinds.ObjectId) (as_tree_after (node.document slice ns) d.0 w d.1) ∙ d.2
  id_at_after n t w e = absurd (no_ok e)

  uuid_at_after : (n : Node) (x : Bytes) → IsWhole n → uuid_at (before n) ≡ Ok x → uuid_at (after n) ≡ Ok x
  uuid_at_after (node.extended (node.binary s y) ns) x w e = e
  uuid_at_after (node.string p) x w e = ap (λ t. or_bad_uuid (parsed t)) (same p w) ∙ e
  uuid_at_after (node.document slice ns) x w e =
      let d = bind_ok (as_tree (before (node.document slice ns))) uuid_in x e in ap (λ r. r >>= uuid_in) (as_tree_after (node.document slice ns) d.0 w d.1) ∙ d.2
  uuid_at_after n x w e = absurd (no_ok e)

  extended_after : (k : ExtendedLeaf) (n : Node) (m : Marked) → IsWhole n → read_extended k (before n) ≡ Ok m → read_extended k (after n) ≡ Ok m
  extended_after object_ids n m w e = let r = map_ok (datum made) (object_id_at (before n)) m e in ap (result_map (datum made)) (id_at_after n r.0 w r.1) ∙ ap Ok r.2
  extended_after uuids n m w e = let r = map_ok (uuid_datum made) (uuid_at (before n)) m e in ap (result_map (uuid_datum made)) (uuid_at_after n r.0 w r.1) ∙ ap Ok r.2
  extended_after (of_kind k) n m w e =
      let r = map_ok (datum made) (as_tree (before n) >>= tree_of_kind k) m e in
      let d = bind_ok (as_tree (before n)) (tree_of_kind k) r.0 r.1 in
      ap (λ q. result_map (datum made) (q >>= tree_of_kind k)) (as_tree_after n d.0 w d.1) ∙ ap (result_map (datum made)) d.2 ∙ ap Ok r.2
  extended_after leaf_kinds.trees n m w e = let r = map_ok (datum made) (as_tree (before n)) m e in ap (result_map (datum made)) (as_tree_after n r.0 w r.1) ∙ ap Ok r.2
  extended_after documents n m w e =
      let r = map_ok (λ ps. datum made (tree.document ps)) (as_tree (before n) >>= pairs_in) m e in
      let d = bind_ok (as_tree (before n)) pairs_in r.0 r.1 in
      ap (λ q. result_map (λ ps. datum made (tree.document ps)) (q >>= pairs_in)) (as_tree_after n d.0 w d.1) ∙ ap (result_map (λ ps. datum made (tree.document ps))) d.2 ∙ ap Ok r.2

  pub reads_after : (s : Form) → (is_bare ≡ false → IsOwned s) → (n : Node) (m : Marked) → reads read_extended s (before n) ≡ Ok m → ReadAs contents (reads read_extended s (after n)) (contents m)
  reads_after = changes.reads_after a b is_bare f read_extended (λ k n m w e. (m, extended_after k n m w e, refl))

-- ---- what is read where nothing is in the input

bare_follows : Follows bare as_it_is true
bare_follows = record {
  texts = λ t e. refl;
  no_text = λ o t. refl;
  no_key = λ o k. refl;
  no_bytes = λ o x. refl;
  slices = λ s p e. absurd cc;
  mends = mended_bare;
  mends_then = λ n. changed_same (mended n) ∙ ap mended (sym (changed_same n));
}

-- is read from the input too: marks say only what is borrowed
pub reads_bare : (s : Form) (n : Node) (m : Marked) → reads read_extended s (changed bare n) ≡ Ok m → ReadAs contents (reads read_extended s n) (contents m)
reads_bare s n m e =
    subst (λ k. ReadAs contents (reads read_extended s k) (contents m)) (changed_same n) (reads_after bare as_it_is true bare_follows s (λ o. absurd cc) n m e)

pub as_tree_bare : (n : Node) (t : Tree) → fault (changed bare n) ≡ None → as_tree (changed bare n) ≡ Ok t → as_tree n ≡ Ok t
as_tree_bare n t w e = subst (λ k. as_tree k ≡ Ok t) (changed_same n) (as_tree_after bare as_it_is true bare_follows n t w e)
