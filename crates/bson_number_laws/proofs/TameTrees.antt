-- The document that bytes are made into is tame, as the bytes are, and what is put in bytes of it is a document or an array of it.
use Rattle.std.proofs.Common.{◌≡◌, ℕ, zero, suc, Bool, true, false, cond, None, Result, Ok, ap, sym, subst, ◌∙◌}
use Rattle.std.specs.Str.{bytes_eq}
use Rattle.bson_kinds.specs.Outcome.{◌>>=◌}
use Rattle.bson_kinds.specs.Text.{Bytes, Utf8, has_zero}
use Rattle.bson_kinds.specs.declared.element_type.ElementType.{ElementType}
use Rattle.bson_kinds.specs.declared.element_type.ElementType.TheVariants as kinds
use Rattle.bson_kinds.proofs.Outcomes.{ok_is, map_ok, bind_ok}
use Rattle.bson_kinds.proofs.Apart.{no_ok}
use Rattle.bson_kinds.specs.Piece.{borrowed}
use Rattle.bson_base.specs.Pairs.{put}
use Rattle.bson_base.specs.Sorted.{sorted}
use Rattle.bson_base.specs.Tree as tree
use Rattle.bson_base.specs.Tree.{Tree, Pairs, no_pairs, pair, Trees, no_trees}
use Rattle.bson_faults.specs.declared.raw.Error.{Error}
use Rattle.bson_faults.specs.declared.raw.Error.TheVariants.{ValueUnclosed}
use Rattle.bson_rawdoc.specs.DocumentTree.{and_last, pairs_with, trees_with, pairs_at, trees_at, tree_at}
use Rattle.bson_rawdoc.specs.Envelope.{is_closed}
use Rattle.bson_rawdoc.specs.Node as node
use Rattle.bson_rawdoc.specs.Node.{Whole, of_tree, Node, Extended, Nodes, ended, then_node, text_fault, fault, opens, opened, nodes_with, node_in, inner_node, value_node, from_input, from_memory, piece, tree_node, pair_nodes, tree_nodes}
use Rattle.bson_rawdoc.specs.RawValue as raw
use Rattle.bson_rawdoc.specs.RawValue.{RawValue, value_in}
use Rattle.bson_rawdoc.specs.Walk as walks
use Rattle.bson_rawdoc.specs.Walk.{Walk, then_walk, walk}
use Rattle.bson_rawdoc.proofs.Nodes.{Sees, element_seen}
use Rattle.bson_laws.proofs.Coded.{IsName, decimal_name}
use Rattle.bson_laws.proofs.JudgedTexts.{neither_fault, unfaulted}
use Rattle.bson_laws.proofs.Tame.{IsTame, IsTameValue, AreTame}
use Rattle.bson_laws.proofs.TameBytes.{opened_tame}
use Rattle.bson_laws.proofs.ZeroFree.{free_sorted}

-- ---- nodes of trees in memory

-- a document or an array that is held as a tree is held as one of its kind
abbrev pub IsHeldWhole : Whole → Type 0
IsHeldWhole (of_tree (tree.document ps)) = Unit {0}
IsHeldWhole (of_tree (tree.array ts)) = Unit {0}
IsHeldWhole (of_tree t) = ⊥
IsHeldWhole w = Unit {0}

abbrev mutual
  pub IsHeld : Node → Type 0
  IsHeld (node.document w ns) = IsHeldWhole w × AreHeld ns
  IsHeld (node.array w ns) = IsHeldWhole w × AreHeld ns
  IsHeld (node.extended x ns) = AreHeld ns
  IsHeld n = Unit {0}

  pub AreHeld : Nodes → Type 0
  AreHeld (then_node key n ns) = IsHeld n × AreHeld ns
  AreHeld ns = Unit {0}

-- a node of a tree in memory, of which everything that is read can be written
abbrev pub IsSeen : Node → Type 0
IsSeen n = IsTame from_memory n × IsHeld n

abbrev pub AreSeen : Nodes → Type 0
AreSeen ns = AreTame from_memory ns × AreHeld ns

-- ---- extended values

-- the document that an extended value is opened to is made; a scope in it is held, where it is so itself
abbrev HoldsScope : Extended → Type 0
HoldsScope (node.javascript_code_with_scope code scope) = IsHeld scope
HoldsScope x = Unit {0}

opened_held : (x : Extended) → HoldsScope x → IsHeld (opens x)
opened_held (node.binary subtype b) h = ((tt, (tt, (tt, tt))), tt)
opened_held node.undefined h = (tt, tt)
opened_held (node.object_id id) h = (tt, tt)
opened_held (node.date_time n) h = ((tt, (tt, tt)), tt)
opened_held (node.regular_expression p q) h = ((tt, (tt, (tt, tt))), tt)
opened_held (node.db_pointer x id) h = ((tt, (tt, ((tt, (tt, tt)), tt))), tt)
opened_held (node.javascript_code x) h = (tt, tt)
opened_held (node.symbol x) h = (tt, tt)
opened_held (node.javascript_code_with_scope code scope) h = (tt, (h, tt))
opened_held (node.timestamp x y) h = ((tt, (tt, (tt, tt))), tt)
opened_held (node.decimal128 b) h = (tt, tt)
opened_held node.max_key h = (tt, tt)
opened_held node.min_key h = (tt, tt)

opened_seen : (x : Extended) → IsTameValue from_memory x → HoldsScope x → IsSeen (opens x)
opened_seen x t h = (opened_tame from_memory x t, opened_held x h)

-- ---- a value and its tree

abbrev TreeSeen : ℕ → Tree → Type 0
TreeSeen levels t = IsSeen (tree_node from_memory t levels)

abbrev made_as : Tree → Result Tree Error
made_as t = Ok t

-- a value that is made into a tree
abbrev ValueSeen : ℕ → RawValue → Type 0
ValueSeen levels v = (u : Tree) → tree_at levels v ≡ Ok u → fault (value_node (inner_node levels) v) ≡ None → IsTame from_input (value_node (inner_node levels) v) → TreeSeen levels u

-- the same for the value of a kind in its bytes
abbrev ElementSeen : ℕ → ElementType → Bytes → Type 0
ElementSeen levels k b = (u : Tree) → (value_in k b >>= tree_at levels) ≡ Ok u → IsTame from_input (node_in levels k b) → TreeSeen levels u

-- the same for documents, and for arrays
abbrev DocumentSeen : ℕ → Bytes → Type 0
DocumentSeen levels b = (ps : Pairs) → pairs_at levels b ≡ Ok ps → IsTame from_input (inner_node levels kinds.EmbeddedDocument b) → TreeSeen levels (tree.document ps)

abbrev ArraySeen : ℕ → Bytes → Type 0
ArraySeen levels b = (ts : Trees) → trees_at levels b ≡ Ok ts → IsTame from_input (inner_node levels kinds.Array b) → TreeSeen levels (tree.array ts)

this : (levels : ℕ) (x u : Tree) → made_as x ≡ made_as u → TreeSeen levels x → TreeSeen levels u
this levels x u e h = subst (TreeSeen levels) (ok_is x u e) h

binary_seen : (levels : ℕ) (s : ℕ) (b : Bytes) → IsTame from_input (node.binary_node false s (borrowed b)) → TreeSeen levels (tree.binary s b)
binary_seen levels zero b a = ((a.0, (λ e. absurd cc), (λ e. absurd cc)), tt)
binary_seen levels (suc n) b a = opened_seen (node.binary (suc n) (piece false b)) a.0 tt

module _ (levels : ℕ) (documents : (b : Bytes) → DocumentSeen levels b) (arrays : (b : Bytes) → ArraySeen levels b) where
  value_seen : (v : RawValue) → ValueSeen levels v
  value_seen (raw.double b) u e o a = this levels (tree.double b) u e (a, tt)
  value_seen (raw.string x) u e o a = this levels (tree.string x) u e ((λ q. absurd cc), tt)
  value_seen (raw.document b) u e o a = let m = map_ok tree.document (pairs_at levels b) u e in subst (TreeSeen levels) m.2 (documents b m.0 m.1 a)
  value_seen (raw.array b) u e o a = let m = map_ok tree.array (trees_at levels b) u e in subst (TreeSeen levels) m.2 (arrays b m.0 m.1 a)
  value_seen (raw.binary s b) u e o a = this levels (tree.binary s b) u e (binary_seen levels s b a)
  value_seen raw.undefined u e o a = this levels tree.undefined u e (opened_seen node.undefined tt tt)
  value_seen (raw.object_id id) u e o a = this levels (tree.object_id id) u e (opened_seen (node.object_id (piece false id)) (a.0.0, a.0.1, (λ q. absurd cc)) tt)
  value_seen (raw.boolean b) u e o a = this levels (tree.boolean b) u e (tt, tt)
  value_seen (raw.date_time n) u e o a = this levels (tree.date_time n) u e (opened_seen (node.date_time n) a.0 tt)
  value_seen raw.null u e o a = this levels tree.null u e (tt, tt)
  value_seen (raw.regular_expression p q) u e o a =
      let text = unfaulted (borrowed q) (neither_fault (text_fault (borrowed p)) (text_fault (borrowed q)) o).1 in
      let free : has_zero (sorted q) ≡ false = (free_sorted q (record { text = text; no_zero = a.0.3 })).no_zero in
      this levels (tree.regular_expression p (sorted q)) u e
      (opened_seen (node.regular_expression (piece false p) (piece false (sorted q))) ((λ q. absurd cc), (λ q. absurd cc), a.0.2, free) tt)
  value_seen (raw.db_pointer x id) u e o a = this levels (tree.db_pointer x id) u e (opened_seen (node.db_pointer (piece false x) id) (a.0.0, a.0.1, (λ q. absurd cc)) tt)
  value_seen (raw.javascript_code x) u e o a = this levels (tree.javascript_code x) u e (opened_seen (node.javascript_code (piece false x)) (λ q. absurd cc) tt)
  value_seen (raw.symbol x) u e o a = this levels (tree.symbol x) u e (opened_seen (node.symbol (piece false x)) (λ q. absurd cc) tt)
  value_seen (raw.javascript_code_with_scope code b) u e o a =
      let m = map_ok (tree.javascript_code_with_scope code) (pairs_at levels b) u e in
      let scope = documents b m.0 m.1 a.0.0 in
      subst (TreeSeen levels) m.2 (opened_seen (node.javascript_code_with_scope (piece false code) (tree_node from_memory (tree.document m.0) levels)) (scope.0, (λ q. absurd cc)) scope.1)
  value_seen (raw.int32 n) u e o a = this levels (tree.int32 n) u e (a, tt)
  value_seen (raw.timestamp x y) u e o a = this levels (tree.timestamp x y) u e (opened_seen (node.timestamp x y) a.0 tt)
  value_seen (raw.int64 n) u e o a = this levels (tree.int64 n) u e (a, tt)
  value_seen (raw.decimal128 b) u e o a = this levels (tree.decimal128 b) u e (opened_seen (node.decimal128 (piece false b)) a.0 tt)
  value_seen raw.max_key u e o a = this levels tree.max_key u e (opened_seen node.max_key tt tt)
  value_seen raw.min_key u e o a = this levels tree.min_key u e (opened_seen node.min_key tt tt)

  -- what an element's value is, is its node
  elements_value : (k : ElementType) (b : Bytes) → ElementSeen levels k b
  elements_value k b u e a =
      let m = bind_ok (value_in k b) (tree_at levels) u e in
      let seen : Sees (value_node (inner_node levels)) (Ok m.0) (node_in levels k b) = subst (λ r. Sees (value_node (inner_node levels)) r (node_in levels k b)) m.1 (element_seen levels k b) in
      value_seen m.0 u m.2 (ap fault (sym seen.0) ∙ seen.1) (subst (IsTame from_input) seen.0 a)

-- ---- documents and arrays

put_seen : (levels : ℕ) (key : Utf8) (t : Tree) (ps : Pairs) → IsName key → TreeSeen levels t → AreSeen (pair_nodes from_memory ps levels) → AreSeen (pair_nodes from_memory (put key t ps) levels)
put_seen levels key t no_pairs n q h = ((n, q.0, tt, (λ e. absurd cc)), (q.1, tt))
put_seen levels key t (pair k old ps) n q h = by_case (bytes_eq key k) (put_seen levels key t ps n q (h.0.2, h.1.1)) where
  by_case : (b : Bool) → AreSeen (pair_nodes from_memory (put key t ps) levels) → AreSeen (pair_nodes from_memory (cond b (pair k t ps) (pair k old (put key t ps))) levels)
  by_case true later = ((h.0.0, q.0, h.0.2, h.0.3), (q.1, h.1.1))
  by_case false later = ((h.0.0, h.0.1, later.0, h.0.3), (h.1.0, later.1))

last_seen : (levels i : ℕ) (ts : Trees) (t : Tree) → AreSeen (tree_nodes from_memory i ts levels) → TreeSeen levels t → AreSeen (tree_nodes from_memory i (and_last ts t) levels)
last_seen levels i no_trees t h q = ((decimal_name i, q.0, tt, (λ e. absurd cc)), (q.1, tt))
last_seen levels i (tree.tree x ts) t h q = let later = last_seen levels (suc i) ts t (h.0.2, h.1.1) q in ((h.0.0, h.0.1, later.0, h.0.3), (h.1.0, later.1))

module _ (levels : ℕ) (each : (k : ElementType) (b : Bytes) → ElementSeen levels k b) where
  pairs_seen : (w : Walk) (done ps : Pairs) → pairs_with (tree_at levels) done w ≡ Ok ps → AreTame from_input (nodes_with (node_in levels) w) → AreSeen (pair_nodes from_memory done levels) → AreSeen (pair_nodes from_memory ps levels)
  pairs_seen walks.ended done ps e a h = subst (λ qs. AreSeen (pair_nodes from_memory qs levels)) (ok_is done ps e) h
  pairs_seen (walks.faulty x) done ps e a h = absurd (no_ok e)
  pairs_seen (then_walk x w) done ps e a h =
      let m = bind_ok (value_in x.kind x.value >>= tree_at levels) (λ t. pairs_with (tree_at levels) (put x.key t done) w) ps e in
      pairs_seen w (put x.key m.0 done) ps m.2 a.2 (put_seen levels x.key m.0 done a.0 (each x.kind x.value m.0 m.1 a.1) h)

  trees_seen : (w : Walk) (done ts : Trees) → trees_with (tree_at levels) done w ≡ Ok ts → AreTame from_input (nodes_with (node_in levels) w) → AreSeen (tree_nodes from_memory 0 done levels) → AreSeen (tree_nodes from_memory 0 ts levels)
  trees_seen walks.ended done ts e a h = subst (λ us. AreSeen (tree_nodes from_memory 0 us levels)) (ok_is done ts e) h
  trees_seen (walks.faulty x) done ts e a h = absurd (no_ok e)
  trees_seen (then_walk x w) done ts e a h =
      let m = bind_ok (value_in x.kind x.value >>= tree_at levels) (λ t. trees_with (tree_at levels) (and_last done t) w) ts e in
      trees_seen w (and_last done m.0) ts m.2 a.2 (last_seen levels 0 done m.0 h (each x.kind x.value m.0 m.1 a.1))

  document_seen : (b : Bytes) → DocumentSeen (suc levels) b
  document_seen b ps e a = let h = pairs_seen (walk b) no_pairs ps e a.1 (tt, tt) in ((tt, h.0), (tt, h.1))

  array_seen : (b : Bytes) → ArraySeen (suc levels) b
  array_seen b ts e a = let h = trees_seen (walk b) no_trees ts e a.1 (tt, tt) in ((tt, h.0), (tt, h.1))

elements_seen : (levels : ℕ) (k : ElementType) (b : Bytes) → ElementSeen levels k b
elements_seen zero = elements_value zero (λ b ps e a. absurd (no_ok e)) (λ b ts e a. absurd (no_ok e))
elements_seen (suc n) = elements_value (suc n) (document_seen n (elements_seen n)) (array_seen n (elements_seen n))

-- ---- whole documents

pub bytes_seen : (levels : ℕ) (b : Bytes) (ps : Pairs) → pairs_at levels b ≡ Ok ps → is_closed b ≡ true → IsTame from_input (node_in levels kinds.EmbeddedDocument b) → TreeSeen levels (tree.document ps)
bytes_seen zero b ps e closed a = absurd (no_ok e)
bytes_seen (suc n) b ps e closed a =
    let inner = inner_node (suc n) kinds.EmbeddedDocument b in
    let is : node_in (suc n) kinds.EmbeddedDocument b ≡ inner = ap (λ c. cond c inner (node.broken kinds.EmbeddedDocument ValueUnclosed)) closed in
    document_seen n (elements_seen n) b ps e (subst (IsTame from_input) is a)
