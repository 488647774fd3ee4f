-- Where bytes have a document, nothing in them is at fault, nor in the document.
use Rattle.std.proofs.Common.{◌≡◌, ℕ, ℤ, zero, suc, Bool, true, false, cond, Some, None, Result, Ok, refl, ap, sym, subst, ◌∙◌}
use Rattle.std.specs.Int.{w64}
use Rattle.std.specs.Prelude.{FitsSigned}
use Rattle.std.specs.Str.{is_utf8, bytes_eq}
use Rattle.bson_kinds.specs.Outcome.{◌>>=◌, or_else}
use Rattle.bson_base.specs.Pairs.{put}
use Rattle.bson_base.specs.Sorted.{sorted}
use Rattle.bson_kinds.specs.Text.{Bytes, Utf8}
use Rattle.bson_base.specs.Tree as tree
use Rattle.bson_base.specs.Tree.{Tree, Pairs, no_pairs, pair, Trees, no_trees}
use Rattle.bson_kinds.specs.declared.element_type.ElementType.{ElementType}
use Rattle.bson_kinds.specs.declared.element_type.ElementType.TheVariants as kinds
use Rattle.bson_base.proofs.MadeTexts.{digits_are_text, base64_is_text, number_is_text}
use Rattle.bson_kinds.proofs.Outcomes.{ok_is, map_ok, bind_ok}
use Rattle.bson_rawdoc.specs.DocumentTree.{and_last, pairs_with, trees_with, pairs_at, trees_at, tree_at}
use Rattle.bson_rawdoc.specs.Envelope.{is_closed}
use Rattle.bson_rawdoc.specs.Node as node
use Rattle.bson_rawdoc.specs.Node.{Node, text_fault, fault, opens, nodes_with, node_in, inner_node, value_node, from_input, from_memory, piece, tree_node, pair_nodes, tree_nodes}
use Rattle.bson_kinds.specs.Piece.{Piece, borrowed}
use Rattle.bson_rawdoc.specs.RawValue as raw
use Rattle.bson_rawdoc.specs.RawValue.{RawValue, value_in}
use Rattle.bson_rawdoc.specs.Walk.{Walk, ended, faulty, then_walk, walk}
use Rattle.bson_faults.specs.declared.raw.Error.{Error}
use Rattle.bson_faults.specs.declared.raw.Error.TheVariants.{NotUtf8, ValueUnclosed}
use Rattle.bson_rawdoc.proofs.Nodes.{Sees, element_seen}
use Rattle.bson_laws.proofs.JudgedTexts.{neither_fault, unfaulted}
use Rattle.bson_laws.proofs.ParsedSizes.{sorted_text}
use Rattle.bson_laws.proofs.Tame.{IsTame, AreTame}
use Rattle.bson_ways_laws.proofs.Twins.{IsQuiet, AreQuiet}

-- ---- extended values

faultless_text : (p : Piece) → is_utf8 p.bytes ≡ true → text_fault p ≡ None
faultless_text p e = ap (λ c. cond c None (Some NotUtf8)) e

faultless_two : (p q : Piece) → is_utf8 p.bytes ≡ true → is_utf8 q.bytes ≡ true → or_else (text_fault p) (text_fault q) ≡ None
faultless_two p q e f = ap (λ o. or_else o (text_fault q)) (faultless_text p e) ∙ faultless_text q f

binary_quiet : (n : ℕ) (p : Piece) → IsQuiet (opens (node.binary (suc n) p))
binary_quiet n p = (refl, tt, ((digits_are_text _, (base64_is_text _, tt)), tt))

id_quiet : (p : Piece) → IsQuiet (opens (node.object_id p))
id_quiet p = (refl, tt, (digits_are_text _, tt))

date_quiet : (n : ℤ) → FitsSigned w64 n → IsQuiet (opens (node.date_time n))
date_quiet n f = (refl, tt, ((number_is_text n f, tt), tt))

expression_quiet : (p q : Piece) → is_utf8 p.bytes ≡ true → is_utf8 q.bytes ≡ true → IsQuiet (opens (node.regular_expression p q))
expression_quiet p q e f = (faultless_two p q e f, tt, ((e, (f, tt)), tt))

pointer_quiet : (p : Piece) (id : Bytes) → is_utf8 p.bytes ≡ true → IsQuiet (opens (node.db_pointer p id))
pointer_quiet p id e = (faultless_text p e, tt, ((e, ((digits_are_text _, tt), tt)), tt))

code_quiet : (p : Piece) → is_utf8 p.bytes ≡ true → IsQuiet (opens (node.javascript_code p))
code_quiet p e = (faultless_text p e, tt, (e, tt))

symbol_quiet : (p : Piece) → is_utf8 p.bytes ≡ true → IsQuiet (opens (node.symbol p))
symbol_quiet p e = (faultless_text p e, tt, (e, tt))

node_faultless : (n : Node) → IsQuiet n → fault n ≡ None
node_faultless (node.string p) q = faultless_text p q
node_faultless (node.extended x ns) q = q.0
node_faultless (node.broken k e) q = absurd q
node_faultless n q = refl

scope_quiet : (p : Piece) (n : Node) → is_utf8 p.bytes ≡ true → IsQuiet n → IsQuiet (opens (node.javascript_code_with_scope p n))
scope_quiet p n e q = (ap (λ o. or_else o (fault n)) (faultless_text p e) ∙ node_faultless n q, q, (e, (q, tt)))

-- ---- a value and its tree

abbrev BothQuiet : ℕ → Node → Tree → Type 0
BothQuiet levels n t = IsQuiet n × IsQuiet (tree_node from_memory t levels)

abbrev made_as : Tree → Result Tree Error
made_as t = Ok t

-- a value that is made into a tree
abbrev ValueQuiet : ℕ → RawValue → Type 0
ValueQuiet levels v = (u : Tree) → tree_at levels v ≡ Ok u → fault (value_node (inner_node levels) v) ≡ None → IsTame from_input (value_node (inner_node levels) v) → BothQuiet levels (value_node (inner_node levels) v) u

-- the same for the value of a kind in its bytes
abbrev ElementQuiet : ℕ → ElementType → Bytes → Type 0
ElementQuiet levels k b = (u : Tree) → (value_in k b >>= tree_at levels) ≡ Ok u → IsTame from_input (node_in levels k b) → BothQuiet levels (node_in levels k b) u

-- the same for documents, and for arrays
abbrev DocumentQuiet : ℕ → Bytes → Type 0
DocumentQuiet levels b = (ps : Pairs) → pairs_at levels b ≡ Ok ps → IsTame from_input (inner_node levels kinds.EmbeddedDocument b) → BothQuiet levels (inner_node levels kinds.EmbeddedDocument b) (tree.document ps)

abbrev ArrayQuiet : ℕ → Bytes → Type 0
ArrayQuiet levels b = (ts : Trees) → trees_at levels b ≡ Ok ts → IsTame from_input (inner_node levels kinds.Array b) → BothQuiet levels (inner_node levels kinds.Array b) (tree.array ts)

this : (levels : ℕ) (n : Node) (x u : Tree) → x ≡ u → BothQuiet levels n x → BothQuiet levels n u
this levels n x u is h = subst (BothQuiet levels n) is h

leaf : (levels : ℕ) (n : Node) (x u : Tree) → made_as x ≡ made_as u → BothQuiet levels n x → BothQuiet levels n u
leaf levels n x u e h = this levels n x u (ok_is x u e) h

binary_made : (levels : ℕ) (s : ℕ) (b : Bytes) (u : Tree) → made_as (tree.binary s b) ≡ made_as u → BothQuiet levels (node.binary_node false s (borrowed b)) u
binary_made levels zero b u e = leaf levels (node.bytes false (borrowed b)) (tree.binary 0 b) u e (tt, tt)
binary_made levels (suc n) b u e = leaf levels (opens (node.binary (suc n) (borrowed b))) (tree.binary (suc n) b) u e (binary_quiet n (borrowed b), binary_quiet n (piece false b))

module _ (levels : ℕ) (documents : (b : Bytes) → DocumentQuiet levels b) (arrays : (b : Bytes) → ArrayQuiet levels b) where
  value_quiet : (v : RawValue) → ValueQuiet levels v
  value_quiet (raw.double b) u e o a = leaf levels (node.double b) (tree.double b) u e (tt, tt)
  value_quiet (raw.string x) u e o a = let w = unfaulted (borrowed x) o in leaf levels (node.string (borrowed x)) (tree.string x) u e (w, w)
  value_quiet (raw.document b) u e o a =
      let m = map_ok tree.document (pairs_at levels b) u e in this levels (inner_node levels kinds.EmbeddedDocument b) (tree.document m.0) u m.2 (documents b m.0 m.1 a)
  value_quiet (raw.array b) u e o a =
      let m = map_ok tree.array (trees_at levels b) u e in this levels (inner_node levels kinds.Array b) (tree.array m.0) u m.2 (arrays b m.0 m.1 a)
  value_quiet (raw.binary s b) u e o a = binary_made levels s b u e
  value_quiet raw.undefined u e o a = leaf levels (opens node.undefined) tree.undefined u e ((refl, tt, (tt, tt)), (refl, tt, (tt, tt)))
  value_quiet (raw.object_id id) u e o a = leaf levels (opens (node.object_id (borrowed id))) (tree.object_id id) u e (id_quiet (borrowed id), id_quiet (piece false id))
  value_quiet (raw.boolean b) u e o a = leaf levels (node.boolean b) (tree.boolean b) u e (tt, tt)
  value_quiet (raw.date_time n) u e o a = leaf levels (opens (node.date_time n)) (tree.date_time n) u e (date_quiet n a.0, date_quiet n a.0)
  value_quiet raw.null u e o a = leaf levels node.null tree.null u e (tt, tt)
  value_quiet (raw.regular_expression p q) u e o a =
      let w = neither_fault (text_fault (borrowed p)) (text_fault (borrowed q)) o in
      let first = unfaulted (borrowed p) w.0 in
      let second = unfaulted (borrowed q) w.1 in
      leaf levels (opens (node.regular_expression (borrowed p) (borrowed q))) (tree.regular_expression p (sorted q)) u e
      (expression_quiet (borrowed p) (borrowed q) first second, expression_quiet (piece false p) (piece false (sorted q)) first (sorted_text q second))
  value_quiet (raw.db_pointer x id) u e o a =
      let w = unfaulted (borrowed x) o in leaf levels (opens (node.db_pointer (borrowed x) id)) (tree.db_pointer x id) u e (pointer_quiet (borrowed x) id w, pointer_quiet (piece false x) id w)
  value_quiet (raw.javascript_code x) u e o a =
      let w = unfaulted (borrowed x) o in leaf levels (opens (node.javascript_code (borrowed x))) (tree.javascript_code x) u e (code_quiet (borrowed x) w, code_quiet (piece false x) w)
  value_quiet (raw.symbol x) u e o a = let w = unfaulted (borrowed x) o in leaf levels (opens (node.symbol (borrowed x))) (tree.symbol x) u e (symbol_quiet (borrowed x) w, symbol_quiet (piece false x) w)
  value_quiet (raw.javascript_code_with_scope code b) u e o a =
      let n = inner_node levels kinds.EmbeddedDocument b in
      let m = map_ok (tree.javascript_code_with_scope code) (pairs_at levels b) u e in
      let w = unfaulted (borrowed code) (neither_fault (text_fault (borrowed code)) (fault n) o).0 in
      let inside = documents b m.0 m.1 a.0.0 in
      this levels (opens (node.javascript_code_with_scope (borrowed code) n)) (tree.javascript_code_with_scope code m.0) u m.2
      (scope_quiet (borrowed code) n w inside.0, scope_quiet (piece false code) (tree_node from_memory (tree.document m.0) levels) w inside.1)
  value_quiet (raw.int32 n) u e o a = leaf levels (node.int32 n) (tree.int32 n) u e (tt, tt)
  value_quiet (raw.timestamp x y) u e o a = leaf levels (opens (node.timestamp x y)) (tree.timestamp x y) u e ((refl, tt, ((tt, (tt, tt)), tt)), (refl, tt, ((tt, (tt, tt)), tt)))
  value_quiet (raw.int64 n) u e o a = leaf levels (node.int64 n) (tree.int64 n) u e (tt, tt)
  value_quiet (raw.decimal128 b) u e o a = leaf levels (opens (node.decimal128 (borrowed b))) (tree.decimal128 b) u e ((refl, tt, (tt, tt)), (refl, tt, (tt, tt)))
  value_quiet raw.max_key u e o a = leaf levels (opens node.max_key) tree.max_key u e ((refl, tt, (tt, tt)), (refl, tt, (tt, tt)))
  value_quiet raw.min_key u e o a = leaf levels (opens node.min_key) tree.min_key u e ((refl, tt, (tt, tt)), (refl, tt, (tt, tt)))

  -- what an element's value is, is its node
  element_quiet : (k : ElementType) (b : Bytes) → ElementQuiet levels k b
  element_quiet k b u e a =
      let m = bind_ok (value_in k b) (tree_at levels) u e in
      let seen : Sees (value_node (inner_node levels)) (Ok m.0) (node_in levels k b) = subst (λ r. Sees (value_node (inner_node levels)) r (node_in levels k b)) m.1 (element_seen levels k b) in
      subst (λ n. BothQuiet levels n u) (sym seen.0)
      (value_quiet m.0 u m.2 (ap fault (sym seen.0) ∙ seen.1) (subst (IsTame from_input) seen.0 a))

-- ---- documents and arrays

put_quiet : (levels : ℕ) (key : Utf8) (t : Tree) (ps : Pairs) → IsQuiet (tree_node from_memory t levels) → AreQuiet (pair_nodes from_memory ps levels) → AreQuiet (pair_nodes from_memory (put key t ps) levels)
put_quiet levels key t no_pairs q h = (q, tt)
put_quiet levels key t (pair k old ps) q h = by_case (bytes_eq key k) (put_quiet levels key t ps q h.1) where
  by_case : (b : Bool) → AreQuiet (pair_nodes from_memory (put key t ps) levels) → AreQuiet (pair_nodes from_memory (cond b (pair k t ps) (pair k old (put key t ps))) levels)
  by_case true later = (q, h.1)
  by_case false later = (h.0, later)

last_quiet : (levels i : ℕ) (ts : Trees) (t : Tree) → AreQuiet (tree_nodes from_memory i ts levels) → IsQuiet (tree_node from_memory t levels) → AreQuiet (tree_nodes from_memory i (and_last ts t) levels)
last_quiet levels i no_trees t h q = (q, tt)
last_quiet levels i (tree.tree x ts) t h q = (h.0, last_quiet levels (suc i) ts t h.1 q)

module _ (levels : ℕ) (each : (k : ElementType) (b : Bytes) → ElementQuiet levels k b) where
  pairs_quiet : (w : Walk) (done ps : Pairs) → pairs_with (tree_at levels) done w ≡ Ok ps → AreTame from_input (nodes_with (node_in levels) w) → AreQuiet (pair_nodes from_memory done levels)
      → AreQuiet (nodes_with (node_in levels) w) × AreQuiet (pair_nodes from_memory ps levels)
  pairs_quiet ended done ps e a h = (tt, subst (λ qs. AreQuiet (pair_nodes from_memory qs levels)) (ok_is done ps e) h)
  pairs_quiet (faulty x) done ps e a h = absurd cc
  pairs_quiet (then_walk x w) done ps e a h =
      let m = bind_ok (value_in x.kind x.value >>= tree_at levels) (λ t. pairs_with (tree_at levels) (put x.key t done) w) ps e in
      let first = each x.kind x.value m.0 m.1 a.1 in
      let rest = pairs_quiet w (put x.key m.0 done) ps m.2 a.2 (put_quiet levels x.key m.0 done first.1 h) in
      ((first.0, rest.0), rest.1)

  trees_quiet : (w : Walk) (done ts : Trees) → trees_with (tree_at levels) done w ≡ Ok ts → AreTame from_input (nodes_with (node_in levels) w) → AreQuiet (tree_nodes from_memory 0 done levels)
      → AreQuiet (nodes_with (node_in levels) w) × AreQuiet (tree_nodes from_memory 0 ts levels)
  trees_quiet ended done ts e a h = (tt, subst (λ us. AreQuiet (tree_nodes from_memory 0 us levels)) (ok_is done ts e) h)
  trees_quiet (faulty x) done ts e a h = absurd cc
  trees_quiet (then_walk x w) done ts e a h =
      let m = bind_ok (value_in x.kind x.value >>= tree_at levels) (λ t. trees_with (tree_at levels) (and_last done t) w) ts e in
      let first = each x.kind x.value m.0 m.1 a.1 in
      let rest = trees_quiet w (and_last done m.0) ts m.2 a.2 (last_quiet levels 0 done m.0 h first.1) in
      ((first.0, rest.0), rest.1)

  document_quiet : (b : Bytes) → DocumentQuiet (suc levels) b
  document_quiet b ps e a = pairs_quiet (walk b) no_pairs ps e a.1 tt

  array_quiet : (b : Bytes) → ArrayQuiet (suc levels) b
  array_quiet b ts e a = trees_quiet (walk b) no_trees ts e a.1 tt

elements_quiet : (levels : ℕ) (k : ElementType) (b : Bytes) → ElementQuiet levels k b
elements_quiet zero = element_quiet zero (λ b ps e a. absurd cc) (λ b ts e a. absurd cc)
elements_quiet (suc n) = element_quiet (suc n) (document_quiet n (elements_quiet n)) (array_quiet n (elements_quiet n))

-- ---- whole documents

pub bytes_quiet : (levels : ℕ) (b : Bytes) (ps : Pairs) → pairs_at levels b ≡ Ok ps → is_closed b ≡ true → IsTame from_input (node_in levels kinds.EmbeddedDocument b)
    → IsQuiet (node_in levels kinds.EmbeddedDocument b) × IsQuiet (tree_node from_memory (tree.document ps) levels)
bytes_quiet zero b ps e closed a = absurd cc
bytes_quiet (suc n) b ps e closed a =
    let inner = inner_node (suc n) kinds.EmbeddedDocument b in
    let is : node_in (suc n) kinds.EmbeddedDocument b ≡ inner = ap (λ c. cond c inner (node.broken kinds.EmbeddedDocument ValueUnclosed)) closed in
    subst (λ m. BothQuiet (suc n) m (tree.document ps)) (sym is) (document_quiet n (elements_quiet n) b ps e (subst (IsTame from_input) is a))
