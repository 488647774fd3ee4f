-- The same value with other texts and marks: a value of which nothing is in the input, and one whose texts are mended where they are in the input.
use Rattle.std.proofs.Common.{◌≡◌, ℕ, zero, suc, Bool, true, false, cond, refl, ap, sym, ◌∙◌}
use Rattle.std.specs.Fmt.{decimal}
use Rattle.std.specs.Prelude.{if◌then◌else◌}
use Rattle.std.specs.Str.Lossy.{utf8_lossy}
use Rattle.bson_base.specs.Tree as tree
use Rattle.bson_base.specs.Tree.{Tree, Pairs, no_pairs, pair, Trees, no_trees}
use Rattle.bson_rawdoc.specs.Node.{Whole, of_opening, Sight, Node, string, document, array, bytes, extended, Extended, binary, undefined, object_id, regular_expression, db_pointer, javascript_code, symbol, javascript_code_with_scope, decimal128, opened, opens, Nodes, ended, faulty, then_node, piece, mended, mended_text, mended_value, mended_nodes, tree_node, pair_nodes, tree_nodes}
use Rattle.bson_kinds.specs.Piece.{Piece, made}
use Rattle.bson_laws.specs.RawFree.{IsRawFree, ArePairsRawFree, AreTreesRawFree}
use Rattle.bson_laws.proofs.MendedTexts.{mended_whole, whole_mended}

-- what becomes of the pieces of a value; the bytes of its keys and of its byte strings stay
pub record Change : Type 0 where
  pub text : Piece → Piece
  -- what a document or an array is as a whole
  pub slice : Whole → Whole
  -- whether a key is in the input then, and a byte string
  pub borrows_key : Piece → Bool
  pub borrows_bytes : Piece → Bool
  -- whether a binary is under a mark then
  pub marks : Bool → Piece → Bool

abbrev mutual
  pub changed : Change → Node → Node
  changed c (string t) = string (c.text t)
  changed c (bytes u b) = bytes (c.marks u b) (piece (c.borrows_bytes b) b.bytes)
  changed c (document slice ns) = document (c.slice slice) (changed_nodes c ns)
  changed c (array slice ns) = array (c.slice slice) (changed_nodes c ns)
  changed c (extended x ns) = extended (changed_value c x) (changed_nodes c ns)
  changed c n = n

  pub changed_value : Change → Extended → Extended
  changed_value c (binary subtype b) = binary subtype (piece (c.borrows_bytes b) b.bytes)
  changed_value c (object_id id) = object_id (piece (c.borrows_bytes id) id.bytes)
  changed_value c (decimal128 b) = decimal128 (piece (c.borrows_bytes b) b.bytes)
  changed_value c (regular_expression p q) = regular_expression (c.text p) (c.text q)
  changed_value c (db_pointer n id) = db_pointer (c.text n) id
  changed_value c (javascript_code t) = javascript_code (c.text t)
  changed_value c (symbol t) = symbol (c.text t)
  changed_value c (javascript_code_with_scope t s) = javascript_code_with_scope (c.text t) (changed c s)
  changed_value c x = x

  pub changed_nodes : Change → Nodes → Nodes
  changed_nodes c ended = ended
  changed_nodes c (faulty e) = faulty e
  changed_nodes c (then_node key n ns) = then_node (piece (c.borrows_key key) key.bytes) (changed c n) (changed_nodes c ns)

-- ---- as it is

abbrev pub as_it_is : Change
as_it_is = record { text = λ t. t; slice = λ s. s; borrows_key = λ k. k.in_input; borrows_bytes = λ b. b.in_input; marks = λ u b. u }

mutual
  pub changed_same : (n : Node) → changed as_it_is n ≡ n
  changed_same (document slice ns) = ap (document slice) (nodes_same ns)
  changed_same (array slice ns) = ap (array slice) (nodes_same ns)
  changed_same (extended x ns) = λ i. extended (value_same x i) (nodes_same ns i)
  changed_same n = refl

  value_same : (x : Extended) → changed_value as_it_is x ≡ x
  value_same (javascript_code_with_scope t s) = ap (javascript_code_with_scope t) (changed_same s)
  value_same x = refl

  nodes_same : (ns : Nodes) → changed_nodes as_it_is ns ≡ ns
  nodes_same ended = refl
  nodes_same (faulty e) = refl
  nodes_same (then_node key n ns) = λ i. then_node key (changed_same n i) (nodes_same ns i)

-- ---- nothing is in the input

abbrev pub bare : Change
bare = record { text = λ t. made t.bytes; slice = λ s. of_opening; borrows_key = λ k. false; borrows_bytes = λ b. false; marks = λ u b. u }

-- the document that a value is opened to
opened_bare : (x : Extended) → changed_nodes bare (opened x) ≡ opened (changed_value bare x)
opened_bare undefined = refl
opened_bare x = refl

mutual
  pub mended_bare : (n : Node) → mended (changed bare n) ≡ changed bare (mended n)
  mended_bare (document slice ns) = ap (document of_opening) (nodes_mended_bare ns)
  mended_bare (array slice ns) = ap (array of_opening) (nodes_mended_bare ns)
  mended_bare (extended x ns) = ap opens (value_mended_bare x) ∙ sym (ap (extended (changed_value bare (mended_value x))) (opened_bare (mended_value x)))
  mended_bare n = refl

  value_mended_bare : (x : Extended) → mended_value (changed_value bare x) ≡ changed_value bare (mended_value x)
  value_mended_bare (javascript_code_with_scope code scope) = ap (javascript_code_with_scope (mended_text code)) (mended_bare scope)
  value_mended_bare x = refl

  nodes_mended_bare : (ns : Nodes) → mended_nodes (changed_nodes bare ns) ≡ changed_nodes bare (mended_nodes ns)
  nodes_mended_bare ended = refl
  nodes_mended_bare (faulty e) = refl
  nodes_mended_bare (then_node key n ns) = λ i. then_node (made key.bytes) (mended_bare n i) (nodes_mended_bare ns i)

-- as a tree is seen of which nothing is in the input
abbrev pub bare_sight : Sight → Sight
bare_sight at = record { texts = false; bytes = false; under_mark = at.under_mark; in_memory = false }

mutual
  pub tree_bare : (at : Sight) (t : Tree) (levels : ℕ) → IsRawFree t → changed bare (tree_node at t levels) ≡ tree_node (bare_sight at) t levels
  tree_bare at (tree.document ps) zero f = refl
  tree_bare at (tree.document ps) (suc n) f = ap (document of_opening) (pairs_bare at ps n f)
  tree_bare at (tree.array ts) zero f = refl
  tree_bare at (tree.array ts) (suc n) f = ap (array of_opening) (trees_bare at ts 0 n f)
  tree_bare at (tree.binary zero b) levels f = refl
  tree_bare at (tree.binary (suc k) b) levels f = refl
  tree_bare at (tree.javascript_code_with_scope c s) zero f = refl
  tree_bare at (tree.javascript_code_with_scope c s) (suc n) f = ap (λ x. opens (javascript_code_with_scope (made c) (document of_opening x))) (pairs_bare at s n f)
  tree_bare at (tree.raw k b) levels f = absurd f
  tree_bare at t levels f = refl

  pairs_bare : (at : Sight) (ps : Pairs) (levels : ℕ) → ArePairsRawFree ps → changed_nodes bare (pair_nodes at ps levels) ≡ pair_nodes (bare_sight at) ps levels
  pairs_bare at no_pairs levels f = refl
  pairs_bare at (pair key t ps) levels f = λ i. then_node (made key) (tree_bare at t levels f.0 i) (pairs_bare at ps levels f.1 i)

  trees_bare : (at : Sight) (ts : Trees) (j levels : ℕ) → AreTreesRawFree ts → changed_nodes bare (tree_nodes at j ts levels) ≡ tree_nodes (bare_sight at) j ts levels
  trees_bare at no_trees j levels f = refl
  trees_bare at (tree.tree t ts) j levels f = λ i. then_node (made (decimal j)) (tree_bare at t levels f.0 i) (trees_bare at ts (suc j) levels f.1 i)

-- ---- texts of the input are mended

-- a text that is made is a text as it stands, as the digits of an ObjectId that is opened
abbrev pub mended_input : Piece → Piece
mended_input t = if t.in_input then mended_text t else t

-- as `mended` changes a value of the input
abbrev pub marking : Change
marking = record { text = mended_input; slice = λ s. s; borrows_key = λ k. false; borrows_bytes = λ b. b.in_input; marks = λ u b. if b.in_input then true else u }

pub opened_marked : (x : Extended) → changed_nodes marking (opened x) ≡ opened (changed_value marking x)
opened_marked undefined = refl
opened_marked x = refl

same_text : (t : Piece) → mended_text (mended_text t) ≡ mended_text t
same_text t = ap made (whole_mended (utf8_lossy t.bytes) (mended_whole t.bytes))

either_mended : (b : Bool) (t : Piece) → mended_text (cond b (mended_text t) t) ≡ mended_text t
either_mended true t = same_text t
either_mended false t = refl

input_mended : (t : Piece) → mended_text (mended_input t) ≡ mended_text t
input_mended t = either_mended t.in_input t

either_true : (b : Bool) → cond b true true ≡ true
either_true true = refl
either_true false = refl

mutual
  -- what is changed so is mended as the value is
  pub marked_mended : (n : Node) → mended (changed marking n) ≡ mended n
  marked_mended (string t) = ap string (input_mended t)
  marked_mended (document slice ns) = ap (document slice) (nodes_marked_mended ns)
  marked_mended (array slice ns) = ap (array slice) (nodes_marked_mended ns)
  marked_mended (extended x ns) = ap opens (value_marked_mended x)
  marked_mended n = refl

  value_marked_mended : (x : Extended) → mended_value (changed_value marking x) ≡ mended_value x
  value_marked_mended (regular_expression p q) = λ i. regular_expression (input_mended p i) (input_mended q i)
  value_marked_mended (db_pointer namespace id) = ap (λ t. db_pointer t id) (input_mended namespace)
  value_marked_mended (javascript_code t) = ap javascript_code (input_mended t)
  value_marked_mended (symbol t) = ap symbol (input_mended t)
  value_marked_mended (javascript_code_with_scope code scope) = λ i. javascript_code_with_scope (input_mended code i) (marked_mended scope i)
  value_marked_mended x = refl

  nodes_marked_mended : (ns : Nodes) → mended_nodes (changed_nodes marking ns) ≡ mended_nodes ns
  nodes_marked_mended ended = refl
  nodes_marked_mended (faulty e) = refl
  nodes_marked_mended (then_node key n ns) = λ i. then_node (made key.bytes) (marked_mended n i) (nodes_marked_mended ns i)

mutual
  -- and nothing is left to be changed in a mended value
  pub mended_marked : (n : Node) → changed marking (mended n) ≡ mended n
  mended_marked (document slice ns) = ap (document slice) (nodes_mended_marked ns)
  mended_marked (array slice ns) = ap (array slice) (nodes_mended_marked ns)
  mended_marked (bytes u b) = ap (λ m. bytes m b) (either_true b.in_input)
  mended_marked (extended x ns) = ap (extended (changed_value marking (mended_value x))) (opened_marked (mended_value x)) ∙ ap opens (value_mended_marked x)
  mended_marked n = refl

  value_mended_marked : (x : Extended) → changed_value marking (mended_value x) ≡ mended_value x
  value_mended_marked (javascript_code_with_scope code scope) = ap (javascript_code_with_scope (mended_text code)) (mended_marked scope)
  value_mended_marked x = refl

  nodes_mended_marked : (ns : Nodes) → changed_nodes marking (mended_nodes ns) ≡ mended_nodes ns
  nodes_mended_marked ended = refl
  nodes_mended_marked (faulty e) = refl
  nodes_mended_marked (then_node key n ns) = λ i. then_node (made key.bytes) (mended_marked n i) (nodes_mended_marked ns i)
