-- Values that are alike are the same trees.
use Rattle.std.proofs.Common.{◌≡◌, ℕ, suc, Ok, refl, ap, sym, subst, ◌∙◌}
use Rattle.uuid.specs.Text.{parsed}
use Rattle.bson_kinds.specs.Outcome.{◌>>=◌, result_map}
use Rattle.bson_base.specs.Pairs.{put}
use Rattle.bson_base.specs.Sorted.{sorted}
use Rattle.bson_base.specs.Tree as tree
use Rattle.bson_base.specs.Tree.{Tree, Pairs, no_pairs, no_trees}
use Rattle.bson_kinds.specs.declared.element_type.ElementType.TheVariants as kinds
use Rattle.bson_rawdoc.specs.Node.{Node, double, string, document, array, bytes, boolean, null, int32, int64, extended, too_deep, Extended, binary, undefined, object_id, date_time, regular_expression, db_pointer, javascript_code, symbol, javascript_code_with_scope, timestamp, decimal128, max_key, min_key, Nodes, ended, then_node}
use Rattle.bson_kinds.specs.Piece.{Piece, made}
use Rattle.bson_values.specs.Marked.{contents}
use Rattle.bson_values.specs.Refusal.{at_key, at_index, under, under_index}
use Rattle.bson_values.specs.declared.wrapper.Wrapper.TheVariants.{Oid}
use Rattle.bson_laws.specs.Datum.{datum, uuid_datum}
use Rattle.bson_laws.specs.Judged.{judged, scope_key}
use Rattle.bson_laws.specs.Leaves.{ExtendedLeaf, object_ids, uuids, of_kind, trees, documents}
use Rattle.bson_laws.specs.ReadsExtended.{tree_of_kind, with_length, object_id_at, or_bad_uuid, uuid_in, uuid_at, read_extended}
use Rattle.bson_laws.specs.Trees.{or_bad, pairs_in, by_key, after_scope, as_tree, extended_tree, array_trees, document_tree, after_code}
use Rattle.bson_laws.specs.Wrapped.{id_of_text}
use Rattle.bson_laws.proofs.TreesRead.{no_wrapper}
use Rattle.bson_ways_laws.specs.Ways.{IsCommon}
use Rattle.bson_ways_laws.proofs.BothWays.{Both, Equal, SameValue, both_ok, both_bind, both_map, both_inside, both_then, both_equal}
use Rattle.bson_ways_laws.proofs.Likes.{AreCommon, Like, ExtendedLike, NodesLike, ItemsLike}

-- an element whose key begins not with `$` is a pair
key_step : (k : Piece) (n : Node) (ns : Nodes) (ps : Pairs) (t : Tree) → IsCommon k.bytes → document_tree (then_node k n ns) ps ≡ Ok t
    → (under k.bytes (judged n >>= λ _. as_tree n) >>= λ u. document_tree ns (put k.bytes u ps)) ≡ Ok t
key_step k n ns ps t c e =
    ap (λ o. by_key o k.bytes n (judged n >>= λ _. as_tree n) (λ u. document_tree ns (put k.bytes u ps)) (λ x. after_code x ns) (λ qs. after_scope qs ns)) (sym (no_wrapper k.bytes c)) ∙ e

mutual
  pub as_tree_like : (n m : Node) → Like n m → Both Equal (as_tree n) (as_tree m)
  as_tree_like (double a) (double b) h = both_ok Equal (tree.double a) (tree.double b) (ap tree.double h)
  as_tree_like (string p) (string q) h = both_ok Equal (tree.string p.bytes) (tree.string q.bytes) (ap tree.string h.0)
  as_tree_like (document w ns) (document z ms) h = document_tree_like ns ms no_pairs h.0 h.1
  as_tree_like (array w ns) (array z ms) h = both_map Equal Equal (array_trees 0 ns) (array_trees 0 ms) tree.array tree.array (array_trees_like 0 ns ms h) (λ a b q. ap tree.array q)
  as_tree_like (bytes w p) (bytes z q) h = both_ok Equal (tree.binary 0 p.bytes) (tree.binary 0 q.bytes) (ap (tree.binary 0) h)
  as_tree_like (boolean a) (boolean b) h = both_ok Equal (tree.boolean a) (tree.boolean b) (ap tree.boolean h)
  as_tree_like null null h = both_ok Equal tree.null tree.null refl
  as_tree_like (int32 a) (int32 b) h = both_ok Equal (tree.int32 a) (tree.int32 b) (ap tree.int32 h)
  as_tree_like (int64 a) (int64 b) h = both_ok Equal (tree.int64 a) (tree.int64 b) (ap tree.int64 h)
  as_tree_like (extended x ns) (extended y ms) h = extended_tree_like x y h.0
  as_tree_like (too_deep k) (too_deep l) h = λ x y e f. absurd cc
  as_tree_like n m h = absurd h

  extended_tree_like : (x y : Extended) → ExtendedLike x y → Both Equal (extended_tree x) (extended_tree y)
  extended_tree_like (binary s p) (binary t q) h = both_ok Equal (tree.binary s p.bytes) (tree.binary t q.bytes) (λ j. tree.binary (h.0 j) (h.1 j))
  extended_tree_like undefined undefined h = both_ok Equal tree.undefined tree.undefined refl
  extended_tree_like (object_id p) (object_id q) h = both_ok Equal (tree.object_id p.bytes) (tree.object_id q.bytes) (ap tree.object_id h)
  extended_tree_like (date_time a) (date_time b) h = both_ok Equal (tree.date_time a) (tree.date_time b) (ap tree.date_time h)
  extended_tree_like (regular_expression p o) (regular_expression q r) h =
      both_ok Equal (tree.regular_expression p.bytes (sorted o.bytes)) (tree.regular_expression q.bytes (sorted r.bytes)) (λ j. tree.regular_expression (h.0.0 j) (h.1 j))
  extended_tree_like (db_pointer p a) (db_pointer q b) h = both_ok Equal (tree.db_pointer p.bytes a) (tree.db_pointer q.bytes b) (λ j. tree.db_pointer (h.0.0 j) (h.1 j))
  extended_tree_like (javascript_code p) (javascript_code q) h = both_ok Equal (tree.javascript_code p.bytes) (tree.javascript_code q.bytes) (ap tree.javascript_code h.0)
  extended_tree_like (symbol p) (symbol q) h = both_ok Equal (tree.symbol p.bytes) (tree.symbol q.bytes) (ap tree.symbol h.0)
  extended_tree_like (javascript_code_with_scope p n) (javascript_code_with_scope q m) h =
      let r = (judged n >>= λ _. as_tree n) in
      let s = (judged m >>= λ _. as_tree m) in
      both_map Equal Equal (under scope_key (r >>= pairs_in)) (under scope_key (s >>= pairs_in)) (tree.javascript_code_with_scope p.bytes) (tree.javascript_code_with_scope q.bytes)
      (both_inside Equal (at_key scope_key) (at_key scope_key) (r >>= pairs_in) (s >>= pairs_in)
      (both_bind Equal Equal r s pairs_in pairs_in (both_then Equal n m (as_tree n) (as_tree m) (as_tree_like n m h.1)) (λ a b g. both_equal (pairs_in a) (pairs_in b) (ap pairs_in g))))
      (λ a b g j. tree.javascript_code_with_scope (h.0.0 j) (g j))
  extended_tree_like (timestamp t i) (timestamp u k) h = both_ok Equal (tree.timestamp t i) (tree.timestamp u k) (λ j. tree.timestamp (h.0 j) (h.1 j))
  extended_tree_like (decimal128 p) (decimal128 q) h = both_ok Equal (tree.decimal128 p.bytes) (tree.decimal128 q.bytes) (ap tree.decimal128 h)
  extended_tree_like max_key max_key h = both_ok Equal tree.max_key tree.max_key refl
  extended_tree_like min_key min_key h = both_ok Equal tree.min_key tree.min_key refl
  extended_tree_like x y h = absurd h

  array_trees_like : (i : ℕ) (ns ms : Nodes) → ItemsLike ns ms → Both Equal (array_trees i ns) (array_trees i ms)
  array_trees_like i ended ended h = both_ok Equal no_trees no_trees refl
  array_trees_like i (then_node k n ns) (then_node l m ms) h =
      let r = (judged n >>= λ _. as_tree n) in
      let s = (judged m >>= λ _. as_tree m) in
      both_bind Equal Equal (under_index i r) (under_index i s) (λ t. result_map (tree.tree t) (array_trees (suc i) ns)) (λ t. result_map (tree.tree t) (array_trees (suc i) ms))
      (both_inside Equal (at_index i) (at_index i) r s (both_then Equal n m (as_tree n) (as_tree m) (as_tree_like n m h.0)))
      (λ a b g. both_map Equal Equal (array_trees (suc i) ns) (array_trees (suc i) ms) (tree.tree a) (tree.tree b) (array_trees_like (suc i) ns ms h.1) (λ c d o j. tree.tree (g j) (o j)))
  array_trees_like i ns ms h = absurd h

  document_tree_like : (ns ms : Nodes) (ps : Pairs) → AreCommon ns → NodesLike ns ms → Both Equal (document_tree ns ps) (document_tree ms ps)
  document_tree_like ended ended ps c h = both_ok Equal (tree.document ps) (tree.document ps) refl
  document_tree_like (then_node k n ns) (then_node l m ms) ps c h =
      λ x y e f.
      let r = (judged n >>= λ _. as_tree n) in
      let s = (judged m >>= λ _. as_tree m) in
      both_bind Equal Equal (under k.bytes r) (under l.bytes s) (λ u. document_tree ns (put k.bytes u ps)) (λ u. document_tree ms (put l.bytes u ps))
      (both_inside Equal (at_key k.bytes) (at_key l.bytes) r s (both_then Equal n m (as_tree n) (as_tree m) (as_tree_like n m (h.1 c.0))))
      (λ a b g. subst (λ qs. Both Equal (document_tree ns (put k.bytes a ps)) (document_tree ms qs)) (λ j. put (h.0 j) (g j) ps) (document_tree_like ns ms (put k.bytes a ps) c.1 h.2))
      x y (key_step k n ns ps x c.0 e) (key_step l m ms ps y (subst IsCommon h.0 c.0) f)
  document_tree_like ns ms ps c h = absurd h

-- ---- extended leaves

object_id_like : (n m : Node) → Like n m → Both Equal (object_id_at n) (object_id_at m)
object_id_like (extended (object_id p) ns) (extended (object_id q) ms) h = both_ok Equal (tree.object_id p.bytes) (tree.object_id q.bytes) (ap tree.object_id h.0)
object_id_like (string p) (string q) h = both_equal (or_bad Oid (id_of_text p.bytes)) (or_bad Oid (id_of_text q.bytes)) (ap (λ x. or_bad Oid (id_of_text x)) h.0)
object_id_like (bytes w p) (bytes z q) h = both_equal (result_map tree.object_id (with_length 12 p.bytes)) (result_map tree.object_id (with_length 12 q.bytes)) (ap (λ x. result_map tree.object_id (with_length 12 x)) h)
object_id_like (document w ns) (document z ms) h =
    both_bind Equal Equal (as_tree (document w ns)) (as_tree (document z ms)) (tree_of_kind kinds.ObjectId) (tree_of_kind kinds.ObjectId) (as_tree_like (document w ns) (document z ms) h)
    (λ a b g. both_equal (tree_of_kind kinds.ObjectId a) (tree_of_kind kinds.ObjectId b) (ap (tree_of_kind kinds.ObjectId) g))
object_id_like (extended x ns) (extended y ms) h = other x y h.0 where
  other : (x y : Extended) → ExtendedLike x y → Both Equal (object_id_at (extended x ns)) (object_id_at (extended y ms))
  other (object_id p) (object_id q) g = both_ok Equal (tree.object_id p.bytes) (tree.object_id q.bytes) (ap tree.object_id g)
  other x y g = λ a b e f. absurd cc
object_id_like (extended x ns) (string q) h = absurd h
object_id_like (extended x ns) (bytes z q) h = absurd h
object_id_like (extended x ns) (document w q) h = absurd h
object_id_like (string x) (extended y q) h = absurd h
object_id_like (string x) (bytes z q) h = absurd h
object_id_like (string x) (document w q) h = absurd h
object_id_like (bytes w x) (extended y q) h = absurd h
object_id_like (bytes w x) (string q) h = absurd h
object_id_like (bytes w x) (document z q) h = absurd h
object_id_like (document w x) (extended y q) h = absurd h
object_id_like (document w x) (string q) h = absurd h
object_id_like (document w x) (bytes z q) h = absurd h
object_id_like n m h = λ a b e f. absurd cc

uuid_like : (n m : Node) → Like n m → Both Equal (uuid_at n) (uuid_at m)
uuid_like (extended x ns) (extended y ms) h = other x y h.0 where
  other : (x y : Extended) → ExtendedLike x y → Both Equal (uuid_at (extended x ns)) (uuid_at (extended y ms))
  other (binary s p) (binary t q) g = both_equal (uuid_at (extended (binary s p) ns)) (uuid_at (extended (binary t q) ms)) (λ j. uuid_at (extended (binary (g.0 j) (made (g.1 j))) ns))
  other x y g = λ a b e f. absurd cc
uuid_like (string p) (string q) h = both_equal (or_bad_uuid (parsed p.bytes)) (or_bad_uuid (parsed q.bytes)) (ap (λ x. or_bad_uuid (parsed x)) h.0)
uuid_like (document w ns) (document z ms) h =
    both_bind Equal Equal (as_tree (document w ns)) (as_tree (document z ms)) uuid_in uuid_in (as_tree_like (document w ns) (document z ms) h) (λ a b g. both_equal (uuid_in a) (uuid_in b) (ap uuid_in g))
uuid_like (extended x ns) (string q) h = absurd h
uuid_like (extended x ns) (document w q) h = absurd h
uuid_like (string x) (extended y q) h = absurd h
uuid_like (string x) (document w q) h = absurd h
uuid_like (document w x) (extended y q) h = absurd h
uuid_like (document w x) (string q) h = absurd h
uuid_like n m h = λ a b e f. absurd cc

pub extended_like : (k : ExtendedLeaf) (n m : Node) → Like n m → Both SameValue (read_extended k n) (read_extended k m)
extended_like object_ids n m h = both_map Equal SameValue (object_id_at n) (object_id_at m) (datum made) (datum made) (object_id_like n m h) (λ a b g _. ap (λ t. contents (datum made t)) g)
extended_like uuids n m h = both_map Equal SameValue (uuid_at n) (uuid_at m) (uuid_datum made) (uuid_datum made) (uuid_like n m h) (λ a b g _. ap (λ t. contents (uuid_datum made t)) g)
extended_like (of_kind k) n m h =
    both_map Equal SameValue (as_tree n >>= tree_of_kind k) (as_tree m >>= tree_of_kind k) (datum made) (datum made)
    (both_bind Equal Equal (as_tree n) (as_tree m) (tree_of_kind k) (tree_of_kind k) (as_tree_like n m h) (λ a b g. both_equal (tree_of_kind k a) (tree_of_kind k b) (ap (tree_of_kind k) g)))
    (λ a b g _. ap (λ t. contents (datum made t)) g)
extended_like trees n m h = both_map Equal SameValue (as_tree n) (as_tree m) (datum made) (datum made) (as_tree_like n m h) (λ a b g _. ap (λ t. contents (datum made t)) g)
extended_like documents n m h =
    both_map Equal SameValue (as_tree n >>= pairs_in) (as_tree m >>= pairs_in) (λ ps. datum made (tree.document ps)) (λ ps. datum made (tree.document ps))
    (both_bind Equal Equal (as_tree n) (as_tree m) pairs_in pairs_in (as_tree_like n m h) (λ a b g. both_equal (pairs_in a) (pairs_in b) (ap pairs_in g)))
    (λ a b g _. ap (λ ps. contents (datum made (tree.document ps))) g)
