-- What trees are that reading gives, of whatever they are read.
use Rattle.std.proofs.Common.{◌≡◌, zero, suc, ◌^◌, ◌<◌, length, true, false, cond, Bool, None, refl, ap}
use Rattle.std.specs.Int.{w32, w64}
use Rattle.std.specs.Prelude.{FitsSigned, nat_eq}
use Rattle.std.specs.Str.{is_utf8, bytes_eq}
use Rattle.bson_kinds.specs.Kind.{byte}
use Rattle.bson_base.specs.Pairs.{put}
use Rattle.bson_base.specs.Sorted.{sorted}
use Rattle.bson_base.specs.Sound.{Lacks}
use Rattle.bson_kinds.specs.Text.{Bytes, Utf8, AreBytes}
use Rattle.bson_base.specs.Tree as tree
use Rattle.bson_base.specs.Tree.{Tree, Pairs, no_pairs, pair, Trees, no_trees, kind}
use Rattle.bson_values.specs.Value.{Value}
use Rattle.bson_values.specs.Wrapper.{of_key}
use Rattle.bson_laws.specs.Datum.{datum, uuid_datum, itself, sorted_tree, sorted_pairs, sorted_trees}
use Rattle.bson_laws.specs.Leaves as leaf_kinds
use Rattle.bson_laws.specs.Leaves.{ExtendedLeaf, object_ids, uuids, of_kind, documents}
use Rattle.bson_laws.proofs.Coded.{IsName}
use Rattle.bson_laws.proofs.Fitted.{unlike_swap}
use Rattle.bson_laws.proofs.TreesRead.{IsReadable, ArePairsReadable, AreTreesReadable}

abbrev mutual
  -- each part has the size of its kind, texts are UTF-8, options are in order, no key is a wrapper key, and none occurs twice; nothing is given by its bytes
  pub IsGivenTree : Tree → Type 0
  IsGivenTree (tree.double bits) = length bits ≡ 8
  IsGivenTree (tree.string t) = is_utf8 t ≡ true
  IsGivenTree (tree.document ps) = ArePairsGiven ps
  IsGivenTree (tree.array ts) = AreTreesGiven ts
  IsGivenTree (tree.binary zero b) = Unit {0}
  IsGivenTree (tree.binary (suc n) b) = (suc n < 256) × AreBytes b
  IsGivenTree (tree.object_id id) = (length id ≡ 12) × AreBytes id
  IsGivenTree (tree.date_time n) = FitsSigned w64 n
  IsGivenTree (tree.regular_expression p q) = (is_utf8 p ≡ true) × (is_utf8 q ≡ true) × (sorted q ≡ q)
  IsGivenTree (tree.db_pointer namespace id) = (is_utf8 namespace ≡ true) × (length id ≡ 12) × AreBytes id
  IsGivenTree (tree.javascript_code t) = is_utf8 t ≡ true
  IsGivenTree (tree.symbol t) = is_utf8 t ≡ true
  IsGivenTree (tree.javascript_code_with_scope code scope) = (is_utf8 code ≡ true) × ArePairsGiven scope
  IsGivenTree (tree.int32 n) = FitsSigned w32 n
  IsGivenTree (tree.timestamp time increment) = (time < 2 ^ 32) × (increment < 2 ^ 32)
  IsGivenTree (tree.int64 n) = FitsSigned w64 n
  IsGivenTree (tree.decimal128 b) = length b ≡ 16
  IsGivenTree (tree.raw k b) = ⊥
  IsGivenTree t = Unit {0}

  pub ArePairsGiven : Pairs → Type 0
  ArePairsGiven no_pairs = Unit {0}
  ArePairsGiven (pair key t ps) = IsName key × (of_key key ≡ None) × Lacks key ps × IsGivenTree t × ArePairsGiven ps

  pub AreTreesGiven : Trees → Type 0
  AreTreesGiven no_trees = Unit {0}
  AreTreesGiven (tree.tree t ts) = IsGivenTree t × AreTreesGiven ts

-- at a leaf of an extended kind
abbrev pub IsGivenExtended : ExtendedLeaf → Value → Type 0
IsGivenExtended object_ids v = (id : Bytes) × IsGivenTree (tree.object_id id) × (v ≡ datum itself (tree.object_id id))
IsGivenExtended uuids v = (b : Bytes) × (length b ≡ 16) × (v ≡ uuid_datum itself b)
IsGivenExtended (of_kind k) v = (t : Tree) × (nat_eq (byte (kind t)) (byte k) ≡ true) × IsGivenTree t × (v ≡ datum itself t)
IsGivenExtended leaf_kinds.trees v = (t : Tree) × IsGivenTree t × (v ≡ datum itself t)
IsGivenExtended documents v = (ps : Pairs) × ArePairsGiven ps × (v ≡ datum itself (tree.document ps))

-- it is read
mutual
  pub given_readable : (t : Tree) → IsGivenTree t → IsReadable t
  given_readable (tree.string t) g = g
  given_readable (tree.document ps) g = pairs_readable ps g
  given_readable (tree.array ts) g = trees_readable ts g
  given_readable (tree.regular_expression p q) g = (g.0, g.1)
  given_readable (tree.db_pointer namespace id) g = g.0
  given_readable (tree.javascript_code t) g = g
  given_readable (tree.symbol t) g = g
  given_readable (tree.javascript_code_with_scope code scope) g = (g.0, pairs_readable scope g.1)
  given_readable (tree.raw k b) g = absurd g
  given_readable t g = tt

  pairs_readable : (ps : Pairs) → ArePairsGiven ps → ArePairsReadable ps
  pairs_readable no_pairs g = tt
  pairs_readable (pair key t ps) g = (g.1, g.2, given_readable t g.3, pairs_readable ps g.4)

  trees_readable : (ts : Trees) → AreTreesGiven ts → AreTreesReadable ts
  trees_readable no_trees g = tt
  trees_readable (tree.tree t ts) g = (given_readable t g.0, trees_readable ts g.1)

-- its options are in order
mutual
  pub given_sorted : (t : Tree) → IsGivenTree t → sorted_tree t ≡ t
  given_sorted (tree.document ps) g = ap tree.document (pairs_sorted ps g)
  given_sorted (tree.array ts) g = ap tree.array (trees_sorted ts g)
  given_sorted (tree.regular_expression p q) g = ap (tree.regular_expression p) g.2
  given_sorted (tree.javascript_code_with_scope code scope) g = ap (tree.javascript_code_with_scope code) (pairs_sorted scope g.1)
  given_sorted t g = refl

  pub pairs_sorted : (ps : Pairs) → ArePairsGiven ps → sorted_pairs ps ≡ ps
  pairs_sorted no_pairs g = refl
  pairs_sorted (pair key t ps) g = λ i. pair key (given_sorted t g.3 i) (pairs_sorted ps g.4 i)

  trees_sorted : (ts : Trees) → AreTreesGiven ts → sorted_trees ts ≡ ts
  trees_sorted no_trees g = refl
  trees_sorted (tree.tree t ts) g = λ i. tree.tree (given_sorted t g.0 i) (trees_sorted ts g.1 i)

-- ---- one more pair

lacks_either : (key : Utf8) (b : Bool) (ps qs : Pairs) → Lacks key ps → Lacks key qs → Lacks key (cond b ps qs)
lacks_either key true ps qs l m = l
lacks_either key false ps qs l m = m

put_lacks : (k key : Utf8) (t : Tree) (ps : Pairs) → bytes_eq k key ≡ false → Lacks k ps → Lacks k (put key t ps)
put_lacks k key t no_pairs e l = (e, tt)
put_lacks k key t (pair j old ps) e l = lacks_either k (bytes_eq key j) (pair j t ps) (pair j old (put key t ps)) l (l.0, put_lacks k key t ps e l.1)

pub put_given : (key : Utf8) (t : Tree) (ps : Pairs) → IsName key → of_key key ≡ None → IsGivenTree t → ArePairsGiven ps → ArePairsGiven (put key t ps)
put_given key t no_pairs n m g h = (n, m, tt, g, tt)
put_given key t (pair k old ps) n m g h = by_case (bytes_eq key k) refl (put_given key t ps n m g h.4) where
  by_case : (b : Bool) → bytes_eq key k ≡ b → ArePairsGiven (put key t ps) → ArePairsGiven (cond b (pair k t ps) (pair k old (put key t ps)))
  by_case true is rest = (h.0, h.1, h.2, g, h.4)
  by_case false is rest = (h.0, h.1, put_lacks k key t ps (unlike_swap key k is) h.2, h.3, rest)
