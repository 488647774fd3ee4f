-- How the logic stores a tree and the pairs of a document.
use Rattle.std.specs.Prelude.{◌≡◌, refl}
use Rattle.std.specs.Coded.{Coded, coded_ℕ, coded_ℤ, coded_bool, coded_list}
use Rattle.std.proofs.Common.{ap, arith}
use base.Stored.{Gv, gnil, gnum, gcons}
use Rattle.bson_kinds.specs.Prover.Stored.{head, tail, num}
use Rattle.bson_kinds.specs.Text.{Bytes}
use Rattle.bson_kinds.specs.Kind.{byte}
use Rattle.bson_kinds.specs.Prover.KindBytes.{same_byte}
use Rattle.bson_base.specs.Tree.{Tree, double, string, document, array, binary, undefined, object_id, boolean, date_time, null, regular_expression, db_pointer, javascript_code, symbol, javascript_code_with_scope, int32, timestamp, int64, decimal128, max_key, min_key, raw, Pairs, no_pairs, pair, Trees, no_trees, tree}

abbrev coded_bytes : Coded Bytes
coded_bytes = coded_list coded_ℕ

abbrev mutual
  pub tree_code : Tree → Gv
  tree_code (double bytes) = gcons (gnum 0) (coded_bytes.code bytes)
  tree_code (string t) = gcons (gnum 1) (coded_bytes.code t)
  tree_code (document ps) = gcons (gnum 2) (pairs_code ps)
  tree_code (array ts) = gcons (gnum 3) (trees_code ts)
  tree_code (binary subtype bytes) = gcons (gnum 4) (gcons (coded_ℕ.code subtype) (coded_bytes.code bytes))
  tree_code undefined = gcons (gnum 5) gnil
  tree_code (object_id id) = gcons (gnum 6) (coded_bytes.code id)
  tree_code (boolean b) = gcons (gnum 7) (coded_bool.code b)
  tree_code (date_time n) = gcons (gnum 8) (coded_ℤ.code n)
  tree_code null = gcons (gnum 9) gnil
  tree_code (regular_expression pattern options) = gcons (gnum 10) (gcons (coded_bytes.code pattern) (coded_bytes.code options))
  tree_code (db_pointer namespace id) = gcons (gnum 11) (gcons (coded_bytes.code namespace) (coded_bytes.code id))
  tree_code (javascript_code t) = gcons (gnum 12) (coded_bytes.code t)
  tree_code (symbol t) = gcons (gnum 13) (coded_bytes.code t)
  tree_code (javascript_code_with_scope code scope) = gcons (gnum 14) (gcons (coded_bytes.code code) (pairs_code scope))
  tree_code (int32 n) = gcons (gnum 15) (coded_ℤ.code n)
  tree_code (timestamp time increment) = gcons (gnum 16) (gcons (coded_ℕ.code time) (coded_ℕ.code increment))
  tree_code (int64 n) = gcons (gnum 17) (coded_ℤ.code n)
  tree_code (decimal128 bytes) = gcons (gnum 18) (coded_bytes.code bytes)
  tree_code max_key = gcons (gnum 19) gnil
  tree_code min_key = gcons (gnum 20) gnil
  tree_code (raw k bytes) = gcons (gnum 21) (gcons (coded_ℕ.code (byte k)) (coded_bytes.code bytes))

  pub trees_code : Trees → Gv
  trees_code no_trees = gcons (gnum 0) gnil
  trees_code (tree t ts) = gcons (gnum 1) (gcons (tree_code t) (trees_code ts))

  pub pairs_code : Pairs → Gv
  pairs_code no_pairs = gcons (gnum 0) gnil
  pairs_code (pair key t ps) = gcons (gnum 1) (gcons (coded_bytes.code key) (gcons (tree_code t) (pairs_code ps)))

mutual
  pub tree_inj : (x y : Tree) → tree_code x ≡ tree_code y → x ≡ y
  tree_inj (double bytes) (double others) e = ap double (coded_bytes.inj bytes others (ap (λ g. tail g) e))
  tree_inj (string t) (string u) e = ap string (coded_bytes.inj t u (ap (λ g. tail g) e))
  tree_inj (document ps) (document qs) e = ap document (pairs_inj ps qs (ap (λ g. tail g) e))
  tree_inj (array ts) (array us) e = ap array (trees_inj ts us (ap (λ g. tail g) e))
  tree_inj (binary subtype bytes) (binary other others) e = λ i. binary (coded_ℕ.inj subtype other (ap (λ g. head (tail g)) e) i) (coded_bytes.inj bytes others (ap (λ g. tail (tail g)) e) i)
  tree_inj undefined undefined p = refl
  tree_inj (object_id id) (object_id other) e = ap object_id (coded_bytes.inj id other (ap (λ g. tail g) e))
  tree_inj (boolean b) (boolean c) e = ap boolean (coded_bool.inj b c (ap (λ g. tail g) e))
  tree_inj (date_time n) (date_time m) e = ap date_time (coded_ℤ.inj n m (ap (λ g. tail g) e))
  tree_inj null null p = refl
  tree_inj (regular_expression pattern options) (regular_expression p o) e = λ i. regular_expression (coded_bytes.inj pattern p (ap (λ g. head (tail g)) e) i) (coded_bytes.inj options o (ap (λ g. tail (tail g)) e) i)
  tree_inj (db_pointer namespace id) (db_pointer n other) e = λ i. db_pointer (coded_bytes.inj namespace n (ap (λ g. head (tail g)) e) i) (coded_bytes.inj id other (ap (λ g. tail (tail g)) e) i)
  tree_inj (javascript_code t) (javascript_code u) e = ap javascript_code (coded_bytes.inj t u (ap (λ g. tail g) e))
  tree_inj (symbol t) (symbol u) e = ap symbol (coded_bytes.inj t u (ap (λ g. tail g) e))
  tree_inj (javascript_code_with_scope code scope) (javascript_code_with_scope c s) e = λ i. javascript_code_with_scope (coded_bytes.inj code c (ap (λ g. head (tail g)) e) i) (pairs_inj scope s (ap (λ g. tail (tail g)) e) i)
  tree_inj (int32 n) (int32 m) e = ap int32 (coded_ℤ.inj n m (ap (λ g. tail g) e))
  tree_inj (timestamp time increment) (timestamp u j) e = λ i. timestamp (coded_ℕ.inj time u (ap (λ g. head (tail g)) e) i) (coded_ℕ.inj increment j (ap (λ g. tail (tail g)) e) i)
  tree_inj (int64 n) (int64 m) e = ap int64 (coded_ℤ.inj n m (ap (λ g. tail g) e))
  tree_inj (decimal128 bytes) (decimal128 others) e = ap decimal128 (coded_bytes.inj bytes others (ap (λ g. tail g) e))
  tree_inj max_key max_key p = refl
  tree_inj min_key min_key p = refl
  tree_inj (raw k bytes) (raw l others) e = λ i. raw (same_byte k l (coded_ℕ.inj (byte k) (byte l) (ap (λ g. head (tail g)) e)) i) (coded_bytes.inj bytes others (ap (λ g. tail (tail g)) e) i)
  tree_inj x y p = absurd (omega (arith, ap (λ g. num (head g)) p))

  pub trees_inj : (x y : Trees) → trees_code x ≡ trees_code y → x ≡ y
  trees_inj no_trees no_trees p = refl
  trees_inj (tree t ts) (tree u us) p = λ i. tree (tree_inj t u (ap (λ g. head (tail g)) p) i) (trees_inj ts us (ap (λ g. tail (tail g)) p) i)
  trees_inj x y p = absurd (omega (arith, ap (λ g. num (head g)) p))

  pub pairs_inj : (x y : Pairs) → pairs_code x ≡ pairs_code y → x ≡ y
  pairs_inj no_pairs no_pairs p = refl
  pairs_inj (pair key t ps) (pair k u qs) p =
      λ i. pair (coded_bytes.inj key k (ap (λ g. head (tail g)) p) i) (tree_inj t u (ap (λ g. head (tail (tail g))) p) i) (pairs_inj ps qs (ap (λ g. tail (tail (tail g))) p) i)
  pairs_inj x y p = absurd (omega (arith, ap (λ g. num (head g)) p))

abbrev pub coded_pairs : Coded Pairs
coded_pairs = record { code = pairs_code; inj = pairs_inj }
