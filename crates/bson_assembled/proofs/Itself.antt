-- A tree with free keys is built as itself.
use Rattle.std.proofs.Common.{◌≡◌, ℕ, zero, suc, ◌≤◌, length, false, cond, Some, None, Ok, Err, refl, ap, ◌∙◌, arith}
use Rattle.std.specs.Prelude.{nat_lt}
use Rattle.std.proofs.lemmas.Bool.Decides.{nat_tests}
use Rattle.bson_base.specs.Encoded.{key_zero, binary_too_long, zero_fault, binary_fault}
use Rattle.bson_kinds.specs.Outcome.{◌>>=◌, result_map, or_else}
use Rattle.bson_base.specs.Sound.{max_levels, max_bytes, max_binary}
use Rattle.bson_kinds.specs.Text.{Bytes, Utf8, has_zero}
use Rattle.bson_base.specs.Tree.{Tree, double, string, document, array, binary, undefined, object_id, boolean, date_time, null, regular_expression, db_pointer, javascript_code, symbol, javascript_code_with_scope, int32, timestamp, int64, decimal128, max_key, min_key, raw, Pairs, no_pairs, pair, Trees, no_trees, tree, behind_subtype, enc, depth, pairs_depth, trees_depth}
use Rattle.bson_values.specs.Cause.{too_long}
use Rattle.bson_laws.specs.Encodable.{IsEncodable, ArePairsEncodable, AreTreesEncodable}
use Rattle.bson_laws.proofs.TreesRead.{no_wrapper}
use Rattle.bson_laws.specs.Assembled.{Building, unless, stays, looked_tree, with_pair, with_scope, by_key, built, looked_at, built_pairs, built_trees, after_code, raw_bytes, within_limit, assembled}
use Rattle.bson_assembled.specs.FreeKeys.{HasFreeKeys, AreKeysFree, HaveFreeKeys}

free_part : (t : Utf8) → has_zero t ≡ false → zero_fault t ≡ None
free_part t e = ap (λ b. cond b (Some (key_zero t)) None) e

short_binary : (subtype : ℕ) (b : Bytes) → length b ≤ max_binary subtype → binary_fault subtype b ≡ None
short_binary subtype b h =
    let within : nat_lt (max_binary subtype) (length b) ≡ false = grind (arith, nat_tests) in
    ap (λ x. cond x (Some (binary_too_long (length (behind_subtype subtype b)))) None) within

-- a value that stands under a free key without a zero, before others
paired : (key : Utf8) (t : Tree) (ps : Pairs) (value : Building Tree) (others : Building Pairs) → has_zero key ≡ false → value ≡ Ok t → others ≡ Ok ps
    → with_pair key value others ≡ Ok (pair key t ps)
paired key t ps value others z v o =
    ap (λ f. unless f value >>= λ u. result_map (pair key u) others) (free_part key z)
    ∙ ap (λ r. r >>= λ u. result_map (pair key u) others) v
    ∙ ap (result_map (pair key t)) o

mutual
  built_itself : (t : Tree) (levels : ℕ) → HasFreeKeys t → IsEncodable t → depth t ≤ levels → built t levels ≡ Ok t
  built_itself (double bits) levels f e d = refl
  built_itself (string t) levels f e d = refl
  built_itself (document ps) zero f e d = absurd (omega (arith, d))
  built_itself (document ps) (suc levels) f e d = ap (result_map looked_tree) (looked_itself ps levels f e (omega (arith, d)))
  built_itself (array ts) zero f e d = absurd (omega (arith, d))
  built_itself (array ts) (suc levels) f e d = ap (result_map array) (trees_itself ts levels f e (omega (arith, d)))
  built_itself (binary subtype b) levels f e d = ap (λ o. unless o (Ok (binary subtype b))) (short_binary subtype b e)
  built_itself undefined levels f e d = refl
  built_itself (object_id id) levels f e d = refl
  built_itself (boolean b) levels f e d = refl
  built_itself (date_time n) levels f e d = refl
  built_itself null levels f e d = refl
  built_itself (regular_expression pattern options) levels f e d =
      ap (λ o. unless (or_else o (zero_fault options)) (Ok (regular_expression pattern options))) (free_part pattern e.0)
      ∙ ap (λ o. unless o (Ok (regular_expression pattern options))) (free_part options e.1)
  built_itself (db_pointer namespace id) levels f e d = refl
  built_itself (javascript_code t) levels f e d = refl
  built_itself (symbol t) levels f e d = refl
  built_itself (javascript_code_with_scope text scope) zero f e d = absurd (omega (arith, d))
  built_itself (javascript_code_with_scope text scope) (suc levels) f e d = ap (with_scope text) (looked_itself scope levels f e (omega (arith, d)))
  built_itself (int32 n) levels f e d = refl
  built_itself (timestamp time increment) levels f e d = refl
  built_itself (int64 n) levels f e d = refl
  built_itself (decimal128 bits) levels f e d = refl
  built_itself max_key levels f e d = refl
  built_itself min_key levels f e d = refl
  built_itself (raw k b) levels f e d = absurd e

  looked_itself : (ps : Pairs) (levels : ℕ) → AreKeysFree ps → ArePairsEncodable ps → pairs_depth ps ≤ levels → looked_at ps levels ≡ Ok (stays ps)
  looked_itself no_pairs levels f e d = refl
  looked_itself (pair key t ps) levels f e d =
      ap (λ w. by_key w t (λ text. after_code ps text levels) (result_map stays (with_pair key (built t levels) (built_pairs ps levels)))) (no_wrapper key f.0)
      ∙ ap (result_map stays) (paired key t ps _ _ e.0 (built_itself t levels f.1 e.1 (omega (arith, d))) (pairs_itself ps levels f.2 e.2 (omega (arith, d))))

  pairs_itself : (ps : Pairs) (levels : ℕ) → AreKeysFree ps → ArePairsEncodable ps → pairs_depth ps ≤ levels → built_pairs ps levels ≡ Ok ps
  pairs_itself no_pairs levels f e d = refl
  pairs_itself (pair key t ps) levels f e d = paired key t ps _ _ e.0 (built_itself t levels f.1 e.1 (omega (arith, d))) (pairs_itself ps levels f.2 e.2 (omega (arith, d)))

  trees_itself : (ts : Trees) (levels : ℕ) → HaveFreeKeys ts → AreTreesEncodable ts → trees_depth ts ≤ levels → built_trees ts levels ≡ Ok ts
  trees_itself no_trees levels f e d = refl
  trees_itself (tree t ts) levels f e d =
      ap (λ r. r >>= λ u. result_map (tree u) (built_trees ts levels)) (built_itself t levels f.0 e.0 (omega (arith, d)))
      ∙ ap (result_map (tree t)) (trees_itself ts levels f.1 e.1 (omega (arith, d)))

pub assembled_itself : (t : Tree) → HasFreeKeys t → IsEncodable t → depth t ≤ max_levels → length (enc t) ≤ max_bytes → assembled t ≡ Ok (raw_bytes t)
assembled_itself t f e d fits =
    let within : nat_lt max_bytes (length (enc t)) ≡ false = grind (arith, nat_tests) in
    ap (λ r. r >>= within_limit) (built_itself t max_levels f e d) ∙ ap (λ b. cond b (Err too_long) (Ok (raw_bytes t))) within
