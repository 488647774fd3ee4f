-- A file is migrated as its parts are.
use Rattle.std.proofs.Common.{◌≡◌, ℕ, suc, ◌+◌, List, [], ◌∷◌, ◌++◌, map, length, Option, Some, None, refl, ap, sym, ◌∙◌, arith}
use Rattle.std.proofs.lemmas.List.{append_assoc}
use Rattle.std.specs.Prelude.{option_map}
use Rattle.bson_kinds.specs.Text.{Bytes}
use Rattle.bson_rawdoc.specs.Cut.{Cut, cut}
use Rattle.bson_parts.specs.Parts.{moved}
use Rattle.bson_shape.specs.Form.{Form}
use Rattle.bson_tree_recast.specs.Recast.{Recast, writes, unread, unwritten, recast_of}
use Rattle.bson_migrate_run.specs.Migrating.{NotRecast, bytes_of, outputs, listed, not_recast, migration_by, migration_of}
use Rattle.bson_stream_run.specs.Parts.{renumbered, in_parts}
use Rattle.bson_parts.proofs.Parts.{cut_in_parts}

module _ (s : Form) where
  pub outputs_behind : (ps qs : List Bytes) → outputs s (ps ++ qs) ≡ outputs s ps ++ outputs s qs
  outputs_behind [] qs = refl
  outputs_behind (p ∷ ps) qs = ap (λ o. bytes_of (recast_of s p) ++ o) (outputs_behind ps qs) ∙ sym (append_assoc (bytes_of (recast_of s p)) (outputs s ps) (outputs s qs))

  listed_behind : (n : ℕ) (x : Recast) (xs ys : List NotRecast) → listed n x (xs ++ ys) ≡ listed n x xs ++ ys
  listed_behind n (writes b) xs ys = refl
  listed_behind n (unread f) xs ys = refl
  listed_behind n (unwritten e t) xs ys = refl

  listed_behind_at : (n : ℕ) (ps qs : List Bytes) → not_recast s n (ps ++ qs) ≡ not_recast s n ps ++ not_recast s (length ps + n) qs
  listed_behind_at n [] qs = let same : n ≡ 0 + n = omega arith in ap (λ m. not_recast s m qs) same
  listed_behind_at n (p ∷ ps) qs =
      let same : length ps + suc n ≡ suc (length ps) + n = omega arith in
      ap (listed n (recast_of s p)) (listed_behind_at (suc n) ps qs ∙ ap (λ m. not_recast s (suc n) ps ++ not_recast s m qs) same)
      ∙ listed_behind n (recast_of s p) (not_recast s (suc n) ps) (not_recast s (suc (length ps) + n) qs)

  listed_moved : (d n : ℕ) (x : Recast) (xs : List NotRecast) → listed (d + n) x (map (renumbered d) xs) ≡ map (renumbered d) (listed n x xs)
  listed_moved d n (writes b) xs = refl
  listed_moved d n (unread f) xs = refl
  listed_moved d n (unwritten e t) xs = refl

  numbers_moved : (d n : ℕ) (ps : List Bytes) → not_recast s (d + n) ps ≡ map (renumbered d) (not_recast s n ps)
  numbers_moved d n [] = refl
  numbers_moved d n (p ∷ ps) =
      let same : suc (d + n) ≡ d + suc n = omega arith in
      ap (λ m. listed (d + n) (recast_of s p) (not_recast s m ps)) same ∙ ap (listed (d + n) (recast_of s p)) (numbers_moved d (suc n) ps) ∙ listed_moved d n (recast_of s p) (not_recast s (suc n) ps)

  by_break : (d k : ℕ) (first : Option ℕ) (second : Option ℕ) (o p : Bytes) (xs ys : List NotRecast) → first ≡ None
      → migration_by (option_map (λ place. d + place) second) (o ++ p) (xs ++ map (renumbered k) ys) ≡ in_parts d k (migration_by first o xs) (migration_by second p ys)
  by_break d k (Some place) second o p xs ys e = absurd cc
  by_break d k None (Some place) o p xs ys e = refl
  by_break d k None None o p xs ys e = refl

  -- A file that begins with whole documents is migrated as they are, and then as what is behind them is, with its numbers and its place moved.
  pub migration_in_parts : (a b : Bytes) → (cut a).broken ≡ None → migration_of s (a ++ b) ≡ in_parts (length a) (length (cut a).pieces) (migration_of s a) (migration_of s b)
  migration_in_parts a b none =
      let k = length (cut a).pieces in
      let zero_more : k + 0 ≡ k = omega arith in
      ap (λ (c : Cut). migration_by c.broken (outputs s c.pieces) (not_recast s 0 c.pieces)) (cut_in_parts a b none)
      ∙ ap (λ o. migration_by (moved (length a) (cut b)).broken o (not_recast s 0 ((cut a).pieces ++ (cut b).pieces))) (outputs_behind (cut a).pieces (cut b).pieces)
      ∙ ap (λ l. migration_by (moved (length a) (cut b)).broken (outputs s (cut a).pieces ++ outputs s (cut b).pieces) l)
      (listed_behind_at 0 (cut a).pieces (cut b).pieces ∙ ap (λ l. not_recast s 0 (cut a).pieces ++ l) (numbers_moved k 0 (cut b).pieces))
      ∙ by_break (length a) k (cut a).broken (cut b).broken (outputs s (cut a).pieces) (outputs s (cut b).pieces) (not_recast s 0 (cut a).pieces) (not_recast s 0 (cut b).pieces) none
