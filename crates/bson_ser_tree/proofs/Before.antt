-- Trees that were made, before those that are to come.
use Rattle.std.proofs.Common.{◌≡◌, ℕ, suc, Bool, false, List, [], ◌∷◌, ◌++◌, Ok, Err, refl, ap, sym, ◌∙◌}
use Rattle.bson_base.specs.BsonView.{tree_of, trees_of}
use Rattle.bson_kinds.specs.Outcome.{◌>>=◌, result_map}
use Rattle.bson_base.specs.Tree.{Tree, Trees, no_trees, tree}
use Rattle.bson_base.specs.declared.bson.Bson.{Bson}
use Rattle.bson_values.specs.Refusal.{under_index}
use Rattle.bson_values.specs.Value.{Value, Items, no_items, item}
use Rattle.bson_laws.specs.Spell.{Writing}
use Rattle.bson_tree_laws.specs.TreeSpell.{tree_spell, tree_items}

abbrev pub trees_before : List Bson → Trees → Trees
trees_before [] ts = ts
trees_before (b ∷ bs) ts = tree (tree_of b) (trees_before bs ts)

before_one : (bs : List Bson) (b : Bson) (ts : Trees) → trees_before (bs ++ b ∷ []) ts ≡ trees_before bs (tree (tree_of b) ts)
before_one [] b ts = refl
before_one (c ∷ bs) b ts = ap (tree (tree_of c)) (before_one bs b ts)

before_none : (bs : List Bson) → trees_before bs no_trees ≡ trees_of bs
before_none [] = refl
before_none (b ∷ bs) = ap (tree (tree_of b)) (before_none bs)

behind_one : (bs : List Bson) (b : Bson) (x : Writing Trees) → result_map (trees_before (bs ++ b ∷ [])) x ≡ result_map (trees_before bs) (x >>= λ ts. Ok (tree (tree_of b) ts))
behind_one bs b (Ok ts) = ap Ok (before_one bs b ts)
behind_one bs b (Err f) = refl

-- one more value was made
pub before_step : (readable : Bool) (i levels : ℕ) (v : Value) (vs left : Items) (bs new : List Bson) (b : Bson) (all : Writing Trees) → result_map (trees_before bs) (tree_items readable i left levels) ≡ all → left ≡ item v vs
    → under_index i (tree_spell readable false v levels) ≡ Ok (tree_of b) → new ≡ bs ++ b ∷ [] → result_map (trees_before new) (tree_items readable (suc i) vs levels) ≡ all
before_step readable i levels v vs left bs new b all so_far is made pushed =
    ap (λ xs. result_map (trees_before xs) (tree_items readable (suc i) vs levels)) pushed
    ∙ behind_one bs b (tree_items readable (suc i) vs levels)
    ∙ sym (ap (λ x. result_map (trees_before bs) (x >>= λ t. tree_items readable (suc i) vs levels >>= λ ts. Ok (tree t ts))) made)
    ∙ sym (ap (λ xs. result_map (trees_before bs) (tree_items readable i xs levels)) is)
    ∙ so_far

-- no value is left
pub before_end : (readable : Bool) (i levels : ℕ) (left : Items) (bs : List Bson) (all : Writing Trees) → result_map (trees_before bs) (tree_items readable i left levels) ≡ all → left ≡ no_items → all ≡ Ok (trees_of bs)
before_end readable i levels left bs all so_far is = sym so_far ∙ ap (λ xs. result_map (trees_before bs) (tree_items readable i xs levels)) is ∙ ap Ok (before_none bs)
