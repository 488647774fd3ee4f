-- A tree behind those that were made.
use Rattle.std.proofs.Common.{◌≡◌, ℕ, Bool, false, List, [], ◌∷◌, ◌++◌, Option, Some, Ok, refl, ap, sym, subst, ◌∙◌}
use Rattle.std.specs.Global.{Vec}
use Rattle.std.specs.Prelude.{option_map}
use Rattle.bson_base.specs.BsonView.{tree_of, trees_of}
use Rattle.bson_kinds.specs.Outcome.{◌>>=◌}
use Rattle.bson_base.specs.Tree.{tree}
use Rattle.bson_base.specs.declared.bson.Bson.{Bson}
use Rattle.bson_values.specs.Value.{Value}
use Rattle.bson_tree_laws.specs.TreeSpell.{tree_spell}
use Rattle.bson_ser_tree.specs.Steps.{StepsFrom, with_tree, item_step}

one_more : (bs : List Bson) (b : Bson) → trees_of (bs ++ b ∷ []) ≡ with_tree (trees_of bs) (tree_of b)
one_more [] b = refl
one_more (c ∷ bs) b = ap (tree (tree_of c)) (one_more bs b)

-- a writer of an array that had not failed took one more value
pub item_pushed : (readable : Bool) (v : Value) (levels : ℕ) (old : Option (Vec Bson)) (so_far all : Vec Bson) (b : Bson) → old ≡ Some so_far → tree_spell readable false v levels ≡ Ok (tree_of b) → all.items ≡ so_far.items ++ b ∷ []
    → StepsFrom (option_map (λ w. trees_of w.items) old) (item_step readable v levels) (Some (trees_of all.items)) (Ok tt)
item_pushed readable v levels old so_far all b was made pushed =
    let before = trees_of so_far.items in
    subst (λ o. StepsFrom (option_map (λ w. trees_of w.items) o) (item_step readable v levels) (Some (trees_of all.items)) (Ok tt)) (sym was)
    (with_tree before (tree_of b), ap (λ x. x >>= λ t. Ok (with_tree before t)) made, ap Some (ap trees_of pushed ∙ one_more so_far.items b))
