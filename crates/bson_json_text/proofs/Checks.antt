-- The values of an array, one after another.
use Rattle.std.proofs.Common.{◌≡◌, ℕ, suc, ◌+◌, ◌<◌, List, length, drop, get_or, Option, None, sym, ap, subst, ◌∙◌, arith}
use Rattle.bson_kinds.specs.Outcome.{or_else}
use Rattle.bson_base.specs.BsonView.{tree_of, trees_of}
use Rattle.bson_base.specs.declared.bson.Bson.{Bson}
use Rattle.bson_values.specs.Refusal.{Refusal, at_index}
use Rattle.bson_json_laws.specs.Held.{IsHeld, AreTreesHeld}
use Rattle.bson_json_laws.specs.TextFault.{fault_in, text_fault, trees_text_fault}
use Rattle.bson_json_laws.specs.declared.text_fault.TextFault.{TextFault}
use Rattle.bson_json_text.proofs.Putting.{tree_at}

-- a value without a fault is passed over
pub item_passed : (xs : List Bson) (i : ℕ) (x : Bson) (whole : Option (Refusal TextFault)) → i < length xs → x ≡ get_or xs i x → whole ≡ trees_text_fault i (trees_of (drop i xs))
    → fault_in (at_index i) (text_fault (tree_of x)) ≡ None → whole ≡ trees_text_fault (i + 1) (trees_of (drop (i + 1) xs))
item_passed xs i x whole lt at is none =
    let one : suc i ≡ i + 1 = omega arith in
    is ∙ ap (trees_text_fault i) (tree_at xs i x lt at)
    ∙ ap (λ o. or_else o (trees_text_fault (suc i) (trees_of (drop (i + 1) xs)))) none
    ∙ ap (λ n. trees_text_fault n (trees_of (drop (i + 1) xs))) one

pub items_held : (xs : List Bson) (i : ℕ) (x : Bson) → i < length xs → x ≡ get_or xs i x → (AreTreesHeld (trees_of (drop i xs)) → AreTreesHeld (trees_of xs)) → IsHeld (tree_of x)
    → AreTreesHeld (trees_of (drop (i + 1) xs)) → AreTreesHeld (trees_of xs)
items_held xs i x lt at more h k = more (subst AreTreesHeld (sym (tree_at xs i x lt at)) (h, k))
