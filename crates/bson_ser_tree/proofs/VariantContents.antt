-- A variant whose contents are made, and one whose contents are refused.
use Rattle.std.proofs.Common.{◌≡◌, ℕ, zero, suc, ◌-◌, Ok, refl, ap, sym, subst, ◌∙◌, arith}
use Rattle.bson_kinds.specs.Outcome.{◌>>=◌, result_map}
use Rattle.bson_kinds.specs.Text.{Utf8}
use Rattle.bson_base.specs.Tree.{Tree, document, no_pairs, pair}
use Rattle.bson_values.specs.Refusal.{at_key, under}
use Rattle.bson_values.specs.Stop.{IsUnder}
use Rattle.bson_values.specs.declared.ser.Fault.{Fault}
use Rattle.bson_values.specs.declared.stop.Stop.{Stop}
use Rattle.bson_laws.specs.Spell.{Writing}
use Rattle.bson_tree_laws.specs.TreeSpell.{tree_variant}
use Rattle.bson_ser_tree.proofs.Refusals.{StopsAs, stops_bind, stops_map, stops_inside}

pub variant_stops : (name : Utf8) (levels : ℕ) (content : ℕ → Writing Tree) (s t : Stop Fault) → (levels ≡ 0 → ⊥) → IsUnder (at_key name) s t → StopsAs s (content (levels - 1)) → StopsAs t (tree_variant name levels content)
variant_stops name zero content s t left u h = absurd (left refl)
variant_stops name (suc n) content s t left u h =
    let less : suc n - 1 ≡ n = omega arith in
    let here = subst (λ m. StopsAs s (content m)) less h in
    stops_map t document (under name (content n) >>= λ x. Ok (pair name x no_pairs))
    (stops_bind t (under name (content n)) (λ x. Ok (pair name x no_pairs)) (stops_inside (at_key name) s t (content n) u here))

pub variant_made : (name : Utf8) (levels : ℕ) (content : ℕ → Writing Tree) (inside whole : Tree) → (levels ≡ 0 → ⊥) → content (levels - 1) ≡ Ok inside → whole ≡ document (pair name inside no_pairs) → tree_variant name levels content ≡ Ok whole
variant_made name zero content inside whole left h is = absurd (left refl)
variant_made name (suc n) content inside whole left h is =
    let less : suc n - 1 ≡ n = omega arith in
    let here : content n ≡ Ok inside = subst (λ m. content m ≡ Ok inside) less h in
    ap (λ r. result_map document (under name r >>= λ t. Ok (pair name t no_pairs))) here ∙ ap Ok (sym is)
