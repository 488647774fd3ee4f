-- Equality, part by part.
use Rattle.std.proofs.Common.{◌≡◌, ℕ, Bool, false, List, [], ◌∷◌, ◌+◌, ◌<◌, get_or, string_bytes, length, drop, refl, ap, sym, ◌∙◌, arith}
use Rattle.std.specs.Prelude.{◌&&◌}
use Rattle.std.specs.Global.{Vec}
use Rattle.std.specs.Str.{bytes_eq}
use Rattle.std.proofs.lemmas.List.{drop_more}
use Rattle.std.proofs.lemmas.Bool.{and_right}
use Rattle.bson_key_map.specs.declared.pair.Pair.{Pair}
use Rattle.bson_base.specs.BsonView.{tree_of, trees_of, listed_pairs}
use Rattle.bson_base.specs.Same.{same, same_trees, same_pairs}
use Rattle.bson_base.specs.declared.bson.Bson as bson
use Rattle.bson_base.specs.declared.bson.Bson.{Bson}
use Rattle.bson_base.specs.declared.bson.Bson.TheViews.{roll-Bson, roll-out-Bson, rolls-Array, outs-Array', rolls-Document, rolls-JavaScriptCodeWithScope, outs-Document', outs-JavaScriptCodeWithScope'}
use Rattle.bson_base.specs.declared.code_with_scope.JavaScriptCodeWithScope.{JavaScriptCodeWithScope}
use Rattle.bson_base.specs.declared.document.Document.{Document}

-- the values that a loop has left to compare
abbrev pub same_trees_from : ℕ → List Bson → List Bson → Bool
same_trees_from i xs ys = same_trees (trees_of (drop i xs)) (trees_of (drop i ys))

pub same_trees-lengths : (xs ys : List Bson) → (length xs ≡ length ys → ⊥) → same_trees (trees_of xs) (trees_of ys) ≡ false
same_trees-lengths [] [] h = absurd (h refl)
same_trees-lengths [] (y ∷ ys) h = refl
same_trees-lengths (x ∷ xs) [] h = refl
same_trees-lengths (x ∷ xs) (y ∷ ys) h = and_right _ _ (same_trees-lengths xs ys (λ e. h (omega arith)))

-- the pairs that a loop has left to compare
abbrev pub same_pairs_from : ℕ → List (Pair Bson) → List (Pair Bson) → Bool
same_pairs_from i ps qs = same_pairs (listed_pairs (drop i ps)) (listed_pairs (drop i qs))

pub same_pairs-lengths : (ps qs : List (Pair Bson)) → (length ps ≡ length qs → ⊥) → same_pairs (listed_pairs ps) (listed_pairs qs) ≡ false
same_pairs-lengths [] [] h = absurd (h refl)
same_pairs-lengths [] (q ∷ qs) h = refl
same_pairs-lengths (p ∷ ps) [] h = refl
same_pairs-lengths (p ∷ ps) (q ∷ qs) h = and_right _ _ (same_pairs-lengths ps qs (λ e. h (omega arith)))

-- the first of them, and those after it
pub same_pairs-step : (ps qs : List (Pair Bson)) (i : ℕ) (p q : Pair Bson) → i < length ps → i < length qs → p ≡ get_or ps i p → q ≡ get_or qs i q
    → same_pairs_from i ps qs ≡ ((bytes_eq (string_bytes p.key) (string_bytes q.key) && same (tree_of p.value) (tree_of q.value)) && same_pairs_from (i + 1) ps qs)
same_pairs-step ps qs i p q lt less is are =
    let here : drop i ps ≡ p ∷ drop (i + 1) ps = drop_more ps i p lt ∙ ap (λ x. x ∷ drop (i + 1) ps) (sym is) in
    let there : drop i qs ≡ q ∷ drop (i + 1) qs = drop_more qs i q less ∙ ap (λ x. x ∷ drop (i + 1) qs) (sym are) in
    λ j. same_pairs (listed_pairs (here j)) (listed_pairs (there j))

-- an array and a value that is none
pub unlike_array : (d e : Bson) (ds : Vec Bson) → d ≡ bson.Array ds → ((es : Vec Bson) → e ≡ bson.Array es → ⊥) → false ≡ same (tree_of d) (tree_of e)
unlike_array d (bson.Array' shape row) ds is none = absurd (none _ (sym (roll-out-Bson (bson.Array' shape row)) ∙ ap roll-Bson (outs-Array' shape row) ∙ rolls-Array _))
unlike_array d e ds is none = sym (ap (λ x. same (tree_of x) (tree_of e)) is)

-- a document and a value that is none
pub unlike_document : (d e : Bson) (doc : Document) → d ≡ bson.Document doc → ((other : Document) → e ≡ bson.Document other → ⊥) → false ≡ same (tree_of d) (tree_of e)
unlike_document d (bson.Document' keys row) doc is none =
    absurd (none _ (sym (roll-out-Bson (bson.Document' keys row)) ∙ ap roll-Bson (outs-Document' keys row) ∙ rolls-Document _))
unlike_document d e doc is none = sym (ap (λ x. same (tree_of x) (tree_of e)) is)

-- code with a scope and a value that is none
pub unlike_scoped : (d e : Bson) (scoped : JavaScriptCodeWithScope) → d ≡ bson.JavaScriptCodeWithScope scoped → ((other : JavaScriptCodeWithScope) → e ≡ bson.JavaScriptCodeWithScope other → ⊥) → false ≡ same (tree_of d) (tree_of e)
unlike_scoped d (bson.JavaScriptCodeWithScope' code keys row) scoped is none =
    absurd (none _ (sym (roll-out-Bson (bson.JavaScriptCodeWithScope' code keys row)) ∙ ap roll-Bson (outs-JavaScriptCodeWithScope' code keys row) ∙ rolls-JavaScriptCodeWithScope _))
unlike_scoped d e scoped is none = sym (ap (λ x. same (tree_of x) (tree_of e)) is)
