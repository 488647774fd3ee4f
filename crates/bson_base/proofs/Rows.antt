-- A value whose values are in a list of values, or of pairs.
use Rattle.std.proofs.Common.{◌≡◌, List, [], ◌∷◌, refl, ap, ◌∙◌, string_bytes}
use Rattle.std.specs.Prelude.{map}
use Rattle.std.specs.Global.{Vec}
use Rattle.bson_key_map.specs.Keys.{Key}
use Rattle.bson_key_map.specs.declared.pair.Pair.{Pair}
use Rattle.bson_base.specs.Tree.{tree, Pairs, no_pairs, pair}
use Rattle.bson_base.specs.BsonView.{tree_of, row_of, trees_of, pairs_row, listed_pairs}
use Rattle.bson_base.specs.declared.bson.Bson.TheBlock.{hidden-the_row-Bson-0, shape-the_row-Bson-1, hidden-the_row-Bson-1}
use Rattle.bson_base.specs.declared.bson.Bson.{Bson, Row_of-Bson, end_of-Bson, more_of-Bson, items-the_row-Bson, items_hidden-the_row-Bson-0, items_hidden-the_row-Bson-1}

row_is : (m : _) (row : Row_of-Bson m) → row_of row ≡ trees_of (items-the_row-Bson m row)
row_is m end_of-Bson = refl
row_is m (more_of-Bson b rest) = ap (tree (tree_of b)) (row_is _ rest)

pub row_items : (bs : Vec Bson) → row_of (hidden-the_row-Bson-0 bs) ≡ trees_of bs.items
row_items bs = row_is _ (hidden-the_row-Bson-0 bs) ∙ ap trees_of (items_hidden-the_row-Bson-0 bs)

-- the same, of keys beside values
named : List (Key × Unit {0}) → List Bson → Pairs
named [] bs = no_pairs
named (k ∷ ks) [] = no_pairs
named (k ∷ ks) (b ∷ bs) = pair (string_bytes k.0) (tree_of b) (named ks bs)

abbrev key_of : Pair Bson → Key × Unit {0}
key_of p = (p.key, tt)

row_named : (m : _) (ks : List (Key × Unit {0})) (row : Row_of-Bson m) → pairs_row ks row ≡ named ks (items-the_row-Bson m row)
unfolding named
row_named m [] row = refl
row_named m (k ∷ ks) end_of-Bson = refl
row_named m (k ∷ ks) (more_of-Bson b rest) = ap (pair (string_bytes k.0) (tree_of b)) (row_named _ ks rest)

shape_is : (ps : List (Pair Bson)) → shape-the_row-Bson-1 ps ≡ map key_of ps
unfolding shape-the_row-Bson-1
shape_is [] = refl
shape_is (p ∷ ps) = ap (λ ks. key_of p ∷ ks) (shape_is ps)

named_pairs : (ps : List (Pair Bson)) → named (map key_of ps) (map (λ p. p.value) ps) ≡ listed_pairs ps
unfolding named
named_pairs [] = refl
named_pairs (p ∷ ps) = ap (pair (string_bytes p.key) (tree_of p.value)) (named_pairs ps)

pub row_pairs : (ps : List (Pair Bson)) → pairs_row (shape-the_row-Bson-1 ps) (hidden-the_row-Bson-1 ps) ≡ listed_pairs ps
row_pairs ps = row_named _ (shape-the_row-Bson-1 ps) (hidden-the_row-Bson-1 ps) ∙ (λ i. named (shape_is ps i) (items_hidden-the_row-Bson-1 ps i)) ∙ named_pairs ps
