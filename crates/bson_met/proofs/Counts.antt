-- How many elements there are.
use Rattle.std.proofs.Common.{◌≡◌, ℕ, suc, ◌≤◌, List, [], ◌∷◌, length, refl, ap, arith}
use Rattle.bson_base.specs.BsonView.{trees_of}
use Rattle.bson_base.specs.Pairs as pairs
use Rattle.bson_kinds.specs.Text.{Bytes}
use Rattle.bson_base.specs.Tree.{Pairs, no_pairs, pair}
use Rattle.bson_base.specs.declared.bson.Bson.{Bson}
use Rattle.bson_kinds.specs.declared.element_type.ElementType.{ElementType}
use Rattle.bson_rawdoc.specs.Next as next
use Rattle.bson_rawdoc.specs.Node as node
use Rattle.bson_rawdoc.specs.Node.{Sight, Node, nodes_with, pair_nodes, tree_nodes, opened}
use Rattle.bson_rawdoc.specs.Walk.{Walk, ended, faulty, then_walk}
use Rattle.bson_met.specs.OpenedView.{left_nodes}
use Rattle.bson_met.specs.Sizes.{count}
use Rattle.bson_met.specs.declared.opened.Place.{Place}
use Rattle.bson_met.specs.declared.opened.Place.TheVariants as places

pub count_walk : (see : ElementType → Bytes → Node) (w : Walk) → count (nodes_with see w) ≡ next.count w
count_walk see ended = refl
count_walk see (faulty e) = refl
count_walk see (then_walk e w) = ap suc (count_walk see w)

pub count_pairs : (at : Sight) (levels : ℕ) (ps : Pairs) → count (pair_nodes at ps levels) ≡ pairs.count ps
count_pairs at levels no_pairs = refl
count_pairs at levels (pair key t ps) = ap suc (count_pairs at levels ps)

pub count_values : (at : Sight) (i levels : ℕ) (bs : List Bson) → count (tree_nodes at i (trees_of bs) levels) ≡ length bs
count_values at i levels [] = refl
count_values at i levels (b ∷ bs) = ap suc (count_values at (suc i) levels bs)

count_whole : (x : node.Extended) → count (opened x) ≤ 2
count_whole (node.binary s b) = omega arith
count_whole node.undefined = omega arith
count_whole (node.object_id id) = omega arith
count_whole (node.date_time n) = omega arith
count_whole (node.regular_expression p o) = omega arith
count_whole (node.db_pointer n id) = omega arith
count_whole (node.javascript_code t) = omega arith
count_whole (node.symbol t) = omega arith
count_whole (node.javascript_code_with_scope c s) = omega arith
count_whole (node.timestamp t i) = omega arith
count_whole (node.decimal128 b) = omega arith
count_whole node.max_key = omega arith
count_whole node.min_key = omega arith

-- a document that a value is opened to has two elements at most
pub count_left : (p : Place) (x : node.Extended) → count (left_nodes p x) ≤ 2
count_left places.Start x = count_whole x
count_left places.Behind (node.javascript_code_with_scope c s) = omega arith
count_left places.Inside (node.date_time n) = omega arith
count_left places.Inside (node.binary s b) = omega arith
count_left places.Inside (node.timestamp t i) = omega arith
count_left places.Inside (node.regular_expression p o) = omega arith
count_left places.Inside (node.db_pointer n id) = omega arith
count_left places.InsideBehind (node.binary s b) = omega arith
count_left places.InsideBehind (node.timestamp t i) = omega arith
count_left places.InsideBehind (node.regular_expression p o) = omega arith
count_left places.InsideBehind (node.db_pointer n id) = omega arith
count_left places.Deep (node.db_pointer n id) = omega arith
count_left p x = omega arith
