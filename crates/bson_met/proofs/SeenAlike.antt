-- A value whose texts are mended is of its kind, and has as many elements.
use Rattle.std.proofs.Common.{◌≡◌, suc, Bool, true, false, refl, ap, sym}
use Rattle.bson_rawdoc.specs.Node.{Node, double, string, document, array, bytes, boolean, null, int32, int64, broken, too_deep, extended, Extended, regular_expression, db_pointer, javascript_code, symbol, javascript_code_with_scope, Nodes, ended, faulty, then_node, kind_of, extended_kind, mended, mended_value, mended_nodes}
use Rattle.bson_laws.proofs.Mended.{mended_twice, nodes_twice}
use Rattle.bson_met.specs.Nulls.{is_null}
use Rattle.bson_met.specs.Seen.{seen, seen_nodes}
use Rattle.bson_met.specs.Sizes.{count}

value_kind : (x : Extended) → extended_kind (mended_value x) ≡ extended_kind x
value_kind (regular_expression p q) = refl
value_kind (db_pointer n id) = refl
value_kind (javascript_code t) = refl
value_kind (symbol t) = refl
value_kind (javascript_code_with_scope t s) = refl
value_kind x = refl

pub mended_kind : (n : Node) → kind_of (mended n) ≡ kind_of n
mended_kind (extended x ns) = value_kind x
mended_kind n = refl

pub seen_kind : (mends : Bool) (n : Node) → kind_of (seen mends n) ≡ kind_of n
seen_kind false n = refl
seen_kind true n = mended_kind n

pub mended_null : (n : Node) → is_null (mended n) ≡ is_null n
mended_null (double b) = refl
mended_null (string t) = refl
mended_null (document s ns) = refl
mended_null (array s ns) = refl
mended_null (bytes u b) = refl
mended_null (boolean b) = refl
mended_null null = refl
mended_null (int32 n) = refl
mended_null (int64 n) = refl
mended_null (extended x ns) = refl
mended_null (broken k e) = refl
mended_null (too_deep k) = refl

pub seen_null : (mends : Bool) (n : Node) → is_null (seen mends n) ≡ is_null n
seen_null false n = refl
seen_null true n = mended_null n

mended_count : (ns : Nodes) → count (mended_nodes ns) ≡ count ns
mended_count ended = refl
mended_count (faulty e) = refl
mended_count (then_node k n ns) = ap suc (mended_count ns)

pub seen_count : (mends : Bool) (ns : Nodes) → count (seen_nodes mends ns) ≡ count ns
seen_count false ns = refl
seen_count true ns = mended_count ns

-- mended twice is mended once
pub seen_mended : (mends : Bool) (n : Node) → mended n ≡ mended (seen mends n)
seen_mended false n = refl
seen_mended true n = sym (mended_twice n)

pub nodes_mended : (mends : Bool) (ns : Nodes) → mended_nodes ns ≡ mended_nodes (seen_nodes mends ns)
nodes_mended false ns = refl
nodes_mended true ns = sym (nodes_twice ns)
