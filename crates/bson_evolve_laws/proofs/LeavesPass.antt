-- A leaf that is in another has each of its trees.
use Rattle.std.proofs.Common.{◌≡◌, ℕ, zero, ℤ, pos, negsuc, Bool, true, false, cond, Some, None, refl, arith}
use Rattle.std.specs.Prelude.{IsSome, nat_eq, FitsSigned, ◌&&◌, not, int_le, int_lt}
use Rattle.std.specs.Int.{w32, w64}
use Rattle.std.proofs.lemmas.Bool.Decides.{nat_tests}
use Rattle.std.proofs.lemmas.Int.{ints}
use Rattle.bson_kinds.specs.Kind.{byte}
use Rattle.bson_base.specs.Sound.{IsClean}
use Rattle.bson_base.specs.Tree.{Tree, kind, null, string, binary, boolean, double, int32, int64}
use Rattle.bson_kinds.specs.declared.element_type.ElementType.TheVariants as kinds
use Rattle.bson_values.specs.Value as value
use Rattle.bson_values.specs.Value.{IntegerType, u64, least, greatest, in_range, Value}
use Rattle.bson_laws.specs.Leaves.{LeafKind, anything, booleans, numbers, doubles, characters, texts, byte_strings, byte_buffers, units, ExtendedLeaf, object_ids, uuids, of_kind, trees, documents, extended_values}
use Rattle.bson_laws.specs.Views.{as_integer, views_any, views_leaf, views_extended}
use Rattle.bson_evolve_laws.specs.Rows.{top, lies_in, is_free, extended_in, leaf_in}

if_some : (b : Bool) (v : Value) → IsSome (cond b (Some v) None) → b ≡ true
if_some true v h = refl
if_some false v h = absurd cc

some_if : (b : Bool) (v : Value) → b ≡ true → IsSome (cond b (Some v) None)
some_if true v h = refl
some_if false v h = absurd cc

same_byte : (a b c : ℕ) → nat_eq a b ≡ true → nat_eq b c ≡ true → nat_eq a c ≡ true
same_byte a b c e f = grind (arith, nat_tests, e, f)

-- ---- numbers

between : (l k g h n : ℤ) → (int_le k l && int_le g h) ≡ true → (not (int_lt n l) && not (int_lt g n)) ≡ true → (not (int_lt n k) && not (int_lt h n)) ≡ true
between l k g h n e r = grind (arith, ints, e, r)

-- the number is one of the type, and of `i64`
abbrev in_top : IntegerType → ℤ → Bool
in_top t n = not (int_lt n (least t)) && not (int_lt (greatest (top t)) n)

to_top : (t : IntegerType) (n : ℤ) → FitsSigned w64 n → in_range t n ≡ true → in_top t n ≡ true
to_top u64 (pos n) c h = grind (arith, ints, c, h)
to_top u64 (negsuc n) c h = grind (arith, ints, c, h)
to_top t n c h = h

from_top : (t : IntegerType) (n : ℤ) → in_top t n ≡ true → in_range t n ≡ true
from_top u64 (pos n) h = grind (arith, ints, h)
from_top u64 (negsuc n) h = grind (arith, ints, h)
from_top t n h = h

in_wider : (t u : IntegerType) (n : ℤ) → FitsSigned w64 n → lies_in t u ≡ true → in_range t n ≡ true → in_range u n ≡ true
in_wider t u n c e h = from_top u n (between (least t) (least u) (greatest (top t)) (greatest (top u)) n e (to_top t n c h))

narrow : (n : ℤ) → FitsSigned w32 n → FitsSigned w64 n
narrow (pos n) h = grind (arith, ints, h)
narrow (negsuc n) h = grind (arith, ints, h)

number_pass : (t u : IntegerType) (n : ℤ) → FitsSigned w64 n → lies_in t u ≡ true → IsSome (as_integer t n) → IsSome (as_integer u n)
number_pass t u n c e h = some_if (in_range u n) (value.integer u n) (in_wider t u n c e (if_some (in_range t n) (value.integer t n) h))

-- ---- extended leaves

extended_pass : (k l : ExtendedLeaf) (t : Tree) → extended_in k l ≡ true → IsSome (views_extended k t) → IsSome (views_extended l t)
extended_pass k trees t e h = refl
extended_pass object_ids object_ids t e h = h
extended_pass uuids uuids t e h = h
extended_pass uuids (of_kind kinds.Binary) (binary n b) e h = refl
extended_pass uuids (of_kind kinds.Binary) t e h = absurd cc
extended_pass (of_kind k) (of_kind l) t e h = some_if _ _ (same_byte (byte (kind t)) (byte k) (byte l) (if_some _ _ h) e)
extended_pass documents documents t e h = h
extended_pass k l t e h = absurd cc

-- ---- without a shape

pub free_pass : (k : LeafKind) (t : Tree) → is_free k ≡ true → IsSome (views_leaf k t) → IsSome (views_any t)
free_pass anything t e h = h
free_pass booleans (boolean b) e h = refl
free_pass (numbers type) (int32 n) e h = refl
free_pass (numbers type) (int64 n) e h = refl
free_pass doubles (double bits) e h = refl
free_pass characters (string x) e h = refl
free_pass texts (string x) e h = refl
free_pass byte_strings (binary zero b) e h = refl
free_pass byte_buffers (binary zero b) e h = refl
free_pass units null e h = refl
free_pass k t e h = absurd cc

-- ---- all leaves

bytes_pass : (t : Tree) → IsSome (views_leaf byte_strings t) → IsSome (views_leaf byte_buffers t)
bytes_pass (binary zero b) h = refl
bytes_pass t h = absurd cc

buffers_pass : (t : Tree) → IsSome (views_leaf byte_buffers t) → IsSome (views_leaf byte_strings t)
buffers_pass (binary zero b) h = refl
buffers_pass t h = absurd cc

pub leaf_pass : (k l : LeafKind) (t : Tree) → IsClean t → leaf_in k l ≡ true → IsSome (views_leaf k t) → IsSome (views_leaf l t)
leaf_pass (extended_values k) (extended_values l) t c e h = extended_pass k l t e h
leaf_pass k (extended_values trees) t c e h = refl
leaf_pass byte_strings (extended_values (of_kind kinds.Binary)) (binary zero b) c e h = refl
leaf_pass byte_strings (extended_values (of_kind kinds.Binary)) t c e h = absurd cc
leaf_pass byte_buffers (extended_values (of_kind kinds.Binary)) (binary zero b) c e h = refl
leaf_pass byte_buffers (extended_values (of_kind kinds.Binary)) t c e h = absurd cc
leaf_pass k anything t c e h = free_pass k t e h
leaf_pass (numbers t) (numbers u) (int32 n) c e h = number_pass t u n (narrow n c) e h
leaf_pass (numbers t) (numbers u) (int64 n) c e h = number_pass t u n c e h
leaf_pass (numbers t) (numbers u) x c e h = absurd cc
leaf_pass booleans booleans t c e h = h
leaf_pass doubles doubles t c e h = h
leaf_pass characters characters t c e h = h
leaf_pass characters texts (string x) c e h = refl
leaf_pass characters texts t c e h = absurd cc
leaf_pass texts texts t c e h = h
leaf_pass byte_strings byte_strings t c e h = h
leaf_pass byte_strings byte_buffers t c e h = bytes_pass t h
leaf_pass byte_buffers byte_strings t c e h = buffers_pass t h
leaf_pass byte_buffers byte_buffers t c e h = h
leaf_pass units units t c e h = h
leaf_pass k l t c e h = absurd cc
