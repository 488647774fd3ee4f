-- A tree at a leaf of numbers.
use Rattle.std.proofs.Common.{◌≡◌, true, Option, Some, None, refl, sym, subst}
use Rattle.std.specs.Prelude.{ℤ, is_some, option_and_then}
use Rattle.bson_base.specs.Tree as trees
use Rattle.bson_base.specs.Tree.{Tree}
use Rattle.bson_shape.specs.declared.leaf.Leaf.{Leaf}
use Rattle.bson_shape.specs.declared.leaf.Leaf.TheVariants as leaves
use Rattle.bson_values.specs.Value.{IntegerType, i8, i16, i32, i64, u8, u16, u32, u64, Value}
use Rattle.bson_laws.specs.Leaves.{LeafKind, anything, ignored, booleans, numbers, doubles, characters, texts, byte_strings, byte_buffers, units, extended_values, raw_documents, raw_arrays, raw_values, leaf_kind}
use Rattle.bson_laws.specs.Views.{views_leaf}
use Rattle.bson_moved.specs.Numbers.{integer_in, number_at, number_view}
use Rattle.bson_moved.specs.Simple.{is_simple_leaf}

-- at a kind of numbers a tree is the number that it has
kind_same : (type : IntegerType) (t : Tree) → views_leaf (numbers type) t ≡ number_view (numbers type) t
kind_same type (trees.double b) = refl
kind_same type t = refl

none_some : (f : ℤ → Option Value) (o : Option ℤ) → ((n : ℤ) → f n ≡ None) → is_some (option_and_then f o) ≡ true → ⊥
none_some f None e h = absurd cc
none_some f (Some n) e h = absurd (cc (e n))

-- a number that is there
pub number_present : (k : LeafKind) (t : Tree) → is_some (number_view k t) ≡ true → is_some (views_leaf k t) ≡ true
number_present (numbers type) t h = subst (λ (o : Option Value). is_some o ≡ true) (sym (kind_same type t)) h
number_present anything t h = absurd (none_some (number_at anything) (integer_in t) (λ n. refl) h)
number_present ignored t h = absurd (none_some (number_at ignored) (integer_in t) (λ n. refl) h)
number_present booleans t h = absurd (none_some (number_at booleans) (integer_in t) (λ n. refl) h)
number_present doubles t h = absurd (none_some (number_at doubles) (integer_in t) (λ n. refl) h)
number_present characters t h = absurd (none_some (number_at characters) (integer_in t) (λ n. refl) h)
number_present texts t h = absurd (none_some (number_at texts) (integer_in t) (λ n. refl) h)
number_present byte_strings t h = absurd (none_some (number_at byte_strings) (integer_in t) (λ n. refl) h)
number_present byte_buffers t h = absurd (none_some (number_at byte_buffers) (integer_in t) (λ n. refl) h)
number_present units t h = absurd (none_some (number_at units) (integer_in t) (λ n. refl) h)
number_present (extended_values x) t h = absurd (none_some (number_at (extended_values x)) (integer_in t) (λ n. refl) h)
number_present raw_documents t h = absurd (none_some (number_at raw_documents) (integer_in t) (λ n. refl) h)
number_present raw_arrays t h = absurd (none_some (number_at raw_arrays) (integer_in t) (λ n. refl) h)
number_present raw_values t h = absurd (none_some (number_at raw_values) (integer_in t) (λ n. refl) h)

-- a simple leaf that takes neither booleans nor doubles nor texts takes numbers
pub number_same : (l : Leaf) (t : Tree) → is_simple_leaf l ≡ true → (l ≡ leaves.Bool → ⊥) → (l ≡ leaves.Double → ⊥) → (l ≡ leaves.String → ⊥) → views_leaf (leaf_kind l) t ≡ number_view (leaf_kind l) t
number_same leaves.Bool t h b d s = absurd (b refl)
number_same leaves.Double t h b d s = absurd (d refl)
number_same leaves.String t h b d s = absurd (s refl)
number_same leaves.I8 t h b d s = kind_same i8 t
number_same leaves.I16 t h b d s = kind_same i16 t
number_same leaves.I32 t h b d s = kind_same i32 t
number_same leaves.I64 t h b d s = kind_same i64 t
number_same leaves.U8 t h b d s = kind_same u8 t
number_same leaves.U16 t h b d s = kind_same u16 t
number_same leaves.U32 t h b d s = kind_same u32 t
number_same leaves.U64 t h b d s = kind_same u64 t
number_same l t h b d s = absurd cc
