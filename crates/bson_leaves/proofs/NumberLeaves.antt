-- The leaves that take numbers.
use Rattle.std.proofs.Common.{◌≡◌, ◌⊎◌, inl, inr, ℤ, Bool, true, false, cond, Some, None, Ok, Err, refl, ap, sym, subst, ◌∙◌}
use Rattle.bson_kinds.specs.Outcome.{◌>>=◌}
use Rattle.bson_rawdoc.specs.Node.{Node}
use Rattle.bson_shape.specs.Form.{leaf}
use Rattle.bson_shape.specs.declared.leaf.Leaf.{Leaf}
use Rattle.bson_shape.specs.declared.leaf.Leaf.TheVariants.{I8, I16, I32, I64, U8, U16, U32, U64}
use Rattle.bson_values.specs.Value as value
use Rattle.bson_values.specs.Cause.{out_of_range}
use Rattle.bson_values.specs.Value.{IntegerType, in_range}
use Rattle.bson_laws.specs.Leaves.{LeafKind, numbers, leaf_kind}
use Rattle.bson_values.specs.Marked.{Marked}
use Rattle.bson_laws.specs.Judged.{Reading, judged, refused}
use Rattle.bson_laws.specs.ReadsLeaf.{borrows}
use Rattle.bson_laws.specs.Reads.{reads, read_leaf}
use Rattle.bson_laws.specs.Taken.{integer_of}
use Rattle.bson_met.specs.MetView.{integer_at}
use Rattle.bson_texts.specs.Leaves.{number_as, number_at, reads_number}

abbrev TakesNumbers : Leaf → Type 0
TakesNumbers l = (l ≡ I8) ⊎ (l ≡ I16) ⊎ (l ≡ I32) ⊎ (l ≡ I64) ⊎ (l ≡ U8) ⊎ (l ≡ U16) ⊎ (l ≡ U32) ⊎ (l ≡ U64)

type_of : (l : Leaf) → TakesNumbers l → (type : IntegerType) × (leaf_kind l ≡ numbers type)
type_of l (inl e) = (value.i8, ap leaf_kind e)
type_of l (inr (inl e)) = (value.i16, ap leaf_kind e)
type_of l (inr (inr (inl e))) = (value.i32, ap leaf_kind e)
type_of l (inr (inr (inr (inl e)))) = (value.i64, ap leaf_kind e)
type_of l (inr (inr (inr (inr (inl e))))) = (value.u8, ap leaf_kind e)
type_of l (inr (inr (inr (inr (inr (inl e)))))) = (value.u16, ap leaf_kind e)
type_of l (inr (inr (inr (inr (inr (inr (inl e))))))) = (value.u32, ap leaf_kind e)
type_of l (inr (inr (inr (inr (inr (inr (inr e))))))) = (value.u64, ap leaf_kind e)

then_twice : {A B C : Type 0} (r : Reading A) (f : A → Reading B) (g : B → Reading C) → (r >>= λ x. f x >>= g) ≡ ((r >>= f) >>= g)
then_twice (Ok x) f g = refl
then_twice (Err e) f g = refl

by_kind : (k : LeafKind) (type : IntegerType) (b : Bool) (n : Node) → k ≡ numbers type → (judged n >>= read_leaf b k) ≡ reads_number k n
by_kind k type b n e = subst (λ x. (judged n >>= read_leaf b x) ≡ reads_number x n) (sym e) (then_twice (judged n) integer_of (number_at (numbers type)))

-- a value at one of them is read as a number
pub number_read : (l : Leaf) (n : Node) → TakesNumbers l → reads (leaf l) n ≡ reads_number (leaf_kind l) n
number_read l n takes = let type = type_of l takes in by_kind (leaf_kind l) type.0 (borrows l) n type.1

-- a number that is one of the leaf's type is not refused there
ranged : (b : Bool) (type : IntegerType) (n : ℤ) (x : Marked) → Some x ≡ cond b (Some (value.integer type n)) None → cond b (Ok (value.integer type n)) (refused (out_of_range n)) ≡ Ok x
ranged true type n x e = cc
ranged false type n x e = absurd cc

number_taken : (k : LeafKind) (n : ℤ) (x : Marked) → Some x ≡ number_as k n → number_at k n ≡ Ok x
number_taken (numbers type) n x e = ranged (in_range type n) type n x e
number_taken k n x e = absurd cc

pub number_given : (k : LeafKind) (v : Node) (n : ℤ) (x : Marked) → integer_at v ≡ Ok n → Some x ≡ number_as k n → reads_number k v ≡ Ok x
number_given k v n x is e = ap (λ r. r >>= number_at k) is ∙ number_taken k n x e
