-- Tests, and the leaf words.
use Rattle.std.proofs.Common.{◌≡◌, ℕ, Bool, true, false, cond, eqb, ◌&&◌, ◌||◌, List, [], ◌∷◌, Option, Some, refl, ap, ◌∙◌, inl, inr}
use Rattle.std.specs.Prelude.{◌⊎◌}
use Rattle.std.specs.Str.{bytes_eq}
use Rattle.std.proofs.lemmas.Bool.{eqb-true}
use Rattle.std.proofs.lemmas.Slice.Eq.{bytes_eq-Decides}
use Rattle.bson_kinds.specs.Text.{Utf8}
use Rattle.bson_shape.specs.Leaf.{word, with_word, leaves, of_word}
use Rattle.bson_shape.specs.declared.leaf.Leaf.{Leaf}
use Rattle.bson_shape.specs.declared.leaf.Leaf.TheVariants as leaf
use Rattle.bson_shape.specs.Notation.{bare}

pub and_true : (a b : Bool) → (a && b) ≡ true → (a ≡ true) × (b ≡ true)
and_true true b h = (refl, h)
and_true false b h = absurd cc

pub or_false : (a b : Bool) → (a || b) ≡ false → (a ≡ false) × (b ≡ false)
or_false true b h = absurd cc
or_false false b h = (refl, h)

pub or_rest : (a b : Bool) → (a || b) ≡ true → b ≡ false → a ≡ true
or_rest true b h f = refl
or_rest false b h f = absurd cc

on_test : (p : ℕ → Bool) (b k : ℕ) (t : Bool) → eqb b k ≡ t → p b ≡ true → p k ≡ false → t ≡ false
on_test p b k true is h e = absurd (let same : b ≡ k = eqb-true b k is in let g : p b ≡ p k = ap p same in cc)
on_test p b k false is h e = refl

-- what passes a test is no byte that does not
pub differs : (p : ℕ → Bool) (b k : ℕ) → p b ≡ true → p k ≡ false → eqb b k ≡ false
differs p b k h e = on_test p b k (eqb b k) refl h e

chosen : (t : Bool) (l m : Leaf) (later : Option Leaf) → cond t (Some m) later ≡ Some l → ((t ≡ true) × (m ≡ l)) ⊎ (later ≡ Some l)
chosen true l m later e = inl (refl, cc)
chosen false l m later e = inr e

with_word-is : (w : Utf8) (ls : List Leaf) (l : Leaf) → with_word w ls ≡ Some l → w ≡ word l
with_word-is w [] l e = absurd cc
with_word-is w (m ∷ ls) l e =
    elim (chosen (bytes_eq w (word m)) l m (with_word w ls) e) [
      | inl h ↦ (bytes_eq-Decides w (word m)).0 h.0 ∙ ap word h.1
      | inr h ↦ with_word-is w ls l h
    ]

pub of_word-is : (w : Utf8) (l : Leaf) → of_word w ≡ Some l → w ≡ word l
unfolding of_word
of_word-is w l e = with_word-is w leaves l e

pub of_word-word : (l : Leaf) → of_word (word l) ≡ Some l
unfolding of_word
of_word-word leaf.Any = refl
of_word-word leaf.Ignored = refl
of_word-word leaf.Bool = refl
of_word-word leaf.I8 = refl
of_word-word leaf.I16 = refl
of_word-word leaf.I32 = refl
of_word-word leaf.I64 = refl
of_word-word leaf.U8 = refl
of_word-word leaf.U16 = refl
of_word-word leaf.U32 = refl
of_word-word leaf.U64 = refl
of_word-word leaf.Double = refl
of_word-word leaf.Char = refl
of_word-word leaf.Str = refl
of_word-word leaf.String = refl
of_word-word leaf.Bytes = refl
of_word-word leaf.ByteBuf = refl
of_word-word leaf.Unit = refl
of_word-word leaf.ObjectId = refl
of_word-word leaf.DateTime = refl
of_word-word leaf.Binary = refl
of_word-word leaf.Timestamp = refl
of_word-word leaf.Regex = refl
of_word-word leaf.CodeWithScope = refl
of_word-word leaf.Decimal128 = refl
of_word-word leaf.DbPointer = refl
of_word-word leaf.Uuid = refl
of_word-word leaf.Bson = refl
of_word-word leaf.Document = refl
of_word-word leaf.RawDocument = refl
of_word-word leaf.RawArray = refl
of_word-word leaf.RawBson = refl

pub bare-word : (l : Leaf) → bare (word l) ≡ true
bare-word leaf.Any = refl
bare-word leaf.Ignored = refl
bare-word leaf.Bool = refl
bare-word leaf.I8 = refl
bare-word leaf.I16 = refl
bare-word leaf.I32 = refl
bare-word leaf.I64 = refl
bare-word leaf.U8 = refl
bare-word leaf.U16 = refl
bare-word leaf.U32 = refl
bare-word leaf.U64 = refl
bare-word leaf.Double = refl
bare-word leaf.Char = refl
bare-word leaf.Str = refl
bare-word leaf.String = refl
bare-word leaf.Bytes = refl
bare-word leaf.ByteBuf = refl
bare-word leaf.Unit = refl
bare-word leaf.ObjectId = refl
bare-word leaf.DateTime = refl
bare-word leaf.Binary = refl
bare-word leaf.Timestamp = refl
bare-word leaf.Regex = refl
bare-word leaf.CodeWithScope = refl
bare-word leaf.Decimal128 = refl
bare-word leaf.DbPointer = refl
bare-word leaf.Uuid = refl
bare-word leaf.Bson = refl
bare-word leaf.Document = refl
bare-word leaf.RawDocument = refl
bare-word leaf.RawArray = refl
bare-word leaf.RawBson = refl
