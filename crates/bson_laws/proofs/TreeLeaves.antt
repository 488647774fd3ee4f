-- The leaves at which a tree in memory is read as bytes are.
use Rattle.std.proofs.Common.{◌≡◌, Bool, true, false, Ok, Err, refl}
use Rattle.bson_kinds.specs.Outcome.{◌>>=◌}
use Rattle.bson_rawdoc.specs.Node.{Node}
use Rattle.bson_shape.specs.Form.{leaf}
use Rattle.bson_shape.specs.declared.leaf.Leaf.{Leaf}
use Rattle.bson_shape.specs.declared.leaf.Leaf.TheVariants as leaves
use Rattle.bson_values.specs.Marked.{Marked}
use Rattle.bson_laws.specs.declared.origin.Origin.TheVariants as origins
use Rattle.bson_laws.specs.Judged.{Reading, judged}
use Rattle.bson_laws.specs.Leaves.{LeafKind, texts, byte_strings, raw_documents, raw_arrays, raw_values, leaf_kind}
use Rattle.bson_laws.specs.Owned.{IsTextOwned}
use Rattle.bson_laws.specs.ReadsFrom.{read_leaf, reads_from}
use Rattle.bson_laws.specs.ReadsLeaf.{borrows}

-- a leaf that borrows nothing, and is not raw
abbrev pub IsAlike : (is_borrowing : Bool) → LeafKind → Type 0
IsAlike b texts = IsTextOwned b
IsAlike b byte_strings = ⊥
IsAlike b raw_documents = ⊥
IsAlike b raw_arrays = ⊥
IsAlike b raw_values = ⊥
IsAlike b k = Unit {0}

pub kind_alike : (b : Bool) (k : LeafKind) (n : Node) → IsAlike b k → read_leaf origins.Tree b k n ≡ read_leaf origins.Bytes b k n
kind_alike true texts n h = absurd h
kind_alike false texts n h = refl
kind_alike b byte_strings n h = absurd h
kind_alike b raw_documents n h = absurd h
kind_alike b raw_arrays n h = absurd h
kind_alike b raw_values n h = absurd h
kind_alike b k n h = refl

then_alike : (r : Reading Node) (f g : Node → Reading Marked) → ((n : Node) → f n ≡ g n) → (r >>= f) ≡ (r >>= g)
then_alike (Ok n) f g same = same n
then_alike (Err e) f g same = refl

pub leaf_alike : (l : Leaf) (n : Node) → IsAlike (borrows l) (leaf_kind l) → reads_from origins.Tree (leaf l) n ≡ reads_from origins.Bytes (leaf l) n
leaf_alike l n h = then_alike (judged n) (read_leaf origins.Tree (borrows l) (leaf_kind l)) (read_leaf origins.Bytes (borrows l) (leaf_kind l)) (λ m. kind_alike (borrows l) (leaf_kind l) m h)

-- every leaf but these five
pub other_alike : (l : Leaf) → (l ≡ leaves.Str → ⊥) → (l ≡ leaves.Bytes → ⊥) → (l ≡ leaves.RawDocument → ⊥) → (l ≡ leaves.RawArray → ⊥) → (l ≡ leaves.RawBson → ⊥) → IsAlike (borrows l) (leaf_kind l)
other_alike leaves.Str a b c d e = absurd (a refl)
other_alike leaves.Bytes a b c d e = absurd (b refl)
other_alike leaves.RawDocument a b c d e = absurd (c refl)
other_alike leaves.RawArray a b c d e = absurd (d refl)
other_alike leaves.RawBson a b c d e = absurd (e refl)
other_alike l a b c d e = tt
