-- The leaves at which a value of a tree is read by rows of their own.
use Rattle.std.proofs.Common.{◌≡◌, ◌⊎◌, inl, inr, ap, sym, subst}
use Rattle.bson_kinds.specs.Outcome.{◌>>=◌}
use Rattle.bson_rawdoc.specs.Node.{Node}
use Rattle.bson_shape.specs.Form.{leaf}
use Rattle.bson_shape.specs.declared.leaf.Leaf.{Leaf}
use Rattle.bson_shape.specs.declared.leaf.Leaf.TheVariants as leaves
use Rattle.bson_values.specs.Cause.{not_borrowed}
use Rattle.bson_values.specs.Marked.{Marked}
use Rattle.bson_laws.specs.declared.origin.Origin.TheVariants as origins
use Rattle.bson_laws.specs.Judged.{Reading, refused, judged}
use Rattle.bson_laws.specs.ReadsFrom.{reads_from}
use Rattle.bson_raw_builder.specs.RawTreeView.{IsRaw}

-- what a borrowing leaf answers of a judged value
abbrev never : Node → Reading Marked
never m = refused not_borrowed

pub borrowing_leaf : (l : Leaf) (n : Node) → (l ≡ leaves.Str) ⊎ (l ≡ leaves.Bytes) → reads_from origins.Tree (leaf l) n ≡ (judged n >>= never)
borrowing_leaf l n (inl e) = ap (λ k. reads_from origins.Tree (leaf k) n) e
borrowing_leaf l n (inr e) = ap (λ k. reads_from origins.Tree (leaf k) n) e

pub raw_leaf : (l : Leaf) → (l ≡ leaves.RawDocument) ⊎ (l ≡ leaves.RawArray) ⊎ (l ≡ leaves.RawBson) → IsRaw l
raw_leaf l (inl e) = subst IsRaw (sym e) tt
raw_leaf l (inr (inl e)) = subst IsRaw (sym e) tt
raw_leaf l (inr (inr e)) = subst IsRaw (sym e) tt
