-- Equality of paths, segment by segment.
use Rattle.std.proofs.Common.{◌≡◌, List, [], ◌∷◌, map, refl, ap}
use Rattle.std.specs.Prelude.{◌&&◌}
use Rattle.std.specs.Cmp.Lexicographic.{pointwise}
use Rattle.bson_values.specs.PathView.{segment_view}
use Rattle.bson_values.specs.Same.{same_segment, same_path}
use Rattle.bson_values.specs.declared.path.Segment.{Segment}

-- the segments of two paths, compared as they are in the code
pub same_segments : (ss ts : List Segment) → pointwise (λ s t. same_segment (segment_view s) (segment_view t)) ss ts ≡ same_path (map segment_view ss) (map segment_view ts)
same_segments [] [] = refl
same_segments [] (t ∷ ts) = refl
same_segments (s ∷ ss) [] = refl
same_segments (s ∷ ss) (t ∷ ts) = ap (λ b. same_segment (segment_view s) (segment_view t) && b) (same_segments ss ts)
