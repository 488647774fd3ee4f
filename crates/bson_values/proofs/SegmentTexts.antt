-- The text of one more segment.
use Rattle.std.proofs.Common.{◌≡◌, ℕ, ◌+◌, ◌<◌, List, [], ◌∷◌, ◌++◌, length, get_or, take, map, sym, ap, ◌∙◌, arith, append-nil, append_assoc, length-take}
use Rattle.std.proofs.lemmas.List.{take_more}
use Rattle.bson_values.specs.PathView.{segment_view}
use Rattle.bson_values.specs.Printed.{printed_segment, printed_segments}
use Rattle.bson_values.specs.declared.path.Segment.{Segment}

-- the text of these segments
abbrev pub segments_text : ℕ → List Segment → List ℕ
segments_text i ss = printed_segments i (map segment_view ss)

segments-snoc : (xs : List Segment) (k : ℕ) (x : Segment) → segments_text k (xs ++ x ∷ []) ≡ segments_text k xs ++ printed_segment (k + length xs) (segment_view x)
segments-snoc [] k x = append-nil (printed_segment k (segment_view x)) ∙ ap (λ i. printed_segment i (segment_view x)) (let e : k ≡ k + 0 = omega arith in e)
segments-snoc (y ∷ ys) k x =
    ap (λ l. printed_segment k (segment_view y) ++ l) (segments-snoc ys (k + 1) x) ∙ sym (append_assoc (printed_segment k (segment_view y)) (segments_text (k + 1) ys) (printed_segment (k + 1 + length ys) (segment_view x)))
    ∙ ap (λ i. (printed_segment k (segment_view y) ++ segments_text (k + 1) ys) ++ printed_segment i (segment_view x)) (let e : k + 1 + length ys ≡ k + length (y ∷ ys) = omega arith in e)

pub segments-more : (xs : List Segment) (i : ℕ) (x : Segment) → i < length xs → x ≡ get_or xs i x → segments_text 0 (take i xs) ++ printed_segment i (segment_view x) ≡ segments_text 0 (take (i + 1) xs)
segments-more xs i x lt is =
    let len : 0 + length (take i xs) ≡ i = omega (arith, length-take i xs) in
    sym (ap (segments_text 0) (take_more xs i x lt ∙ ap (λ y. take i xs ++ y ∷ []) (sym is)) ∙ segments-snoc (take i xs) 0 x ∙ ap (λ k. segments_text 0 (take i xs) ++ printed_segment k (segment_view x)) len)
