-- What a read of bytes in memory has moved.
use Rattle.std.proofs.Common.{◌≡◌, ℕ, ◌+◌, ◌-◌, ◌≤◌, List, [], ◌++◌, take, drop, length, sym, ap, ◌∙◌, take-append-drop, length-drop, arith}
use Rattle.std.proofs.lemmas.List.{take_rest, length-take-le, drop_all}
use Rattle.std.proofs.Math.Seq.{take-append_seam}
use lib.Seq.{drop-drop}

-- The first n bytes from `at` on went to the front of a buffer: they and the rest are what was left.
pub moved_front : (at n : ℕ) (xs ys old new : List ℕ) → ys ≡ xs → n ≤ length xs - at → new ≡ take n (take (length ys - at) (drop at ys)) ++ drop n old
    → drop at xs ≡ take n new ++ drop (at + n) xs
moved_front at n xs ys old new same fits copied =
    let left : List ℕ = drop at xs in
    let rest : take (length ys - at) (drop at ys) ≡ left = take_rest ys at ∙ ap (λ (l : List ℕ). drop at l) same in
    let now : new ≡ take n left ++ drop n old = copied ∙ ap (λ (l : List ℕ). take n l ++ drop n old) rest in
    let count : length (take n left) ≡ n = length-take-le n left (omega (arith, length-drop at xs)) in
    let front : take n new ≡ take n left =
    ap (λ (k : ℕ). take k new) (sym count) ∙ ap (λ (l : List ℕ). take (length (take n left)) l) now ∙ take-append_seam (take n left) (drop n old) in
    sym (ap (λ (l : List ℕ). l ++ drop (at + n) xs) front ∙ ap (λ (l : List ℕ). take n left ++ l) (sym (drop-drop n at xs)) ∙ take-append-drop n left)

-- Nothing was left from `at` on.
pub none_left : (at n : ℕ) (xs : List ℕ) → length xs ≤ at → drop (at + n) xs ≡ []
none_left at n xs end = drop_all (at + n) xs (omega arith)
