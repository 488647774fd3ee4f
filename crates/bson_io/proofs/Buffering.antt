-- What a read of held bytes has moved.
use Rattle.std.proofs.Common.{◌≡◌, ℕ, ◌+◌, ◌-◌, ◌<◌, ◌≤◌, List, ◌++◌, take, drop, length, min, Option, Some, None, ap, sym, subst, ◌∙◌, arith}
use Rattle.std.specs.Io.KnownBytes.{Consumes, IsAtEnd, Keeps}
use Rattle.std.proofs.Math.Seq.{take-append_seam}
use Rattle.std.proofs.lemmas.List.{append_assoc, length-append, length-drop, length-take, length-take-le, take-append-drop, drop-take}
use lib.Seq.{drop-drop}
use Rattle.bson_io.specs.Buffered.{held, left_of}

-- the front of what is held, and the rest of it
held_parts : (room : List ℕ) (from to n : ℕ) → n ≤ to - from → held room from to ≡ take n (held room from to) ++ held room (from + n) to
held_parts room from to n le =
    let m = to - (from + n) in
    let all : to - from ≡ n + m = omega arith in
    sym (take-append-drop n (held room from to))
    ∙ ap (λ r. take n (held room from to) ++ r) (ap (λ k. drop n (take k (drop from room))) all ∙ drop-take n m (drop from room) ∙ ap (λ (r : List ℕ). take m r) (drop-drop n from room))

module _ (room ys old new : List ℕ) (from to n : ℕ) (same : ys ≡ room) (within : from ≤ to) (there : to ≤ length room) (count : n ≡ min (length (take (to - from) (drop from ys))) (length old))
    (copied : new ≡ take n (take (to - from) (drop from ys)) ++ drop n old) where
  size : length (held room from to) ≡ to - from
  size = length-take-le (to - from) (drop from room) (omega (arith, length-drop from room, there))

  counted : n ≡ min (to - from) (length old)
  counted = count ∙ ap (λ (l : List ℕ). min (length (take (to - from) (drop from l))) (length old)) same ∙ ap (λ k. min k (length old)) size

  front : take n new ≡ take n (held room from to)
  front =
      let h = held room from to in
      let long : length (take n h) ≡ n = length-take-le n h (omega (arith, size, counted)) in
      ap (λ (l : List ℕ). take n l) (copied ∙ ap (λ (l : List ℕ). take n (take (to - from) (drop from l)) ++ drop n old) same)
      ∙ ap (λ k. take k (take n h ++ drop n old)) (sym long) ∙ take-append_seam (take n h) (drop n old)

  consumed : (a below : Option (List ℕ)) → Keeps a (left_of room from to below) → Consumes a (left_of room (from + n) to below) (take n new)
  consumed None below h = tt
  consumed (Some xs) None h = absurd h
  consumed (Some xs) (Some zs) h =
      sym h ∙ ap (λ r. r ++ zs) (held_parts room from to n (omega (arith, counted))) ∙ append_assoc (take n (held room from to)) (held room (from + n) to) zs ∙ ap (λ f. f ++ (held room (from + n) to ++ zs)) (sym front)

  at_end : (below : Option (List ℕ)) → (to ≤ from → IsAtEnd (left_of room from to below)) → n ≡ 0 → 0 < length new → IsAtEnd (left_of room (from + n) to below)
  at_end below ended none some =
      let many : length new ≡ length (take n (take (to - from) (drop from ys))) + length (drop n old) = ap length copied ∙ length-append (take n (take (to - from) (drop from ys))) (drop n old) in
      let place : from ≡ from + n = omega (arith, none) in
      subst (λ k. IsAtEnd (left_of room k to below)) place
      (ended (omega (arith, none, some, many, counted, length-take n (take (to - from) (drop from ys)), length-drop n old)))

  pub moved : (a below : Option (List ℕ)) → Keeps a (left_of room from to below) → (to ≤ from → IsAtEnd (left_of room from to below)) → Consumes a (left_of room (from + n) to below) (take n new) × (n ≡ 0 → 0 < length new → IsAtEnd (left_of room (from + n) to below))
  moved a below kept ended = (consumed a below kept, at_end below ended)
