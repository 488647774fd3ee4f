-- What a transfer in several calls has moved.
use Rattle.std.proofs.Common.{◌≡◌, ℕ, ◌+◌, ◌-◌, ◌≤◌, List, ◌++◌, take, drop, length, sym, subst, ap, Some, None, Ok, length-drop, length-append, length-take, arith}
use Rattle.std.specs.declared.option.Option.{Option}
use Rattle.std.specs.Io.KnownBytes.{Appends, Consumes}
use Rattle.std.proofs.KnownBytes.{Appends-trans, Consumes-trans}
use Rattle.std.proofs.lemmas.List.{take_rest}
use lib.Seq.{take-add}
use Rattle.bson_io.specs.Ends.{FitsIn, UsesRoom, Takes, TakesAtMost, TakesExactly}

-- The first `at` were written, and then n of what was to be written after them: the first `at + n` are written.
pub written_more : (a b c : Option (List ℕ)) (at n : ℕ) (due : List ℕ) → Appends a b (take at due) → Appends b c (take n (take (length due - at) (drop at due))) → Appends a c (take (at + n) due)
written_more a b c at n due before step =
    let joined = ap (λ (l : List ℕ). take n l) (take_rest due at) in
    let step' : Appends b c (take n (drop at due)) = subst (Appends b c) joined step in
    subst (Appends a c) (sym (take-add at n due)) (Appends-trans a b c (take at due) (take n (drop at due)) before step')

-- What is to be written fits: after a write of n bytes the rest fits in the room that is left.
pub fits_less : (E : Type 0) (old new : Option ℕ) (at n : ℕ) (due : List ℕ) → FitsIn old (drop at due) → UsesRoom {E = E} old new (Ok n) → FitsIn new (drop (at + n) due)
fits_less E None new at n due fits used = absurd fits
fits_less E (Some r) new at n due fits used = rw used (omega (arith, fits, length-drop at due, length-drop (at + n) due))

-- Some bytes were taken, and then n more, which are at the front of a buffer.
pub takes_more : (a b c : Option (List ℕ)) (bs buf : List ℕ) (n : ℕ) → Consumes a b bs → Consumes b c (take n buf) → Takes a c
takes_more a b c bs buf n before step = record { bytes = bs ++ take n buf; taken = Consumes-trans a b c bs (take n buf) before step }

-- They are at most so many.
pub takes_at_most : (most : ℕ) (a b c : Option (List ℕ)) (bs buf : List ℕ) (n : ℕ) → Consumes a b bs → Consumes b c (take n buf) → length bs + n ≤ most → TakesAtMost most a c
takes_at_most most a b c bs buf n before step few = record {
  bytes = bs ++ take n buf;
  taken = Consumes-trans a b c bs (take n buf) before step;
  within = omega (arith, length-append bs (take n buf), length-take n buf);
}

-- They are exactly so many.
pub takes_exactly : (count : ℕ) (a b c : Option (List ℕ)) (bs buf : List ℕ) (n : ℕ) → Consumes a b bs → Consumes b c (take n buf) → n ≤ length buf → length bs + n ≡ count → TakesExactly count a c
takes_exactly count a b c bs buf n before step full all = record {
  bytes = bs ++ take n buf;
  taken = Consumes-trans a b c bs (take n buf) before step;
  all = omega (arith, length-append bs (take n buf), length-take n buf);
}
