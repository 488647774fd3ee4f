-- A salvage under way.
use Rattle.std.proofs.Common.{◌≡◌, ℕ, zero, suc, ◌+◌, ◌-◌, ◌<◌, ◌≤◌, Bool, true, false, List, [], ◌∷◌, ◌++◌, length, drop, take, Option, Some, None, refl, ap, sym, ◌∙◌, arith, append-nil}
use Rattle.std.specs.Prelude.{◌||◌, if◌then◌else◌, nat_lt}
use Rattle.std.proofs.lemmas.List.{append_assoc, length-append, length-drop}
use Rattle.bson_kinds.specs.Text.{Bytes}
use Rattle.bson_rawdoc.specs.Cut.{piece_length}
use Rattle.bson_rawdoc.proofs.Pieces.{piece_fits}
use Rattle.bson_salvaging.specs.Looks.{is_walked, walked}
use Rattle.bson_salvaging.specs.Salvage.{Stretch, gained, damage, faulty, leave_all, faulty_after, step_of, step, goes_on, stretch_of, then_stretch, salvage_within, salvage_from}
use Rattle.bson_salvaging.specs.Salvaged.{bytes_of, joined, saved_of, saved, lines_of, lines, is_left_out, has_left_out, IsWalked, AreWalked}
use Rattle.bson_salvaging.specs.declared.looking.Look.{Look}
use Rattle.bson_salvaging.specs.declared.stepping.Step.{Step}

-- ---- stretch by stretch

abbrev count_of : Step → ℕ
count_of s = s.count

damage_counts : (looks : ℕ) (b : Bytes) → 0 < length b → 1 ≤ count_of (damage looks b)
damage_counts looks [] h = absurd (omega (arith, h))
damage_counts looks (x ∷ xs) h = omega arith

-- a stretch has a byte at least
chosen : (b : Bool) (s t : Step) → 1 ≤ count_of s → 1 ≤ count_of t → 1 ≤ count_of (if b then s else t)
chosen true s t p q = p
chosen false s t p q = q

pub step_counts : (looks : ℕ) (b : Bytes) → 0 < length b → 1 ≤ (step looks b).count
step_counts looks b some = by_piece (piece_length b) refl where
  by_piece : (o : Option ℕ) → piece_length b ≡ o → 1 ≤ count_of (step_of looks b o)
  by_piece None e = damage_counts looks b some
  by_piece (Some n) e =
      let one : 1 ≤ n = omega (arith, (piece_fits b n e).0) in
      let l = goes_on (looks - walked (take n b)) (drop n b) in
      chosen (is_walked (take n b)) (record { keeps = true; count = n; left = gained n looks }) (faulty_after looks (walked (take n b)) b n) one
      (chosen (nat_lt looks (walked (take n b))) (leave_all b) (faulty b n l) (omega (arith, some))
      (chosen l.fine (record { keeps = false; count = n; left = gained n l.left }) (damage l.left b) one (damage_counts l.left b some)))

-- as many turns as there are bytes are enough
more_turns : (n m looks : ℕ) (b : Bytes) → length b ≤ n → length b ≤ m → salvage_within n looks b ≡ salvage_within m looks b
more_turns zero zero looks b p q = refl
more_turns zero (suc m) looks [] p q = refl
more_turns (suc n) zero looks [] p q = refl
more_turns (suc n) (suc m) looks [] p q = refl
more_turns zero (suc m) looks (x ∷ xs) p q = absurd (omega (arith, p))
more_turns (suc n) zero looks (x ∷ xs) p q = absurd (omega (arith, q))
more_turns (suc n) (suc m) looks (x ∷ xs) p q =
    let s = step looks (x ∷ xs) in
    let some : 1 ≤ s.count = step_counts looks (x ∷ xs) (omega arith) in
    ap (λ rest. stretch_of s.keeps (take s.count (x ∷ xs)) ∷ rest)
    (more_turns n m s.left (drop s.count (x ∷ xs)) (omega (arith, p, some, length-drop s.count (x ∷ xs))) (omega (arith, q, some, length-drop s.count (x ∷ xs))))

pub salvage_none : (looks : ℕ) → salvage_from looks [] ≡ []
unfolding salvage_from
salvage_none looks = refl

pub salvage_more : (looks : ℕ) (b : Bytes) → 0 < length b → salvage_from looks b ≡ then_stretch (step looks b) b salvage_from
unfolding salvage_from
salvage_more looks [] h = absurd (omega (arith, h))
salvage_more looks (x ∷ xs) h =
    let s = step looks (x ∷ xs) in
    let some : 1 ≤ s.count = step_counts looks (x ∷ xs) (omega arith) in
    ap (λ rest. stretch_of s.keeps (take s.count (x ∷ xs)) ∷ rest)
    (more_turns (length xs) (length (drop s.count (x ∷ xs))) s.left (drop s.count (x ∷ xs)) (omega (arith, some, length-drop s.count (x ∷ xs))) (omega arith))

-- ---- one stretch more

pub joined_last : (ss : List Stretch) (s : Stretch) → joined (ss ++ s ∷ []) ≡ joined ss ++ bytes_of s
joined_last [] s = append-nil (bytes_of s)
joined_last (x ∷ ss) s = ap (λ o. bytes_of x ++ o) (joined_last ss s) ∙ sym (append_assoc (bytes_of x) (joined ss) (bytes_of s))

pub saved_last : (ss : List Stretch) (s : Stretch) → saved (ss ++ s ∷ []) ≡ saved ss ++ saved_of s
saved_last [] s = append-nil (saved_of s)
saved_last (x ∷ ss) s = ap (λ o. saved_of x ++ o) (saved_last ss s) ∙ sym (append_assoc (saved_of x) (saved ss) (saved_of s))

pub lines_last : (place : ℕ) (ss : List Stretch) (s : Stretch) → lines place (ss ++ s ∷ []) ≡ lines place ss ++ lines_of (place + length (joined ss)) s
lines_last place [] s = append-nil (lines_of place s) ∙ (let same : place ≡ place + 0 = omega arith in ap (λ p. lines_of p s) same)
lines_last place (x ∷ ss) s =
    let same : place + length (bytes_of x) + length (joined ss) ≡ place + length (bytes_of x ++ joined ss) = omega (arith, length-append (bytes_of x) (joined ss)) in
    ap (λ o. lines_of place x ++ o) (lines_last (place + length (bytes_of x)) ss s ∙ ap (λ p. lines (place + length (bytes_of x)) ss ++ lines_of p s) same)
    ∙ sym (append_assoc (lines_of place x) (lines (place + length (bytes_of x)) ss) (lines_of (place + length (bytes_of x ++ joined ss)) s))

or_false : (b : Bool) → b || false ≡ b
or_false true = refl
or_false false = refl

or_assoc : (x y z : Bool) → x || (y || z) ≡ x || y || z
or_assoc true y z = refl
or_assoc false y z = refl

pub left_out_last : (ss : List Stretch) (s : Stretch) → has_left_out (ss ++ s ∷ []) ≡ has_left_out ss || is_left_out s
left_out_last [] s = or_false (is_left_out s)
left_out_last (x ∷ ss) s = ap (λ b. is_left_out x || b) (left_out_last ss s) ∙ or_assoc (is_left_out x) (has_left_out ss) (is_left_out s)

pub walked_last : (ss : List Stretch) (s : Stretch) → AreWalked ss → IsWalked s → AreWalked (ss ++ s ∷ [])
walked_last [] s h is = (is, tt)
walked_last (x ∷ ss) s h is = (h.0, walked_last ss s h.1 is)

pub bytes_stretch : (k : Bool) (b : Bytes) → bytes_of (stretch_of k b) ≡ b
bytes_stretch true b = refl
bytes_stretch false b = refl

-- a stretch that is kept is a document whose elements have no fault
pub keeps_walked : (looks : ℕ) (b : Bytes) → (step looks b).keeps ≡ true → is_walked (take (step looks b).count b) ≡ true
keeps_walked looks b e = by_piece (piece_length b) e where
  no_damage : (l : ℕ) (x : Bytes) → (damage l x).keeps ≡ true → ⊥
  no_damage l [] h = cc
  no_damage l (y ∷ ys) h = cc

  by_piece : (o : Option ℕ) → (step_of looks b o).keeps ≡ true → is_walked (take (step_of looks b o).count b) ≡ true
  by_piece None h = absurd (no_damage looks b h)
  by_piece (Some n) h = by_walk (is_walked (take n b)) refl h where
    by_walk : (t : Bool) → is_walked (take n b) ≡ t → (if t then record { keeps = true; count = n; left = gained n looks } else faulty_after looks (walked (take n b)) b n).keeps ≡ true
        → is_walked (take (if t then record { keeps = true; count = n; left = gained n looks } else faulty_after looks (walked (take n b)) b n).count b) ≡ true
    by_walk true good h = good
    by_walk false bad h = absurd (by_looks (nat_lt looks (walked (take n b))) h) where
      by_fine : (l : Look) (t : Bool) → (if t then record { keeps = false; count = n; left = gained n l.left } else damage l.left b).keeps ≡ true → ⊥
      by_fine l true h = cc
      by_fine l false h = no_damage l.left b h

      by_looks : (t : Bool) → (if t then leave_all b else faulty b n (goes_on (looks - walked (take n b)) (drop n b))).keeps ≡ true → ⊥
      by_looks true h = cc
      by_looks false h = by_fine (goes_on (looks - walked (take n b)) (drop n b)) (goes_on (looks - walked (take n b)) (drop n b)).fine h
