-- A file is cut as its parts are.
use Rattle.std.proofs.Common.{◌≡◌, ℕ, zero, suc, ◌+◌, ◌≤◌, [], ◌∷◌, ◌++◌, length, take, drop, Bool, true, false, cond, Option, Some, None, Result, Ok, Err, refl, ap, sym, ◌∙◌, arith, pos}
use Rattle.std.specs.Prelude.{nat_lt}
use Rattle.std.proofs.Math.Seq.{take-append_seam}
use Rattle.std.proofs.lemmas.Bool.{le-ltb}
use Rattle.std.proofs.lemmas.List.{length-append, length-drop, take-append-le, drop-append-le}
use Rattle.bson_kinds.specs.Text.{Bytes}
use Rattle.bson_kinds.specs.declared.element_type.ElementType.TheVariants.{EmbeddedDocument}
use Rattle.bson_faults.specs.declared.raw.Error.{Error}
use Rattle.bson_rawdoc.specs.Cut.{Cut, broken_at, with_piece, length_within, piece_length, cut_at, cut_within, cut_from, cut}
use Rattle.bson_rawdoc.specs.Extent.{extent}
use Rattle.bson_rawdoc.specs.Numbers.{int32_in}
use Rattle.bson_rawdoc.proofs.Extents.{announced_is, announced_found, number_within}
use Rattle.bson_rawdoc.proofs.Pieces.{piece_fits, cut-nil, cut_more, cut_broken}
use Rattle.bson_parts.specs.Parts.{moved, behind}

-- ---- the document in front of a part is the one in front of the file

abbrev so_many : ℕ → Result ℕ Error
so_many n = Ok n

there : (n : ℕ) (r : Result ℕ Error) (k : ℕ) → length_within n r ≡ Some k → r ≡ Ok k
there n (Err e) k h = absurd cc
there n (Ok m) k h = by_case (nat_lt n m) h where
  by_case : (b : Bool) → cond b None (Some m) ≡ Some k → so_many m ≡ so_many k
  by_case true h = absurd cc
  by_case false h = let same : m ≡ k = cc in ap so_many same

fits : (b : Bool) (n : ℕ) → b ≡ false → cond b None (Some n) ≡ Some n
fits true n e = absurd cc
fits false n e = refl

pub piece_front : (a b : Bytes) (k : ℕ) → piece_length a ≡ Some k → piece_length (a ++ b) ≡ Some k
piece_front a b k h =
    let in_a = piece_fits a k h in
    let told = announced_is 5 0 a k (there (length a) (extent EmbeddedDocument a) k h) in
    let front : int32_in (a ++ b) ≡ pos told.0 = sym (number_within (length a) (a ++ b) (omega (arith, in_a.0, in_a.1))) ∙ ap int32_in (take-append_seam a b) ∙ told.1 in
    let found : extent EmbeddedDocument (a ++ b) ≡ Ok (told.0 + 0) = announced_found 5 0 (a ++ b) told.0 (omega (arith, in_a.0, in_a.1, length-append a b)) front told.2 in
    ap (length_within (length (a ++ b))) (found ∙ ap Ok told.3) ∙ fits (nat_lt (length (a ++ b)) k) k (le-ltb _ _ (omega (arith, in_a.1, length-append a b)))

-- ---- a part that is not broken, and what is behind it

not_broken : (place : ℕ) (c : Cut) → c ≡ broken_at place → c.broken ≡ None → ⊥
not_broken place c is none = let e : Some place ≡ None = sym (ap (λ (x : Cut). x.broken) is) ∙ none in cc

cut_behind : (n place : ℕ) (a b : Bytes) → length a ≤ n → (cut_from place a).broken ≡ None → cut_from place (a ++ b) ≡ behind (cut_from place a) (cut_from (place + length a) b)
cut_behind n place [] b le none =
    let same : place ≡ place + 0 = omega arith in
    ap (λ p. cut_from p b) same ∙ ap (λ c. behind c (cut_from (place + 0) b)) (sym (cut-nil place))
cut_behind zero place (x ∷ xs) b le none = absurd (omega arith)
cut_behind (suc n) place (x ∷ xs) b le none = by_piece (piece_length (x ∷ xs)) refl (λ k small here. cut_behind n (place + k) (drop k (x ∷ xs)) b small here) where
  by_piece : (o : Option ℕ) → piece_length (x ∷ xs) ≡ o
      → ((k : ℕ) → length (drop k (x ∷ xs)) ≤ n → (cut_from (place + k) (drop k (x ∷ xs))).broken ≡ None
      → cut_from (place + k) (drop k (x ∷ xs) ++ b) ≡ behind (cut_from (place + k) (drop k (x ∷ xs))) (cut_from (place + k + length (drop k (x ∷ xs))) b))
      → cut_from place ((x ∷ xs) ++ b) ≡ behind (cut_from place (x ∷ xs)) (cut_from (place + length (x ∷ xs)) b)
  by_piece None e again = absurd (not_broken place (cut_from place (x ∷ xs)) (cut_broken place (x ∷ xs) (omega arith) e) none)
  by_piece (Some k) e again =
      let f = piece_fits (x ∷ xs) k e in
      let more = cut_more place (x ∷ xs) k e in
      let rest : (cut_from (place + k) (drop k (x ∷ xs))).broken ≡ None = sym (ap (λ (c : Cut). c.broken) more) ∙ none in
      let there : place + k + length (drop k (x ∷ xs)) ≡ place + length (x ∷ xs) = omega (arith, f.1, length-drop k (x ∷ xs)) in
      cut_more place ((x ∷ xs) ++ b) k (piece_front (x ∷ xs) b k e)
      ∙ ap (λ p. with_piece p (cut_from (place + k) (drop k ((x ∷ xs) ++ b)))) (take-append-le k (x ∷ xs) b f.1)
      ∙ ap (λ d. with_piece (take k (x ∷ xs)) (cut_from (place + k) d)) (drop-append-le k (x ∷ xs) b f.1)
      ∙ ap (with_piece (take k (x ∷ xs))) (again k (omega (arith, f.0, length-drop k (x ∷ xs))) rest)
      ∙ ap (λ p. with_piece (take k (x ∷ xs)) (behind (cut_from (place + k) (drop k (x ∷ xs))) (cut_from p b))) there
      ∙ ap (λ c. behind c (cut_from (place + length (x ∷ xs)) b)) (sym more)

-- ---- places from further on

moved_at : (n d place : ℕ) (bs : Bytes) (o : Option ℕ) → ((k : ℕ) → cut_within n (d + (place + k)) (drop k bs) ≡ moved d (cut_within n (place + k) (drop k bs)))
    → cut_at (cut_within n) (d + place) bs o ≡ moved d (cut_at (cut_within n) place bs o)
moved_at n d place bs None again = refl
moved_at n d place bs (Some k) again =
    let same : d + place + k ≡ d + (place + k) = omega arith in
    ap (λ p. with_piece (take k bs) (cut_within n p (drop k bs))) same ∙ ap (with_piece (take k bs)) (again k)

moved_within : (n d place : ℕ) (bs : Bytes) → cut_within n (d + place) bs ≡ moved d (cut_within n place bs)
moved_within zero d place bs = refl
moved_within (suc n) d place [] = refl
moved_within (suc n) d place (b ∷ bs) = moved_at n d place (b ∷ bs) (piece_length (b ∷ bs)) (λ k. moved_within n d (place + k) (drop k (b ∷ bs)))

pub cut_moved : (d : ℕ) (bs : Bytes) → cut_from d bs ≡ moved d (cut bs)
unfolding cut_from
cut_moved d bs = let same : d ≡ d + 0 = omega arith in ap (λ p. cut_within (length bs) p bs) same ∙ moved_within (length bs) d 0 bs

-- ---- the law

pub cut_in_parts : (a b : Bytes) → (cut a).broken ≡ None → cut (a ++ b) ≡ behind (cut a) (moved (length a) (cut b))
cut_in_parts a b none =
    let same : 0 + length a ≡ length a = omega arith in
    cut_behind (length a) 0 a b (omega arith) none ∙ ap (λ p. behind (cut a) (cut_from p b)) same ∙ ap (behind (cut a)) (cut_moved (length a) b)
