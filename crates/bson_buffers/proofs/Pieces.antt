-- What the first step of a cut says of the place where it began.
use Rattle.std.proofs.Common.{◌≡◌, ℕ, ◌+◌, ◌<◌, ◌≤◌, ◌-◌, [], ◌∷◌, length, take, drop, Option, Some, None, refl, ap, sym, ◌∙◌, inl, inr, arith}
use Rattle.std.specs.Prelude.{◌⊎◌}
use Rattle.std.proofs.lemmas.List.{length-drop, length-take-le, drop_all, drop-drop, take_rest}
use Rattle.bson_kinds.specs.Text.{Bytes}
use Rattle.bson_rawdoc.specs.Cut.{Cut, whole, broken_at, with_piece, piece_length, cut_from, cut}
use Rattle.bson_rawdoc.proofs.Pieces.{piece_fits, cut-nil, cut_more, cut_broken}
use Rattle.bson_buffers.specs.Finding.{left_at, IsDocument, IsEnd, IsBroken}
use Rattle.bson_buffers.proofs.Delivery.{within_or_above}

abbrev some : ℕ → Option ℕ
some n = Some n

-- a break is no whole file
break_differs : (place : ℕ) → broken_at place ≡ whole → ⊥
break_differs place e = let told : some place ≡ None = ap (λ (c : Cut). c.broken) e in absurd cc

-- what begins with a document is not what has none
piece_differs : (piece : Bytes) (more c : Cut) → c.pieces ≡ [] → with_piece piece more ≡ c → ⊥
piece_differs piece more c none e = let pieces : piece ∷ more.pieces ≡ [] = ap (λ (x : Cut). x.pieces) e ∙ none in absurd cc

-- the file ends at the place, or before it
pub ends : (file : Bytes) (place : ℕ) → length file ≤ place → IsEnd file place
ends file place past = ap (cut_from place) (drop_all place file past) ∙ cut-nil place

-- nothing is cut off
ends_whole : (place : ℕ) (rest : Bytes) → cut rest ≡ whole → cut_from place rest ≡ whole
ends_whole place [] h = cut-nil place
ends_whole place (b ∷ bs) h = by_length (piece_length (b ∷ bs)) refl where
  by_length : (o : Option ℕ) → piece_length (b ∷ bs) ≡ o → cut_from place (b ∷ bs) ≡ whole
  by_length None is = absurd (break_differs 0 (sym (cut_broken 0 (b ∷ bs) (omega arith) is) ∙ h))
  by_length (Some n) is = absurd (piece_differs (take n (b ∷ bs)) (cut_from (0 + n) (drop n (b ∷ bs))) whole refl (sym (cut_more 0 (b ∷ bs) n is) ∙ h))

-- the bytes begin no document
breaks_off : (place at : ℕ) (rest : Bytes) → cut rest ≡ broken_at at → cut_from place rest ≡ broken_at place
breaks_off place at [] h = absurd (break_differs at (sym h ∙ cut-nil 0))
breaks_off place at (b ∷ bs) h = by_length (piece_length (b ∷ bs)) refl where
  by_length : (o : Option ℕ) → piece_length (b ∷ bs) ≡ o → cut_from place (b ∷ bs) ≡ broken_at place
  by_length None is = cut_broken place (b ∷ bs) (omega arith) is
  by_length (Some n) is = absurd (piece_differs (take n (b ∷ bs)) (cut_from (0 + n) (drop n (b ∷ bs))) (broken_at at) refl (sym (cut_more 0 (b ∷ bs) n is) ∙ h))

-- a document is cut off
length_of_first : (rest piece : Bytes) (more : Cut) → cut rest ≡ with_piece piece more → piece_length rest ≡ Some (length piece)
length_of_first [] piece more h = absurd (piece_differs piece more whole refl (sym h ∙ cut-nil 0))
length_of_first (b ∷ bs) piece more h = by_length (piece_length (b ∷ bs)) refl where
  by_length : (o : Option ℕ) → piece_length (b ∷ bs) ≡ o → piece_length (b ∷ bs) ≡ Some (length piece)
  by_length None is = absurd (piece_differs piece more (broken_at 0) refl (sym h ∙ cut_broken 0 (b ∷ bs) (omega arith) is))
  by_length (Some n) is =
      let e : with_piece (take n (b ∷ bs)) (cut_from (0 + n) (drop n (b ∷ bs))) ≡ with_piece piece more = sym (cut_more 0 (b ∷ bs) n is) ∙ h in
      let pieces : take n (b ∷ bs) ∷ (cut_from (0 + n) (drop n (b ∷ bs))).pieces ≡ piece ∷ more.pieces = ap (λ (c : Cut). c.pieces) e in
      let same : take n (b ∷ bs) ≡ piece = cc in
      is ∙ ap some (sym (length-take-le n (b ∷ bs) (piece_fits (b ∷ bs) n is).1) ∙ ap length same)

document_found : (file : Bytes) (place size : ℕ) → place < length file → piece_length (drop place file) ≡ Some size → IsDocument file place size
document_found file place size inside is =
    let f = piece_fits (drop place file) size is in
    record {
      least = f.0;
      within = omega (arith, f.1, length-drop place file);
      first = cut_more place (drop place file) size is ∙ ap (λ rest. with_piece (take size (drop place file)) (cut_from (place + size) rest)) (drop-drop size place file);
    }

-- at a place there is a document, or none is left
pub step_at : (file : Bytes) (place : ℕ) → ((size : ℕ) × IsDocument file place size) ⊎ ((left_at file place).pieces ≡ [])
step_at file place = by_place (within_or_above (length file) place) where
  by_length : (o : Option ℕ) → place < length file → piece_length (drop place file) ≡ o → ((size : ℕ) × IsDocument file place size) ⊎ ((left_at file place).pieces ≡ [])
  by_length None inside is = inr (ap (λ (c : Cut). c.pieces) (cut_broken place (drop place file) (omega (arith, length-drop place file)) is))
  by_length (Some n) inside is = inl (n, document_found file place n inside is)

  by_place : (length file ≤ place) ⊎ (place < length file) → ((size : ℕ) × IsDocument file place size) ⊎ ((left_at file place).pieces ≡ [])
  by_place (inl past) = inr (ap (λ (c : Cut). c.pieces) (ends file place past))
  by_place (inr inside) = by_length (piece_length (drop place file)) inside refl

-- ---- the same of the bytes behind a place, as the code takes them

module _ (file : Bytes) (place : ℕ) (c : Cut) (cuts : c ≡ cut (take (length file - place) (drop place file))) where
  behind : cut (drop place file) ≡ c
  behind = ap cut (sym (take_rest file place)) ∙ sym cuts

  pub starts_whole : c ≡ whole → IsEnd file place
  starts_whole h = ends_whole place (drop place file) (behind ∙ h)

  pub starts_broken : (at : ℕ) → c ≡ broken_at at → IsBroken file place
  starts_broken at h = breaks_off place at (drop place file) (behind ∙ h)

  pub starts_piece : (piece : Bytes) (more : Cut) → place < length file → c ≡ with_piece piece more → IsDocument file place (length piece)
  starts_piece piece more inside h = document_found file place (length piece) inside (length_of_first (drop place file) piece more (behind ∙ h))
