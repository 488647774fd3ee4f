-- Where documents begin in a file.
use Rattle.std.proofs.Common.{◌≡◌, ℕ, zero, suc, ◌+◌, ◌-◌, ◌≤◌, List, [], ◌∷◌, length, take, drop, refl, ap, sym, ◌∙◌, inl, inr, arith}
use Rattle.std.specs.Prelude.{◌⊎◌}
use Rattle.std.specs.List.{sum_by}
use Rattle.std.proofs.lemmas.List.{length-drop, length-take-le}
use Rattle.std.proofs.lemmas.List.Sums.{sum_by-cons}
use Rattle.bson_kinds.specs.Text.{Bytes}
use Rattle.bson_rawdoc.specs.Cut.{Cut, cut}
use Rattle.bson_buffers.specs.Finding.{left_at, IsDocument}
use Rattle.bson_buffers.specs.Lists.{offset_in}
use Rattle.bson_buffers.specs.Prover.Listed.{bytes_from}
use Rattle.bson_buffers.proofs.Pieces.{step_at}

abbrev first_bytes : ℕ → List Bytes → ℕ
first_bytes count pieces = sum_by length (take count pieces)

none_first : (count : ℕ) → first_bytes count [] ≡ 0
none_first zero = refl
none_first (suc n) = refl

-- nothing is skipped where no document is left
pub none_left : (file : Bytes) (place count : ℕ) → (left_at file place).pieces ≡ [] → bytes_from file place count ≡ 0
none_left file place count none = ap (first_bytes count) none ∙ none_first count

-- one document is skipped, and the others behind it
pub one_skipped : (file : Bytes) (place size count : ℕ) → IsDocument file place size → bytes_from file place (suc count) ≡ size + bytes_from file (place + size) count
one_skipped file place size count d =
    let there : length (drop place file) ≡ length file - place = length-drop place file in
    ap (λ (c : Cut). first_bytes (suc count) c.pieces) d.first
    ∙ sum_by-cons length (take size (drop place file)) (take count (left_at file (place + size)).pieces)
    ∙ ap (λ n. n + bytes_from file (place + size) count) (length-take-le size (drop place file) (omega (arith, d.within, d.least, there)))

-- Some documents are skipped, and then others.
abbrev Adds : (file : Bytes) (m k place : ℕ) → Type 0
Adds file m k place = bytes_from file place m + bytes_from file (place + bytes_from file place m) k ≡ bytes_from file place (m + k)

one_more : (file : Bytes) (m k place : ℕ) → ((p : ℕ) → Adds file m k p) → ((size : ℕ) × IsDocument file place size) ⊎ ((left_at file place).pieces ≡ []) → Adds file (suc m) k place
one_more file m k place adds (inl d) =
    let one : bytes_from file place (suc m) ≡ d.0 + bytes_from file (place + d.0) m = one_skipped file place d.0 m d.1 in
    let start : place + bytes_from file place (suc m) ≡ (place + d.0) + bytes_from file (place + d.0) m = omega (arith, one) in
    let count : suc m + k ≡ suc (m + k) = omega arith in
    omega (arith, one, ap (λ p. bytes_from file p k) start, adds (place + d.0), ap (bytes_from file place) count, one_skipped file place d.0 (m + k) d.1)
one_more file m k place adds (inr none) =
    let start : place + bytes_from file place (suc m) ≡ place = omega (arith, none_left file place (suc m) none) in
    omega (arith, none_left file place (suc m) none, ap (λ p. bytes_from file p k) start, none_left file place k none, none_left file place (suc m + k) none)

skipped_more : (file : Bytes) (m k place : ℕ) → Adds file m k place
skipped_more file zero k place =
    let nothing : bytes_from file place 0 ≡ 0 = refl in
    let start : place + bytes_from file place 0 ≡ place = omega (arith, nothing) in
    let count : k ≡ 0 + k = omega arith in
    omega (arith, nothing, ap (λ p. bytes_from file p k) start, ap (bytes_from file place) count)
skipped_more file (suc m) k place = one_more file m k place (skipped_more file m k) (step_at file place)

-- the document of a number begins behind another one and those between the two
pub offset_further : (file : Bytes) (number wanted offset : ℕ) → offset ≡ offset_in file number → number ≤ wanted → offset + bytes_from file offset (wanted - number) ≡ offset_in file wanted
offset_further file number wanted offset is before =
    let start : 0 + bytes_from file 0 number ≡ offset = omega (arith, is) in
    let count : number + (wanted - number) ≡ wanted = omega (arith, before) in
    omega (arith, is, ap (λ p. bytes_from file p (wanted - number)) start, skipped_more file number (wanted - number) 0, ap (bytes_from file 0) count)
