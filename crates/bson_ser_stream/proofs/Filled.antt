-- The lengths of a binary, written over those of an empty one.
use Rattle.std.proofs.Common.{◌≡◌, ◌≢◌, ℕ, ◌+◌, ◌≤◌, [], ◌∷◌, ◌++◌, length, take, drop, refl, ap, sym, ◌∙◌, append_assoc, arith}
use Rattle.std.specs.Int.{w32, to_le_bytes, cast_unsigned, cast_signed}
use Rattle.std.proofs.lemmas.List.{length-append, take_at, drop_at}
use Rattle.bson_kinds.specs.Text.{Bytes}
use Rattle.bson_base.specs.Tree.{le32}
use Rattle.bson_base.proofs.Lengths.{length-le32}
use Rattle.bson_io.specs.Output.{Output, Appended, Patched, patched}
use Rattle.bson_ser_stream.specs.Binary.{behind_length, binary_front, Fills}
use Rattle.bson_ser_stream.specs.Halting.{Grows}
use Rattle.bson_ser_stream.proofs.Binaries.{front_old, front_other, length-front_old, length-front_other, length-front_same}
use Rattle.bson_ser_stream.proofs.Ended.{length_bytes, length-patched}

-- a piece over another of its length
pub patched_over : (front piece other behind : Bytes) (at : ℕ) → at ≡ length front → length piece ≡ length other → patched ((front ++ piece) ++ behind) at other ≡ (front ++ other) ++ behind
patched_over front piece other behind at is same =
    let before : take at ((front ++ piece) ++ behind) ≡ front = ap (take at) (append_assoc front piece behind) ∙ take_at front (piece ++ behind) at (sym is) in
    let after : drop (at + length other) ((front ++ piece) ++ behind) ≡ behind = drop_at (front ++ piece) behind (at + length other) (omega (arith, length-append front piece, is, same)) in
    λ i. (before i ++ other) ++ after i

-- what is written over a place leaves the length of all
pub length-over : (old new : Output) (at before now : ℕ) (piece : Bytes) → Patched old new at piece before now → at + length piece ≤ length old.bytes → length new.bytes ≡ length old.bytes
length-over old new at before now piece p inside = ap length p.bytes ∙ length-patched old.bytes piece at inside

module _ (old new : Output) (start subtype n behind s0 s1 : ℕ) (counts : behind ≡ behind_length subtype n) (small : behind_length subtype n ≤ 16777216)
    (p : Patched old new start (to_le_bytes w32 (cast_unsigned w32 (cast_signed w32 behind))) s0 s1) where
  lead : to_le_bytes w32 (cast_unsigned w32 (cast_signed w32 behind)) ≡ le32 (behind_length subtype n)
  lead = length_bytes behind (omega (arith, counts)) ∙ ap le32 counts

  -- the first length is written over
  first_over : (tail front bytes : Bytes) → start ≡ length front → old.bytes ≡ (front ++ (le32 (behind_length subtype 0) ++ tail)) ++ bytes → new.bytes ≡ (front ++ (le32 (behind_length subtype n) ++ tail)) ++ bytes
  first_over tail front bytes at is =
      let m : ℕ = behind_length subtype 0 in
      let k : ℕ = behind_length subtype n in
      let cut : old.bytes ≡ (front ++ le32 m) ++ (tail ++ bytes) = is ∙ ap (λ x. x ++ bytes) (sym (append_assoc front (le32 m) tail)) ∙ append_assoc (front ++ le32 m) tail bytes in
      p.bytes ∙ (λ i. patched (cut i) start (lead i)) ∙ patched_over front (le32 m) (le32 k) (tail ++ bytes) start at (length-le32 m ∙ sym (length-le32 k))
      ∙ sym (append_assoc (front ++ le32 k) tail bytes) ∙ ap (λ x. x ++ bytes) (append_assoc front (le32 k) tail)

  pub fills_other : subtype ≢ 2 → Fills old new start subtype n s0 s1
  fills_other other = record {
    bytes = λ front bytes at is.
        first_over (subtype ∷ []) front bytes at (is ∙ ap (λ x. (front ++ x) ++ bytes) (front_other subtype 0 other))
        ∙ ap (λ x. (front ++ x) ++ bytes) (sym (front_other subtype n other));
    spare = p.spare;
    least = omega (arith, p.steps);
    most = omega (arith, p.steps, ap length lead, length-le32 (behind_length subtype n), length-front_other subtype n other);
  }

  pub fills_old : (last : Output) (s2 : ℕ) → subtype ≡ 2 → n ≤ 16777216 → Patched new last (start + 5) (to_le_bytes w32 (cast_unsigned w32 (cast_signed w32 n))) s1 s2 → Fills old last start subtype n s0 s2
  fills_old last s2 old_is fits q =
      let second : to_le_bytes w32 (cast_unsigned w32 (cast_signed w32 n)) ≡ le32 n = length_bytes n (omega arith) in
      let k : ℕ = behind_length subtype n in
      let joined : (tail front bytes : Bytes) → (front ++ (le32 k ++ (subtype ∷ tail))) ++ bytes ≡ ((front ++ (le32 k ++ subtype ∷ [])) ++ tail) ++ bytes =
      λ tail front bytes. ap (λ x. x ++ bytes) (ap (λ x. front ++ x) (sym (append_assoc (le32 k) (subtype ∷ []) tail)) ∙ sym (append_assoc front (le32 k ++ subtype ∷ []) tail)) in
      record {
        bytes = λ front bytes at is.
            let first = first_over (subtype ∷ le32 0) front bytes at (is ∙ ap (λ x. (front ++ x) ++ bytes) (front_old subtype 0 old_is)) in
            let place : start + 5 ≡ length (front ++ (le32 k ++ subtype ∷ [])) = omega (arith, at, length-append front (le32 k ++ subtype ∷ []), length-append (le32 k) (subtype ∷ []), length-le32 k) in
            q.bytes ∙ (λ i. patched ((first ∙ joined (le32 0) front bytes) i) (start + 5) (second i))
            ∙ patched_over (front ++ (le32 k ++ subtype ∷ [])) (le32 0) (le32 n) bytes (start + 5) place (length-le32 0 ∙ sym (length-le32 n))
            ∙ sym (joined (le32 n) front bytes)
            ∙ ap (λ x. (front ++ x) ++ bytes) (sym (front_old subtype n old_is));
        spare = omega (arith, p.spare, q.spare);
        least = omega (arith, p.steps, q.steps);
        most = omega (arith, p.steps, q.steps, ap length lead, ap length second, length-le32 k, length-le32 n, length-front_old subtype n old_is);
      }

-- a front, its bytes, and the lengths over those of the front
module _ (old begun mid new : Output) (start subtype : ℕ) (bytes : Bytes) (s0 s1 s2 s3 : ℕ) (at : start ≡ length old.bytes) (a : Appended old begun (binary_front subtype 0) s0 s1) (b : Appended begun mid bytes s1 s2)
    (f : Fills mid new start subtype (length bytes) s2 s3) where
  pub filled : new.bytes ≡ (old.bytes ++ binary_front subtype (length bytes)) ++ bytes
  filled = f.bytes old.bytes bytes at (b.bytes ∙ ap (λ x. x ++ bytes) a.bytes)

  pub Grows-filled : Grows old new s0 s3
  Grows-filled =
      let k : ℕ = length bytes in
      let long = length-append (old.bytes ++ binary_front subtype k) bytes in
      let front = length-append old.bytes (binary_front subtype k) in
      let same = length-front_same subtype k in
      record {
        kept = ap (take (length old.bytes)) (filled ∙ append_assoc old.bytes (binary_front subtype k) bytes) ∙ take_at old.bytes (binary_front subtype k ++ bytes) (length old.bytes) refl;
        room = omega (arith, ap length filled, long, front, same, a.spare, b.spare, f.spare);
        least = omega (arith, ap length filled, long, front, same, a.steps, b.steps, f.least);
        most = omega (arith, ap length filled, long, front, same, a.steps, b.steps, f.most);
      }
