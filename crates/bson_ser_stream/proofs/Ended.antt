-- The end of a document or an array.
use Rattle.std.proofs.Common.{◌≡◌, ℕ, ◌+◌, ◌-◌, ◌≤◌, [], ◌∷◌, ◌++◌, length, take, drop, ap, sym, ◌∙◌, append_assoc, arith}
use Rattle.std.specs.Int.{w32, to_le_bytes, cast_unsigned, cast_signed}
use Rattle.std.proofs.lemmas.Int.{of_z-to_z}
use Rattle.std.proofs.lemmas.List.{length-append, length-drop, length-take-le, take_at, take-append-le}
use Rattle.bson_kinds.specs.Text.{Bytes}
use Rattle.bson_base.specs.Sound.{max_bytes}
use Rattle.bson_base.specs.Tree.{le32}
use Rattle.bson_base.proofs.Lengths.{length-le32}
use Rattle.bson_io.specs.Output.{Output, Appended, Patched, patched}
use Rattle.bson_ser_stream.specs.Writing.{length_place}
use Rattle.bson_ser_stream.specs.Halting.{Ends, Totals, Grows}
use Rattle.bson_ser_stream.proofs.Growth.{Grows-trans, Grows-appended, Grows-longer}

-- a length in four bytes
pub length_bytes : (n : ℕ) → n ≤ max_bytes → to_le_bytes w32 (cast_unsigned w32 (cast_signed w32 n)) ≡ le32 n
unfolding le32
length_bytes n small = ap (to_le_bytes w32) (of_z-to_z w32 n (omega arith))

pub ends : (old mid new : Output) (start len before between now : ℕ) → Appended old mid (0 ∷ []) before between → len ≡ length mid.bytes - start → len ≤ max_bytes
    → Patched mid new start (to_le_bytes w32 (cast_unsigned w32 (cast_signed w32 len))) between now → Ends old new start before now
ends old mid new start len before between now a is small p =
    let longer : length mid.bytes ≡ length old.bytes + 1 = omega (arith, ap length a.bytes, length-append old.bytes (0 ∷ [])) in
    let same : len ≡ length old.bytes + 1 - start = omega arith in
    record {
      bytes = p.bytes ∙ ap (patched mid.bytes start) (length_bytes len small ∙ ap le32 same) ∙ ap (λ b. patched b start (le32 (length old.bytes + 1 - start))) a.bytes;
      fits = omega arith;
      spare = omega (arith, a.spare, p.spare);
      steps = omega (arith, a.steps, p.steps);
    }

-- what is written over a place leaves the bytes before it, and the length of all
pub before_patch : (bytes piece : Bytes) (at : ℕ) → at ≤ length bytes → take at (patched bytes at piece) ≡ take at bytes
before_patch bytes piece at inside =
    ap (take at) (append_assoc (take at bytes) piece (drop (at + length piece) bytes))
    ∙ take_at (take at bytes) (piece ++ drop (at + length piece) bytes) at (length-take-le at bytes inside)

pub length-patched : (bytes piece : Bytes) (at : ℕ) → at + length piece ≤ length bytes → length (patched bytes at piece) ≡ length bytes
length-patched bytes piece at inside =
    omega (arith, length-append (take at bytes ++ piece) (drop (at + length piece) bytes), length-append (take at bytes) piece, length-take-le at bytes (omega arith), length-drop (at + length piece) bytes)

-- an end is one byte longer
pub length-ended : (mid new : Output) (start before now : ℕ) → start + 4 ≤ length mid.bytes → Ends mid new start before now → length new.bytes ≡ length mid.bytes + 1
length-ended mid new start before now inside ends =
    let n : ℕ = length mid.bytes + 1 - start in
    let closed : length (mid.bytes ++ 0 ∷ []) ≡ length mid.bytes + 1 = length-append mid.bytes (0 ∷ []) in
    ap length ends.bytes ∙ length-patched (mid.bytes ++ 0 ∷ []) (le32 n) start (omega (arith, inside, closed, length-le32 n)) ∙ closed

-- a document or an array that was begun, filled and ended was appended
pub Grows-container : (old begun mid new : Output) (start s0 s1 s2 s3 : ℕ) → start ≡ length old.bytes → Appended old begun length_place s0 s1 → Grows begun mid s1 s2 → Ends mid new start s2 s3 → Grows old new s0 s3
Grows-container old begun mid new start s0 s1 s2 s3 at begins grows ends =
    let filled = Grows-trans old begun mid s0 s1 s2 (Grows-appended old begun length_place s0 s1 begins) grows in
    let four : length begun.bytes ≡ length old.bytes + 4 = ap length begins.bytes ∙ length-append old.bytes length_place in
    let longer = Grows-longer begun mid s1 s2 grows in
    let closed : length (mid.bytes ++ 0 ∷ []) ≡ length mid.bytes + 1 = length-append mid.bytes (0 ∷ []) in
    let n : ℕ = length mid.bytes + 1 - start in
    let long : length new.bytes ≡ length mid.bytes + 1 = length-ended mid new start s2 s3 (omega (arith, at, four, longer)) ends in
    record {
      kept = ap (λ k. take k new.bytes) (sym at)
          ∙ ap (take start) ends.bytes
          ∙ before_patch (mid.bytes ++ 0 ∷ []) (le32 n) start (omega arith)
          ∙ ap (λ k. take k (mid.bytes ++ 0 ∷ [])) at
          ∙ take-append-le (length old.bytes) mid.bytes (0 ∷ []) (omega arith)
          ∙ filled.kept;
      room = omega (arith, begins.spare, grows.room, ends.spare);
      least = omega (arith, begins.steps, grows.least, ends.steps);
      most = omega (arith, begins.steps, grows.most, ends.steps);
    }

-- the length of a value that begins with it, written over its place
pub totals : (old new : Output) (start len before now : ℕ) → len ≡ length old.bytes - start → len ≤ max_bytes → Patched old new start (to_le_bytes w32 (cast_unsigned w32 (cast_signed w32 len))) before now → Totals old new start before now
totals old new start len before now is small p =
    record {
      bytes = p.bytes ∙ ap (patched old.bytes start) (length_bytes len small ∙ ap le32 is);
      fits = omega (arith, is);
      spare = p.spare;
      steps = p.steps;
    }
