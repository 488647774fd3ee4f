-- Bytes appended behind bytes appended.
use Rattle.std.proofs.Common.{◌≡◌, ℕ, ◌≤◌, [], ◌∷◌, length, take, refl, ap, ◌∙◌, arith}
use Rattle.std.proofs.lemmas.List.{length-append, take_at}
use Rattle.bson_kinds.specs.Text.{Bytes}
use Rattle.bson_io.specs.Output.{Output, Appended}
use Rattle.bson_ser_stream.specs.Halting.{Grows}

taken_longer : (a b : Bytes) → take (length a) b ≡ a → length a ≤ length b
taken_longer [] b e = omega arith
taken_longer (x ∷ a) [] e = absurd cc
taken_longer (x ∷ a) (y ∷ b) e = let rest : take (length a) b ≡ a = cc in let le = taken_longer a b rest in omega arith

pub taken_twice : (a b c : Bytes) → take (length a) b ≡ a → take (length b) c ≡ b → take (length a) c ≡ a
taken_twice [] b c e f = refl
taken_twice (x ∷ a) [] c e f = absurd cc
taken_twice (x ∷ a) (y ∷ b) [] e f = absurd cc
taken_twice (x ∷ a) (y ∷ b) (z ∷ c) e f =
    let ab : take (length a) b ≡ a = cc in
    let bc : take (length b) c ≡ b = cc in
    let ac = taken_twice a b c ab bc in
    cc

pub Grows-trans : (a b c : Output) (before between now : ℕ) → Grows a b before between → Grows b c between now → Grows a c before now
Grows-trans a b c before between now f s = record { kept = taken_twice a.bytes b.bytes c.bytes f.kept s.kept; room = omega (arith, f.room, s.room); least = omega (arith, f.least, s.least); most = omega (arith, f.most, s.most) }

pub Grows-appended : (a b : Output) (piece : Bytes) (before now : ℕ) → Appended a b piece before now → Grows a b before now
Grows-appended a b piece before now p =
    let long = length-append a.bytes piece in
    record { kept = ap (take (length a.bytes)) p.bytes ∙ take_at a.bytes piece (length a.bytes) refl; room = omega (arith, ap length p.bytes, p.spare); least = omega (arith, ap length p.bytes, p.steps); most = omega (arith, ap length p.bytes, p.steps) }

pub Grows-longer : (a b : Output) (before now : ℕ) → Grows a b before now → length a.bytes ≤ length b.bytes
Grows-longer a b before now h = taken_longer a.bytes b.bytes h.kept
