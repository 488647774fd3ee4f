-- What the output held when the writer began is at its front.
use Rattle.std.proofs.Common.{◌≡◌, ℕ, ◌++◌, length, take, Ok, refl, ap, sym, ◌∙◌, append_assoc}
use Rattle.std.proofs.lemmas.List.{take_at}
use Rattle.bson_kinds.specs.Text.{Bytes}
use Rattle.bson_kinds.proofs.Outcomes.{map_ok}
use Rattle.bson_laws.specs.Spell.{Writing}
use Rattle.bson_ser_stream.specs.Writing.{with_bytes}
use Rattle.bson_ser_stream.specs.Halting.{Grows}
use Rattle.bson_ser_stream.proofs.Growth.{taken_twice}
use Rattle.bson_io.specs.Output.{Output}

-- what is behind it is more than what was appended first
pub begun_kept : {A : Type 0} (bytes : A → Bytes) (begun front old : Bytes) (r : Writing A) → with_bytes bytes (begun ++ front) r ≡ Ok old → take (length begun) old ≡ begun
begun_kept bytes begun front old r e =
    let m = map_ok (λ x. (begun ++ front) ++ bytes x) r old e in
    ap (take (length begun)) (sym m.2 ∙ append_assoc begun front (bytes m.0)) ∙ take_at begun (front ++ bytes m.0) (length begun) refl

-- what is taken back leaves it alone
pub taken_back : (begun : Bytes) (place : ℕ) (old new : Output) (left : Bytes) (before now : ℕ) → place ≡ length begun → take (length begun) old.bytes ≡ begun → Grows old new before now → left ≡ take place new.bytes → left ≡ begun
taken_back begun place old new left before now at kept grows cut = cut ∙ ap (λ n. take n new.bytes) at ∙ taken_twice begun old.bytes new.bytes kept grows.kept
