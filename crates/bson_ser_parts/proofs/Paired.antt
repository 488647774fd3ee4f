-- A document of one pair: how it is begun, and how it is ended.
use Rattle.std.proofs.Common.{true, ◌≡◌, inl, inr, ℕ, ◌+◌, ◌-◌, ◌≤◌, [], ◌∷◌, ◌++◌, length, take, Result, Ok, Err, ap, sym, ◌∙◌, arith}
use Rattle.std.proofs.lemmas.List.{length-append, take-take, take-append-le}
use Rattle.std.specs.Prelude.{OnOk, OnErr, IfErr}
use Rattle.bson_kinds.specs.Kind.{byte}
use Rattle.bson_base.specs.Sound.{max_levels}
use Rattle.bson_kinds.specs.Text.{Bytes, Utf8, has_zero}
use Rattle.bson_base.specs.Tree.{le32}
use Rattle.bson_kinds.specs.declared.element_type.ElementType.{ElementType}
use Rattle.bson_base.proofs.Lengths.{length-le32}
use Rattle.bson_values.specs.Refusal.{Failure, WriteFault, with_path, invalid_cstring}
use Rattle.bson_values.specs.Stop.{IsPlaced}
use Rattle.bson_values.specs.declared.stop.Stop.TheVariants.{Refused, NoMemory}
use Rattle.bson_io.specs.Output.{Output, patched, Patched}
use Rattle.bson_laws.proofs.Sizes.{ok_is}
use Rattle.bson_writing.specs.Halting.{Halts, halt_view, IsHereOrMemory, IsOutOfMemory}
use Rattle.bson_writing.specs.Levels.{in_variant}
use Rattle.bson_writing.specs.declared.halt.Halt.{Halt}
use Rattle.bson_writing.specs.declared.halt.Halt.TheVariants.{Stopped, TooLong}
use Rattle.bson_ser_stream.specs.Writing.{level_inside}
use Rattle.bson_ser_stream.specs.Halting.{Grows, Ends, EndHalts}
use Rattle.bson_ser_stream.proofs.Ended.{before_patch, length-patched}
use Rattle.bson_ser_stream.proofs.Limits.{placed_is}
use Rattle.bson_ser_parts.specs.Pairs.{ended, NameHalts, RefusesName, IsIn, PairEnds, PairEndHalts}
use Rattle.bson_ser_parts.specs.declared.pair.OnePair.{OnePair}

-- ---- the beginning

pub in_variant_left : (a b : ℕ) → level_inside max_levels ≡ Ok a → level_inside a ≡ Ok b → b ≡ in_variant
in_variant_left a b e f = sym (ok_is 198 b (ap level_inside (ok_is 199 a e) ∙ f))

pub not_begun : (name : Utf8) (spare : ℕ) (h : Halt) → Halts 4 spare (level_inside max_levels) h → NameHalts name h
not_begun name spare (Stopped (Refused r)) e = absurd cc
not_begun name spare (Stopped NoMemory) e = tt
not_begun name spare TooLong e = absurd (omega (arith, e))

pub not_begun_inside : (name : Utf8) (spare a : ℕ) (h : Halt) → level_inside max_levels ≡ Ok a → Halts 4 spare (level_inside a) h → NameHalts name h
not_begun_inside name spare a (Stopped (Refused r)) e halts = let no : level_inside 199 ≡ Err _ = ap level_inside (ok_is 199 a e) ∙ halts in absurd cc
not_begun_inside name spare a (Stopped NoMemory) e halts = tt
not_begun_inside name spare a TooLong e halts = absurd (omega (arith, halts))

pub zero_named : (name : Utf8) (h : Halt) → has_zero name ≡ true → IsHereOrMemory (invalid_cstring name) h → NameHalts name h
zero_named name (Stopped (Refused r)) zero is = (zero, is)
zero_named name (Stopped NoMemory) zero is = tt
zero_named name TooLong zero is = absurd is

pub memory_named : (name : Utf8) (h : Halt) → IsOutOfMemory h → NameHalts name h
memory_named name (Stopped (Refused r)) is = absurd is
memory_named name (Stopped NoMemory) is = tt
memory_named name TooLong is = absurd is

-- what a caller sees of it
pub refuses_name : (name : Utf8) (h : Halt) (f : Failure WriteFault) → NameHalts name h → IsPlaced (halt_view h) f → RefusesName name f
refuses_name name (Stopped (Refused r)) f halts is = elim (placed_is _ f is) [ inl want ↦ inl want | inr known ↦ inr (halts.0, known ∙ ap with_path halts.1) ]
refuses_name name (Stopped NoMemory) f halts is = inl is
refuses_name name TooLong f halts is = absurd halts

-- ---- the end

-- what was begun at a place is one byte longer when it is ended
ended_longer : (bytes : Bytes) (start : ℕ) → start + 4 ≤ length bytes → length (ended bytes start) ≡ length bytes + 1
ended_longer bytes start within =
    let n = length bytes + 1 - start in
    length-patched (bytes ++ 0 ∷ []) (le32 n) start (omega (arith, within, length-le32 n, length-append bytes (0 ∷ []))) ∙ length-append bytes (0 ∷ [])

-- and has the bytes before it
ended_kept : (bytes : Bytes) (start n : ℕ) → start ≤ length bytes → n ≤ start → take n (ended bytes start) ≡ take n bytes
ended_kept bytes start n within less =
    sym (take-take n start (ended bytes start) less)
    ∙ ap (take n) (before_patch (bytes ++ 0 ∷ []) (le32 (length bytes + 1 - start)) start (omega (arith, within, length-append bytes (0 ∷ []))) ∙ take-append-le start bytes (0 ∷ []) within)
    ∙ take-take n start bytes less

patched_kept : (bytes piece : Bytes) (at n : ℕ) → at ≤ length bytes → n ≤ at → take n (patched bytes at piece) ≡ take n bytes
patched_kept bytes piece at n within less = sym (take-take n at (patched bytes at piece) less) ∙ ap (take n) (before_patch bytes piece at within) ∙ take-take n at bytes less

grown_kept : (old new : Output) (before now n : ℕ) → Grows old new before now → n ≤ length old.bytes → take n new.bytes ≡ take n old.bytes
grown_kept old new before now n grows within = sym (take-take n (length old.bytes) new.bytes within) ∙ ap (take n) grows.kept

module _ (p : OnePair) (k : ElementType) (old inner mid : Output) (s0 s1 s2 : ℕ) (first : Ends old inner p.contents.start s0 s1) (patches : Patched inner mid p.kind_place (byte k ∷ []) s1 s2) where
  mid_is : mid.bytes ≡ patched (ended old.bytes p.contents.start) p.kind_place (byte k ∷ [])
  mid_is = patches.bytes ∙ ap (λ b. patched b p.kind_place (byte k ∷ [])) first.bytes

  pub pair_ended : (new : Output) (s3 : ℕ) → p.document.start + 4 ≤ length mid.bytes → Ends mid new p.document.start s2 s3 → PairEnds p k old new
  pair_ended new s3 within last = record {
    bytes = last.bytes ∙ ap (λ b. ended b p.document.start) mid_is;
    fits = omega (arith, last.fits, ap length last.bytes, ended_longer mid.bytes p.document.start within);
  }

  mid_long : IsIn p old → length mid.bytes ≡ length old.bytes + 1
  mid_long here_is =
      let long = ended_longer old.bytes p.contents.start here_is.contents in
      omega (arith, ap length mid_is, length-patched (ended old.bytes p.contents.start) (byte k ∷ []) p.kind_place (omega (arith, here_is.kind, here_is.contents, long)), long)

  -- the document is not ended
  pub document_halts : (h : Halt) → (p.document.start + 4 ≤ length mid.bytes → EndHalts mid p.document.start h) → IsIn p old → PairEndHalts p old h
  document_halts (Stopped (Refused r)) halts here_is = halts (omega (arith, here_is.document, here_is.kind, here_is.contents, mid_long here_is))
  document_halts (Stopped NoMemory) halts here_is = tt
  document_halts TooLong halts here_is = omega (arith, halts (omega (arith, here_is.document, here_is.kind, here_is.contents, mid_long here_is)), mid_long here_is)

  pub document_kept : (new : Output) (s3 : ℕ) → Grows mid new s2 s3 → IsIn p old → take p.document.start new.bytes ≡ take p.document.start old.bytes
  document_kept new s3 grows here_is =
      grown_kept mid new s2 s3 p.document.start grows (omega (arith, here_is.document, here_is.kind, here_is.contents, mid_long here_is))
      ∙ ap (take p.document.start) mid_is
      ∙ patched_kept (ended old.bytes p.contents.start) (byte k ∷ []) p.kind_place p.document.start (omega (arith, here_is.kind, here_is.contents, ended_longer old.bytes p.contents.start here_is.contents)) (omega (arith, here_is.document))
      ∙ ended_kept old.bytes p.contents.start p.document.start (omega (arith, here_is.contents)) (omega (arith, here_is.document, here_is.kind))

  -- the three by what the last call answers

  pub pair_ends : (r : Result (Unit {0}) Halt) (new : Output) (s3 : ℕ) → OnOk r (p.document.start + 4 ≤ length mid.bytes) → OnOk r (Ends mid new p.document.start s2 s3) → OnOk r (PairEnds p k old new)
  pair_ends (Ok x) new s3 within last = pair_ended new s3 within last
  pair_ends (Err h) new s3 within last = tt

  pub pair_halts : (r : Result (Unit {0}) Halt) → (p.document.start + 4 ≤ length mid.bytes → IfErr r (EndHalts mid p.document.start)) → IsIn p old → IfErr r (PairEndHalts p old)
  pair_halts (Ok x) halts here_is = tt
  pair_halts (Err h) halts here_is = document_halts h halts here_is

  pub pair_kept : (r : Result (Unit {0}) Halt) (new : Output) (s3 : ℕ) → OnErr r (Grows mid new s2 s3) → IsIn p old → OnErr r (take p.document.start new.bytes ≡ take p.document.start old.bytes)
  pair_kept (Ok x) new s3 grows here_is = tt
  pair_kept (Err h) new s3 grows here_is = document_kept new s3 grows here_is

-- what is under the key is not ended
pub contents_halt : (p : OnePair) (old : Output) (h : Halt) → (p.contents.start + 4 ≤ length old.bytes → EndHalts old p.contents.start h) → IsIn p old → PairEndHalts p old h
contents_halt p old (Stopped (Refused r)) halts here_is = halts here_is.contents
contents_halt p old (Stopped NoMemory) halts here_is = tt
contents_halt p old TooLong halts here_is = omega (arith, halts here_is.contents, here_is.document, here_is.kind)

pub contents_kept : (p : OnePair) (old new : Output) (s0 s1 : ℕ) → Grows old new s0 s1 → IsIn p old → take p.document.start new.bytes ≡ take p.document.start old.bytes
contents_kept p old new s0 s1 grows here_is = grown_kept old new s0 s1 p.document.start grows (omega (arith, here_is.document, here_is.kind, here_is.contents))

-- the place of the kind is in what was ended
pub kind_within : (p : OnePair) (old inner : Output) (s0 s1 : ℕ) → Ends old inner p.contents.start s0 s1 → IsIn p old → length inner.bytes ≤ p.kind_place → ⊥
kind_within p old inner s0 s1 first here_is past = omega (arith, here_is.kind, here_is.contents, ap length first.bytes, ended_longer old.bytes p.contents.start here_is.contents, past)
