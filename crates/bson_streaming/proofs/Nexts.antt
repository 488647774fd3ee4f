-- What comes next of a source, by what was taken in two steps.
use Rattle.std.proofs.Common.{◌≡◌, ℕ, ◌+◌, ◌-◌, ◌<◌, ◌≤◌, [], ◌++◌, length, Bool, true, false, cond, Option, Some, None, Result, Ok, Err, refl, ap, sym, subst, ◌∙◌, inl, inr, arith}
use Rattle.std.specs.Prelude.{◌⊎◌, nat_lt, eqb, ◌∷◌}
use Rattle.std.specs.Io.KnownBytes.{Consumes, IsAtEnd}
use Rattle.std.proofs.KnownBytes.{Consumes-trans}
use Rattle.std.proofs.lemmas.Bool.{le-ltb, lt-ltb, ltb-false}
use Rattle.std.proofs.lemmas.List.{length-append}
use Rattle.std.proofs.Math.Seq.{take-append_seam}
use Rattle.bson_kinds.specs.Text.{Bytes}
use Rattle.bson_kinds.specs.Outcome.{result_map}
use Rattle.bson_kinds.specs.declared.element_type.ElementType.TheVariants.{EmbeddedDocument}
use Rattle.bson_faults.specs.declared.raw.Error.{Error}
use Rattle.bson_faults.specs.declared.raw.Error.TheVariants.{BadExtent}
use Rattle.bson_io.specs.Ends.{Takes}
use Rattle.bson_rawdoc.specs.Cut.{length_within, piece_length}
use Rattle.bson_rawdoc.specs.Extent.{extent, length_from}
use Rattle.bson_rawdoc.specs.Numbers.{int32_in}
use Rattle.bson_rawdoc.proofs.Extents.{announced_is, number_within}
use Rattle.bson_source.specs.Taken.{TakesAll}
use Rattle.bson_streaming.specs.Next.{IsNextPiece}
use Rattle.bson_streaming.specs.declared.next.Piece.TheVariants as pieces

-- ---- four bytes tell the length

abbrev found : ℕ → Result ℕ Error
found n = Ok n

abbrev by_number : Bytes → Result ℕ Error
by_number b = result_map (λ n. n + 0) (length_from 5 (int32_in b))

of_four : (t : Bool) (b : Bytes) → t ≡ false → cond t (Err BadExtent) (by_number b) ≡ by_number b
of_four true b e = absurd cc
of_four false b e = refl

told_by_four : (b more : Bytes) → 4 ≤ length b → by_number (b ++ more) ≡ by_number b
told_by_four b more long = ap (λ z. result_map (λ n. n + 0) (length_from 5 z)) (sym (number_within (length b) (b ++ more) long) ∙ ap int32_in (take-append_seam b more))

extent_is : (b : Bytes) → 4 ≤ length b → extent EmbeddedDocument b ≡ by_number b
extent_is b long = of_four (nat_lt (length b) 4) b (le-ltb _ _ long)

pub extent_front : (b more : Bytes) → 4 ≤ length b → extent EmbeddedDocument (b ++ more) ≡ extent EmbeddedDocument b
extent_front b more long = extent_is (b ++ more) (omega (arith, long, length-append b more)) ∙ told_by_four b more long ∙ sym (extent_is b long)

short_or : (t : Bool) (b : Bytes) (n : ℕ) → cond t (Err BadExtent) (by_number b) ≡ Ok n → t ≡ false
short_or true b n e = absurd cc
short_or false b n e = refl

pub four_there : (b : Bytes) (n : ℕ) → extent EmbeddedDocument b ≡ Ok n → 4 ≤ length b
four_there b n e = omega (arith, ltb-false _ _ (short_or (nat_lt (length b) 4) b n e))

pub five_at_least : (b : Bytes) (n : ℕ) → extent EmbeddedDocument b ≡ Ok n → 5 ≤ n
five_at_least b n e = let told = announced_is 5 0 b n e in omega (arith, told.2, told.3)

too_many : (t : Bool) (n : ℕ) → t ≡ true → cond t None (Some n) ≡ None
too_many true n e = refl
too_many false n e = absurd cc

as_many : (t : Bool) (n : ℕ) → t ≡ false → cond t None (Some n) ≡ Some n
as_many true n e = absurd cc
as_many false n e = refl

-- ---- the exits

-- what was there is nothing, so that what was taken is all
pub from_nothing : (most : ℕ) (a b : Option Bytes) (start more bytes : Bytes) → start ≡ [] → bytes ≡ start ++ more → TakesAll (most - length start) a b more → TakesAll most a b bytes
from_nothing most a b start more bytes empty is t =
    let none : most - length start ≡ most = omega (arith, ap length empty) in
    subst (TakesAll most a b) (sym (is ∙ ap (λ s. s ++ more) empty)) (subst (λ n. TakesAll n a b more) none t)

-- the first four bytes, or all where they are fewer, announce no length
pub none_announced : (a b : Option Bytes) (bytes same : Bytes) (f : Error) → TakesAll 4 a b bytes → 0 < length bytes → same ≡ bytes → Err f ≡ extent EmbeddedDocument same → IsNextPiece pieces.Broken bytes a b
none_announced a b bytes same f t some is e = record { taken = t.taken; is = record { some = some; none = ap (length_within (length bytes)) told; ends = ends t.ended } } where
  told : extent EmbeddedDocument bytes ≡ Err f
  told = ap (extent EmbeddedDocument) (sym is) ∙ sym e

  ends : (length bytes ≡ 4) ⊎ IsAtEnd b → IsAtEnd b ⊎ ((more : Bytes) → piece_length (bytes ++ more) ≡ None)
  ends (inl four) = inr (λ more. ap (length_within (length (bytes ++ more))) (extent_front bytes more (omega (arith, four)) ∙ told))
  ends (inr end) = inl end

module _ (a b c : Option Bytes) (first more bytes same : Bytes) (n : ℕ) (start : TakesAll 4 a b first) (alike : same ≡ first) (told : Ok n ≡ extent EmbeddedDocument same) (is : bytes ≡ first ++ more) where
  announces : extent EmbeddedDocument first ≡ Ok n
  announces = ap (extent EmbeddedDocument) (sym alike) ∙ sym told

  long : 4 ≤ length first
  long = four_there first n announces

  -- they announce the same, whatever is behind them
  whole : extent EmbeddedDocument bytes ≡ Ok n
  whole = ap (extent EmbeddedDocument) is ∙ extent_front first more long ∙ announces

  size : length bytes ≡ length first + length more
  size = omega (arith, ap length is, length-append first more)

  module _ (rest : TakesAll (n - length first) b c more) where
    came : Consumes a c bytes
    came = subst (Consumes a c) (sym is) (Consumes-trans a b c first more start.taken rest.taken)

    at_end : length bytes < n → (length more ≡ n - length first) ⊎ IsAtEnd c → IsAtEnd c
    at_end few (inl all) = absurd (omega (arith, few, all, size, start.within, five_at_least first n announces))
    at_end few (inr end) = end

    pub truncated : length bytes < n → IsNextPiece pieces.Broken bytes a c
    truncated few = record {
      taken = came;
      is = record { some = omega (arith, long, size); none = ap (length_within (length bytes)) whole ∙ too_many (nat_lt (length bytes) n) n (lt-ltb _ _ few); ends = inl (at_end few rest.ended) };
    }

    pub document : n ≤ length bytes → IsNextPiece pieces.Document bytes a c
    document all =
        let same_size : n ≡ length bytes = omega (arith, all, size, start.within, rest.within, five_at_least first n announces) in
        record {
          taken = came;
          is = ap (length_within (length bytes)) whole ∙ as_many (nat_lt (length bytes) n) n (le-ltb _ _ all) ∙ ap Some same_size;
        }

-- ---- what was taken in two steps

-- bytes are there, where their number is not zero
pub not_empty : (n : ℕ) (xs : Bytes) (b : Bool) → length xs ≡ n → b ≡ eqb n 0 → b ≡ false → 0 < length xs
not_empty n [] b many is e = absurd (let none : n ≡ 0 = omega (arith, many) in let both : true ≡ false = ap (λ m. eqb m 0) (sym none) ∙ sym is ∙ e in cc)
not_empty n (x ∷ xs) b many is e = omega arith

pub takes_both : (a b c : Option Bytes) (first more : Bytes) → Consumes a b first → Consumes b c more → Takes a c
takes_both a b c first more p q = record { bytes = first ++ more; taken = Consumes-trans a b c first more p q }
