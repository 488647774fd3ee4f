-- A salvage under way, stretch by stretch.
use Rattle.std.proofs.Common.{◌≡◌, ℕ, ◌+◌, ◌-◌, ◌<◌, ◌≤◌, Bool, true, false, not, List, [], ◌∷◌, ◌++◌, length, drop, take, Option, refl, ap, sym, subst, ◌∙◌, inl, inr, arith, append-nil}
use Rattle.std.specs.Prelude.{◌⊎◌, ◌||◌}
use Rattle.std.specs.Io.KnownBytes.{Consumes, Appends, IsAtEnd}
use Rattle.std.proofs.KnownBytes.{Consumes-nil, Consumes-trans, Appends-nil, Appends-trans}
use Rattle.std.proofs.lemmas.List.{append_assoc, length-append, length-take-le, take-append-le, drop-append-le, take-append-drop}
use Rattle.bson_kinds.specs.Text.{Bytes}
use Rattle.bson_io.specs.Ends.{AppendsPrefix, Rose, RoseOrLast, Takes}
use Rattle.bson_program.specs.Ends.{SourceChange, SinkChange}
use Rattle.bson_streaming.proofs.Dues.{as_prefix, prefix_behind}
use Rattle.bson_streaming.proofs.UnderWay.{source, sink}
use Rattle.bson_salvaging.specs.Halted.{ending_of, Tells, kept_bytes, told_line, Moves, IsWritten, IsUnwritten, Halted}
use Rattle.bson_salvaging.specs.Looks.{is_walked}
use Rattle.bson_salvaging.specs.Salvage.{Stretch, first_looks, step, stretch_of, then_stretch, salvage_from, salvage}
use Rattle.bson_salvaging.specs.Salvaged.{joined, saved_of, saved, line_for, lines_of, lines, is_left_out, has_left_out, IsWalked, AreWalked, IsAll, Stops, CutOff}
use Rattle.bson_streaming.specs.Streamed.{Faults}
use Rattle.bson_salvaging.specs.Searches.{Passes, Passed, IsStep}
use Rattle.bson_salvaging.specs.Window.{Held, MayCome, Grows}
use Rattle.bson_salvaging.specs.declared.salvaging.Halt.{Halt}
use Rattle.bson_salvaging.specs.declared.salvaging.Halt.TheVariants as halts
use Rattle.bson_salvaging.specs.declared.salvaging.Unwritten.TheVariants as unwritten
use Rattle.bson_salvaging.specs.declared.stepping.Step.{Step}
use Rattle.bson_salvaging.proofs.Saving.{step_counts, salvage_none, salvage_more, joined_last, saved_last, lines_last, left_out_last, walked_last, bytes_stretch, keeps_walked}
use Rattle.bson_salvaging.proofs.Windows.{may_come, all_bytes}

-- So far: these stretches came of the source, and are written and told.
pub record IsSaving (input : SourceChange) (out err : SinkChange) (window : Held) (place looks : ℕ) (some : Bool) : Type 0 where
  pub stretches : List Stretch
  pub taken : Consumes input.before input.after (joined stretches ++ window.bytes)
  pub ended : window.ended ≡ true → IsAtEnd input.after
  pub steady : input.faults_after ≡ input.faults_before
  pub exact : (more : Bytes) → MayCome window more → salvage (joined stretches ++ (window.bytes ++ more)) ≡ stretches ++ salvage_from looks (window.bytes ++ more)
  pub walked : AreWalked stretches
  pub written : Tells out (saved stretches)
  pub told : Tells err (lines 0 stretches)
  pub placed : place ≡ length (joined stretches)
  pub left : some ≡ has_left_out stretches

pub begun : (i : Option Bytes) (p : ℕ) (r : Option ℕ) (o : Option Bytes) (q : ℕ) (s : Option ℕ) (e : Option Bytes) (t : ℕ) (window : Held) → window.bytes ≡ [] → window.ended ≡ false
    → IsSaving (source i i p p) (sink r o o q q) (sink s e e t t) window 0 first_looks false
begun i p r o q s e t window none fresh = record {
  stretches = [];
  taken = subst (Consumes i i) (sym none) (Consumes-nil i);
  ended = λ x. absurd (let clash : true ≡ false = sym x ∙ fresh in cc);
  steady = refl;
  exact = λ more may. refl;
  walked = tt;
  written = record { grown = Appends-nil o; quiet = refl };
  told = record { grown = Appends-nil e; quiet = refl };
  placed = refl;
  left = refl;
}

same_end : (a b : Option Bytes) → b ≡ a → IsAtEnd a → IsAtEnd b
same_end a b e h = subst IsAtEnd (sym e) h

empty : (b : Bytes) → length b ≡ 0 → b ≡ []
empty [] h = refl
empty (x ∷ xs) h = absurd (omega (arith, h))

module _ (i i' : Option Bytes) (p p' : ℕ) (out err : SinkChange) (window : Held) (place looks : ℕ) (some : Bool) (w : IsSaving (source i i' p p') out err window place looks some) where
  -- more bytes came
  pub grown : (i'' : Option Bytes) (p'' : ℕ) (next : Held) → Grows window next i' i'' → p'' ≡ p' → IsSaving (source i i'' p p'') out err next place looks some
  grown i'' p'' next g same = record {
    stretches = w.stretches;
    taken = subst (Consumes i i'') (append_assoc (joined w.stretches) window.bytes g.more ∙ ap (λ b. joined w.stretches ++ b) (sym g.bytes)) (Consumes-trans i i' i'' (joined w.stretches ++ window.bytes) g.more w.taken g.taken);
    ended = λ e. by_end (g.ends e);
    steady = same ∙ w.steady;
    exact = λ more may. ap (λ b. salvage (joined w.stretches ++ b)) (all_bytes window next i' i'' g more) ∙ w.exact (g.more ++ more) (may_come window next i' i'' g more may)
        ∙ ap (λ b. w.stretches ++ salvage_from looks b) (sym (all_bytes window next i' i'' g more));
    walked = w.walked;
    written = w.written;
    told = w.told;
    placed = w.placed;
    left = w.left;
  } where
    by_end : (window.ended ≡ true) ⊎ IsAtEnd i'' → IsAtEnd i''
    by_end (inl e) = same_end i' i'' (g.over e).2 (w.ended e)
    by_end (inr e) = e

  -- no more stretches are told
  halted : (h : Halt) (i'' : Option Bytes) (p'' : ℕ) (more : Bytes) → Consumes i' i'' more → Stops (ending_of h) (source i i'' p p'') w.stretches (window.bytes ++ more) → Faults (ending_of h) (source i i'' p p'') → Halted (source i i'' p p'') out err h
  halted h i'' p'' more taken stops faults = record {
    stretches = w.stretches;
    rest = window.bytes ++ more;
    taken = subst (Consumes i i'') (append_assoc (joined w.stretches) window.bytes more) (Consumes-trans i i' i'' (joined w.stretches ++ window.bytes) more w.taken taken);
    walked = w.walked;
    stops = stops;
    faults = faults;
    written = w.written;
    told = w.told;
  }

  pub at_end : length window.bytes ≡ 0 → window.ended ≡ true → Halted (source i i' p p') out err (halts.End some)
  at_end none over = by_case some w.left where
    nothing : window.bytes ≡ []
    nothing = empty window.bytes none

    exactly : w.stretches ≡ salvage (joined w.stretches)
    exactly =
        let rest : window.bytes ++ [] ≡ [] = append-nil window.bytes ∙ nothing in
        sym (ap salvage (sym (append-nil (joined w.stretches)) ∙ ap (λ b. joined w.stretches ++ b) (sym rest)) ∙ w.exact [] (λ e. refl) ∙ ap (λ b. w.stretches ++ salvage_from looks b) rest
        ∙ ap (λ l. w.stretches ++ l) (salvage_none looks) ∙ append-nil w.stretches)

    all : IsAll (source i i' p p') w.stretches (window.bytes ++ [])
    all = record { nothing = append-nil window.bytes ∙ nothing; ended = w.ended over; exact = exactly }

    by_case : (b : Bool) → b ≡ has_left_out w.stretches → Halted (source i i' p p') out err (halts.End b)
    by_case true is = halted (halts.End true) i' p' [] (Consumes-nil i') (all, sym is) w.steady
    by_case false is = halted (halts.End false) i' p' [] (Consumes-nil i') (all, sym is) w.steady

  pub at_fault : (i'' : Option Bytes) (p'' : ℕ) → Takes i' i'' → Rose p' p'' → Halted (source i i'' p p'') out err halts.SourceFault
  at_fault i'' p'' x rose = halted halts.SourceFault i'' p'' x.bytes x.taken tt (subst (λ n. Rose n p'') w.steady rose)

  pub without_memory : (i'' : Option Bytes) (p'' : ℕ) → Takes i' i'' → Halted (source i i'' p p'') out err halts.NoMemory
  without_memory i'' p'' x = halted halts.NoMemory i'' p'' x.bytes x.taken tt tt

  pub too_long : (i'' : Option Bytes) (p'' : ℕ) → Takes i' i'' → p'' ≡ p' → Halted (source i i'' p p'') out err halts.TooLong
  too_long i'' p'' x same = halted halts.TooLong i'' p'' x.bytes x.taken tt (same ∙ w.steady)

-- ---- a stretch

passes_both : (k : Bool) (n : ℕ) (mid now next : Held) → Passed k n mid now → Moves k n now next → Passes n mid next
passes_both true n mid now next x m = subst (λ h. Passes n h next) x.0 m
passes_both false n mid now next x m = subst (Passes n mid) (sym m) x

held_first : (k : Bool) (n : ℕ) (mid now : Held) → Passed k n mid now → kept_bytes k n now ≡ saved_of (stretch_of k (take n mid.bytes))
held_first true n mid now x = ap (λ (h : Held). take n h.bytes) x.0
held_first false n mid now x = refl

within_mid : (k : Bool) (n : ℕ) (mid now : Held) → Passed k n mid now → n ≤ length mid.bytes
within_mid true n mid now x = x.1
within_mid false n mid now x = x.within

is_told : (k : Bool) (place n : ℕ) (b : Bytes) → length b ≡ n → told_line k place (place + n) ≡ lines_of place (stretch_of k b)
is_told true place n b e = refl
is_told false place n b e = ap (λ m. line_for place (place + m)) (sym e)

is_out : (k : Bool) (b : Bytes) → is_left_out (stretch_of k b) ≡ not k
is_out true b = refl
is_out false b = refl

is_fine : (k : Bool) (b : Bytes) → (k ≡ true → is_walked b ≡ true) → IsWalked (stretch_of k b)
is_fine true b h = h refl
is_fine false b h = tt

module _ (i i' i'' : Option Bytes) (p p' p'' : ℕ) (r : Option ℕ) (o o' : Option Bytes) (q q' : ℕ) (v : Option ℕ) (e e' : Option Bytes) (t t' : ℕ) (window now : Held) (place looks : ℕ) (some : Bool)
    (w : IsSaving (source i i' p p') (sink r o o' q q') (sink v e e' t t') window place looks some) (s : Step) (x : IsStep looks window now i' i'' s) (filled : 0 < length window.bytes) (same : p'' ≡ p') where
  wide : IsSaving (source i i'' p p'') (sink r o o' q q') (sink v e e' t t') x.mid place looks some
  wide = grown i i' p p' (sink r o o' q q') (sink v e e' t t') window place looks some w i'' p'' x.mid x.grows same

  within : s.count ≤ length x.mid.bytes
  within = within_mid s.keeps s.count x.mid now x.passed

  counted : length (take s.count x.mid.bytes) ≡ s.count
  counted = length-take-le s.count x.mid.bytes within

  all_first : take s.count x.mid.bytes ++ drop s.count x.mid.bytes ≡ x.mid.bytes
  all_first = take-append-drop s.count x.mid.bytes

  pub stretches_too_long : Halted (source i i'' p p'') (sink r o o' q q') (sink v e e' t t') halts.TooLong
  stretches_too_long = too_long i i'' p p'' (sink r o o' q q') (sink v e e' t t') x.mid place looks some wide i'' p'' (record { bytes = []; taken = Consumes-nil i'' }) refl

  pub stretch_forgotten : Halted (source i i'' p p'') (sink r o o' q q') (sink v e e' t t') halts.NoMemory
  stretch_forgotten = without_memory i i'' p p'' (sink r o o' q q') (sink v e e' t t') x.mid place looks some wide i'' p'' (record { bytes = []; taken = Consumes-nil i'' })

  joined_more : joined (wide.stretches ++ stretch_of s.keeps (take s.count x.mid.bytes) ∷ []) ≡ joined wide.stretches ++ take s.count x.mid.bytes
  joined_more = joined_last wide.stretches (stretch_of s.keeps (take s.count x.mid.bytes)) ∙ ap (λ b. joined wide.stretches ++ b) (bytes_stretch s.keeps (take s.count x.mid.bytes))

  walked_more : AreWalked (wide.stretches ++ stretch_of s.keeps (take s.count x.mid.bytes) ∷ [])
  walked_more = walked_last wide.stretches (stretch_of s.keeps (take s.count x.mid.bytes)) wide.walked (is_fine s.keeps (take s.count x.mid.bytes) fine) where
    fine : s.keeps ≡ true → is_walked (take s.count x.mid.bytes) ≡ true
    fine keeps =
        let is : step looks (x.mid.bytes ++ []) ≡ s = x.settles [] (λ e. refl) in
        let good : is_walked (take (step looks (x.mid.bytes ++ [])).count (x.mid.bytes ++ [])) ≡ true = keeps_walked looks (x.mid.bytes ++ []) (ap (λ (z : Step). z.keeps) is ∙ keeps) in
        sym (ap (λ (z : Step). is_walked (take z.count (x.mid.bytes ++ []))) is ∙ ap is_walked (take-append-le s.count x.mid.bytes [] within)) ∙ good

  -- the bytes behind it
  after : (tail : Bytes) → tail ≡ drop s.count x.mid.bytes → joined (wide.stretches ++ stretch_of s.keeps (take s.count x.mid.bytes) ∷ []) ++ tail ≡ joined wide.stretches ++ x.mid.bytes
  after tail is =
      ap (λ j. j ++ tail) joined_more ∙ append_assoc (joined wide.stretches) (take s.count x.mid.bytes) tail
      ∙ ap (λ b. joined wide.stretches ++ (take s.count x.mid.bytes ++ b)) is ∙ ap (λ b. joined wide.stretches ++ b) all_first

  place_is : place ≡ 0 + length (joined wide.stretches)
  place_is = omega (arith, wide.placed)

  lines_more : lines 0 wide.stretches ++ told_line s.keeps place (place + s.count) ≡ lines 0 (wide.stretches ++ stretch_of s.keeps (take s.count x.mid.bytes) ∷ [])
  lines_more =
      ap (λ l. lines 0 wide.stretches ++ l) (is_told s.keeps place s.count (take s.count x.mid.bytes) counted ∙ ap (λ n. lines_of n (stretch_of s.keeps (take s.count x.mid.bytes))) place_is)
      ∙ sym (lines_last 0 wide.stretches (stretch_of s.keeps (take s.count x.mid.bytes)))

  saved_more : saved wide.stretches ++ kept_bytes s.keeps s.count now ≡ saved (wide.stretches ++ stretch_of s.keeps (take s.count x.mid.bytes) ∷ [])
  saved_more = ap (λ b. saved wide.stretches ++ b) (held_first s.keeps s.count x.mid now x.passed) ∙ sym (saved_last wide.stretches (stretch_of s.keeps (take s.count x.mid.bytes)))

  -- each stretch has a byte at least
  pub stretch_counts : 1 ≤ s.count
  stretch_counts =
      subst (λ (z : Step). 1 ≤ z.count) (x.settles [] (λ e. refl)) (step_counts looks (x.mid.bytes ++ []) (omega (arith, filled, ap length x.grows.bytes, length-append window.bytes x.grows.more, length-append x.mid.bytes [])))

  module _ (r' : Option ℕ) (o'' : Option Bytes) (q'' : ℕ) (v' : Option ℕ) (e'' : Option Bytes) (t'' : ℕ) (to : ℕ) (there : to ≡ place + s.count) where
    -- it was written or told, and passed
    pub saved_one : (next : Held) → IsWritten s.keeps (to - place) place to now next (sink r' o' o'' q' q'') (sink v' e' e'' t' t'')
        → IsSaving (source i i'' p p'') (sink r o o'' q q'') (sink v e e'' t t'') next to s.left (some || not s.keeps)
    saved_one next y = record {
      stretches = wide.stretches ++ stretch_of s.keeps (take s.count x.mid.bytes) ∷ [];
      taken = subst (Consumes i i'') (sym (after next.bytes passed.bytes)) wide.taken;
      ended = λ z. wide.ended (sym passed.ended ∙ z);
      steady = wide.steady;
      exact = exactly;
      walked = walked_more;
      written = record {
        grown = subst (Appends o o'') saved_more (Appends-trans o o' o'' (saved wide.stretches) (kept_bytes s.keeps s.count now) wide.written.grown (subst (λ n. Appends o' o'' (kept_bytes s.keeps n now)) number y.written.grown));
        quiet = y.written.quiet ∙ wide.written.quiet;
      };
      told = record {
        grown = subst (Appends e e'') lines_more (Appends-trans e e' e'' (lines 0 wide.stretches) (told_line s.keeps place (place + s.count)) wide.told.grown (subst (λ n. Appends e' e'' (told_line s.keeps place n)) there y.told.grown));
        quiet = y.told.quiet ∙ wide.told.quiet;
      };
      placed = omega (arith, there, wide.placed, ap length joined_more, length-append (joined wide.stretches) (take s.count x.mid.bytes), counted);
      left = ap (λ b. some || b) (sym (is_out s.keeps (take s.count x.mid.bytes))) ∙ ap (λ b. b || is_left_out (stretch_of s.keeps (take s.count x.mid.bytes))) wide.left ∙ sym (left_out_last wide.stretches (stretch_of s.keeps (take s.count x.mid.bytes)));
    } where
      number : to - place ≡ s.count
      number = omega (arith, there)

      passed : Passes s.count x.mid next
      passed = passes_both s.keeps s.count x.mid now next x.passed (subst (λ n. Moves s.keeps n now next) number y.moves)

      exactly : (more : Bytes) → MayCome next more → salvage (joined (wide.stretches ++ stretch_of s.keeps (take s.count x.mid.bytes) ∷ []) ++ (next.bytes ++ more)) ≡ (wide.stretches ++ stretch_of s.keeps (take s.count x.mid.bytes) ∷ []) ++ salvage_from s.left (next.bytes ++ more)
      exactly more may =
          let on : (z : x.mid.ended ≡ true) → more ≡ [] = λ z. may (passed.ended ∙ z) in
          let step_is : step looks (x.mid.bytes ++ more) ≡ s = x.settles more on in
          let long : 0 < length (x.mid.bytes ++ more) = omega (arith, filled, ap length x.grows.bytes, length-append window.bytes x.grows.more, length-append x.mid.bytes more) in
          ap salvage (sym (append_assoc (joined (wide.stretches ++ stretch_of s.keeps (take s.count x.mid.bytes) ∷ [])) next.bytes more) ∙ ap (λ b. b ++ more) (after next.bytes passed.bytes) ∙ append_assoc (joined wide.stretches) x.mid.bytes more)
          ∙ wide.exact more on
          ∙ ap (λ l. wide.stretches ++ l) (salvage_more looks (x.mid.bytes ++ more) long ∙ ap (λ (z : Step). then_stretch z (x.mid.bytes ++ more) salvage_from) step_is
          ∙ ap (λ b. stretch_of s.keeps b ∷ salvage_from s.left (drop s.count (x.mid.bytes ++ more))) (take-append-le s.count x.mid.bytes more within)
          ∙ ap (λ b. stretch_of s.keeps (take s.count x.mid.bytes) ∷ salvage_from s.left b) (drop-append-le s.count x.mid.bytes more within ∙ ap (λ b. b ++ more) (sym passed.bytes)))
          ∙ sym (append_assoc wide.stretches (stretch_of s.keeps (take s.count x.mid.bytes) ∷ []) (salvage_from s.left (next.bytes ++ more)))

    -- memory ran out before it was told
    pub stretch_unwritten : IsUnwritten s.keeps (to - place) place to now (sink r' o' o'' q' q'') (sink v' e' e'' t' t'') unwritten.NoMemory → Halted (source i i'' p p'') (sink r o o'' q q'') (sink v e e'' t t'') halts.NoMemory
    stretch_unwritten y = without_memory i i'' p p'' (sink r o o'' q q'') (sink v e e'' t t'') x.mid place looks some still i'' p'' (record { bytes = []; taken = Consumes-nil i'' }) where
      still : IsSaving (source i i'' p p'') (sink r o o'' q q'') (sink v e e'' t t'') x.mid place looks some
      still = record {
        stretches = wide.stretches;
        taken = wide.taken;
        ended = wide.ended;
        steady = wide.steady;
        exact = wide.exact;
        walked = wide.walked;
        written = record { grown = subst (Appends o o'') (append-nil (saved wide.stretches)) (Appends-trans o o' o'' (saved wide.stretches) [] wide.written.grown y.0.grown); quiet = y.0.quiet ∙ wide.written.quiet };
        told = record { grown = subst (Appends e e'') (append-nil (lines 0 wide.stretches)) (Appends-trans e e' e'' (lines 0 wide.stretches) [] wide.told.grown y.1.grown); quiet = y.1.quiet ∙ wide.told.quiet };
        placed = wide.placed;
        left = wide.left;
      }

    -- a call on a sink failed
    pub saved_none : IsUnwritten s.keeps (to - place) place to now (sink r' o' o'' q' q'') (sink v' e' e'' t' t'') unwritten.SinkFault → CutOff (source i i'' p p'') (sink r o o'' q q'') (sink v e e'' t t'')
    saved_none y = record {
      stretches = wide.stretches ++ stretch_of s.keeps (take s.count x.mid.bytes) ∷ [];
      rest = drop s.count x.mid.bytes;
      line = [];
      taken = subst (Consumes i i'') (sym (after (drop s.count x.mid.bytes) refl)) wide.taken;
      walked = walked_more;
      cause = causes y;
      out_grew = outs y;
      err_grew = subst (AppendsPrefix e e'') (sym (append-nil (lines 0 (wide.stretches ++ stretch_of s.keeps (take s.count x.mid.bytes) ∷ [])))) (errs y);
      in_order = orders y;
    } where
      number : to - place ≡ s.count
      number = omega (arith, there)

      at_last : (before mid after : ℕ) → mid ≡ before → RoseOrLast mid after → RoseOrLast before after
      at_last before mid after is h = subst (λ n. RoseOrLast n after) is h

      no_line : s.keeps ≡ true → told_line s.keeps place (place + s.count) ≡ []
      no_line is = ap (λ k. told_line k place (place + s.count)) is

      no_bytes : s.keeps ≡ false → kept_bytes s.keeps s.count now ≡ []
      no_bytes is = ap (λ k. kept_bytes k s.count now) is

      all_lines : Tells (sink v' e' e'' t' t'') [] → s.keeps ≡ true → Appends e e'' (lines 0 (wide.stretches ++ stretch_of s.keeps (take s.count x.mid.bytes) ∷ []))
      all_lines h is = subst (Appends e e'') lines_more (Appends-trans e e' e'' (lines 0 wide.stretches) (told_line s.keeps place (place + s.count)) wide.told.grown (subst (Appends e' e'') (sym (no_line is)) h.grown))

      all_bytes' : Tells (sink r' o' o'' q' q'') [] → s.keeps ≡ false → Appends o o'' (saved (wide.stretches ++ stretch_of s.keeps (take s.count x.mid.bytes) ∷ []))
      all_bytes' h is = subst (Appends o o'') saved_more (Appends-trans o o' o'' (saved wide.stretches) (kept_bytes s.keeps s.count now) wide.written.grown (subst (Appends o' o'') (sym (no_bytes is)) h.grown))

      causes : IsUnwritten s.keeps (to - place) place to now (sink r' o' o'' q' q'') (sink v' e' e'' t' t'') unwritten.SinkFault → RoseOrLast q q'' ⊎ RoseOrLast t t''
      causes (inl h) = inl (at_last q q' q'' wide.written.quiet h.0.cause)
      causes (inr h) = inr (at_last t t' t'' wide.told.quiet h.1.cause)

      outs : IsUnwritten s.keeps (to - place) place to now (sink r' o' o'' q' q'') (sink v' e' e'' t' t'') unwritten.SinkFault → AppendsPrefix o o'' (saved (wide.stretches ++ stretch_of s.keeps (take s.count x.mid.bytes) ∷ []))
      outs (inl h) = subst (AppendsPrefix o o'') saved_more (prefix_behind o o' o'' (saved wide.stretches) (kept_bytes s.keeps s.count now) wide.written.grown (subst (λ n. AppendsPrefix o' o'' (kept_bytes s.keeps n now)) number h.0.part))
      outs (inr h) = as_prefix o o'' (saved (wide.stretches ++ stretch_of s.keeps (take s.count x.mid.bytes) ∷ [])) (all_bytes' h.0 h.2)

      errs : IsUnwritten s.keeps (to - place) place to now (sink r' o' o'' q' q'') (sink v' e' e'' t' t'') unwritten.SinkFault → AppendsPrefix e e'' (lines 0 (wide.stretches ++ stretch_of s.keeps (take s.count x.mid.bytes) ∷ []))
      errs (inl h) = as_prefix e e'' (lines 0 (wide.stretches ++ stretch_of s.keeps (take s.count x.mid.bytes) ∷ [])) (all_lines h.1 h.2)
      errs (inr h) = subst (AppendsPrefix e e'') lines_more (prefix_behind e e' e'' (lines 0 wide.stretches) (told_line s.keeps place (place + s.count)) wide.told.grown (subst (λ n. AppendsPrefix e' e'' (told_line s.keeps place n)) there h.1.part))

      orders : IsUnwritten s.keeps (to - place) place to now (sink r' o' o'' q' q'') (sink v' e' e'' t' t'') unwritten.SinkFault
          → Appends o o'' (saved (wide.stretches ++ stretch_of s.keeps (take s.count x.mid.bytes) ∷ [])) ⊎ Appends e e'' (lines 0 (wide.stretches ++ stretch_of s.keeps (take s.count x.mid.bytes) ∷ []))
      orders (inl h) = inr (all_lines h.1 h.2)
      orders (inr h) = inl (all_bytes' h.0 h.2)
