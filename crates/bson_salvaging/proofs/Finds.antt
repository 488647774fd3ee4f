-- Documents that count, found in a window whatever comes.
use Rattle.std.proofs.Common.{◌≡◌, ℕ, ◌+◌, ◌<◌, ◌≤◌, Bool, true, false, cond, [], ◌∷◌, ◌++◌, length, drop, take, Option, Some, None, Result, Ok, Err, refl, ap, sym, ◌∙◌, inl, inr, arith, append-nil}
use Rattle.std.specs.Prelude.{◌⊎◌, nat_lt, if◌then◌else◌, IfOk, OnOk}
use Rattle.std.specs.Option.{is_some}
use Rattle.std.proofs.lemmas.Bool.{le-ltb, lt-ltb}
use Rattle.std.proofs.lemmas.List.{length-append, length-drop, drop-append-le, take-append-le}
use Rattle.bson_kinds.specs.Text.{Bytes}
use Rattle.bson_kinds.specs.declared.element_type.ElementType.TheVariants.{EmbeddedDocument}
use Rattle.bson_faults.specs.declared.raw.Error.{Error}
use Rattle.bson_base.specs.Sound.{max_levels}
use Rattle.bson_rawdoc.specs.Cut.{length_within, piece_length}
use Rattle.bson_rawdoc.specs.Extent.{extent}
use Rattle.bson_source.specs.declared.taking.TakeFault.{TakeFault}
use Rattle.bson_streaming.proofs.Nexts.{extent_front, four_there}
use Rattle.bson_salvaging.specs.Looks.{fine, fault, look_deep}
use Rattle.bson_salvaging.specs.Salvage.{most_bytes, seen_by, seen_of, seen, is_seen, goes_on, counts_of, counts}
use Rattle.bson_salvaging.specs.Window.{Held, MayCome, Settles, Grows}
use Rattle.bson_salvaging.specs.declared.finding.Seen.{Seen}
use Rattle.bson_salvaging.specs.declared.looking.Look.{Look}
use Rattle.bson_salvaging.proofs.Windows.{settles_grown}

-- ---- the length of what is in front

without : (rest more : Bytes) → more ≡ [] → rest ++ more ≡ rest
without rest more none = ap (λ m. rest ++ m) none ∙ append-nil rest

too_few : (t : Bool) (n : ℕ) → t ≡ true → cond t None (Some n) ≡ None
too_few true n e = refl
too_few false n e = absurd cc

enough : (t : Bool) (n : ℕ) → t ≡ false → cond t None (Some n) ≡ Some n
enough true n e = absurd cc
enough false n e = refl

pub announced_on : (rest more : Bytes) (n : ℕ) → extent EmbeddedDocument rest ≡ Ok n → extent EmbeddedDocument (rest ++ more) ≡ Ok n
announced_on rest more n e = extent_front rest more (four_there rest n e) ∙ e

pub none_announced : (rest more : Bytes) (e : Error) → (4 ≤ length rest) ⊎ (more ≡ []) → extent EmbeddedDocument rest ≡ Err e → piece_length (rest ++ more) ≡ None
none_announced rest more e (inl four) is = ap (length_within (length (rest ++ more))) (extent_front rest more four ∙ is)
none_announced rest more e (inr none) is = ap piece_length (without rest more none) ∙ ap (length_within (length rest)) is

pub cut_short : (rest more : Bytes) (n : ℕ) → more ≡ [] → extent EmbeddedDocument rest ≡ Ok n → length rest < n → piece_length (rest ++ more) ≡ None
cut_short rest more n none is few = ap piece_length (without rest more none) ∙ ap (length_within (length rest)) is ∙ too_few (nat_lt (length rest) n) n (lt-ltb _ _ few)

pub is_there : (rest more : Bytes) (n : ℕ) → extent EmbeddedDocument rest ≡ Ok n → n ≤ length rest → piece_length (rest ++ more) ≡ Some n
is_there rest more n is all =
    ap (length_within (length (rest ++ more))) (announced_on rest more n is) ∙ enough (nat_lt (length (rest ++ more)) n) n (le-ltb _ _ (omega (arith, all, length-append rest more)))

-- what the call found in bytes that are the same
pub told : (bytes same : Bytes) (r : Result ℕ Error) → same ≡ bytes → r ≡ extent EmbeddedDocument same → extent EmbeddedDocument bytes ≡ r
told bytes same r is e = ap (extent EmbeddedDocument) (sym is) ∙ sym e

pub announced_more : (a b : Held) (l m : Option Bytes) (n : ℕ) → Grows a b l m → extent EmbeddedDocument a.bytes ≡ Ok n → extent EmbeddedDocument b.bytes ≡ Ok n
announced_more a b l m n g is = ap (extent EmbeddedDocument) g.bytes ∙ announced_on a.bytes g.more n is

-- ---- in a window

pub rest_at : (w : Held) (at : ℕ) (more : Bytes) → at ≤ length w.bytes → drop at (w.bytes ++ more) ≡ drop at w.bytes ++ more
rest_at w at more here = drop-append-le at w.bytes more here

pub rest_length : (w : Held) (at : ℕ) → at ≤ length w.bytes → length (drop at w.bytes) + at ≡ length w.bytes
rest_length w at here = omega (arith, here, length-drop at w.bytes)

four_or_none : (w : Held) (at : ℕ) (more : Bytes) → at ≤ length w.bytes → (at + 4 ≤ length w.bytes) ⊎ (w.ended ≡ true) → MayCome w more → (4 ≤ length (drop at w.bytes)) ⊎ (more ≡ [])
four_or_none w at more here (inl all) may = inl (omega (arith, all, rest_length w at here))
four_or_none w at more here (inr over) may = inr (may over)

pub announced_grown : (a b : Held) (l m : Option Bytes) (at n : ℕ) → Grows a b l m → at ≤ length a.bytes → extent EmbeddedDocument (drop at a.bytes) ≡ Ok n → extent EmbeddedDocument (drop at b.bytes) ≡ Ok n
announced_grown a b l m at n g here is =
    ap (λ x. extent EmbeddedDocument (drop at x)) g.bytes ∙ ap (extent EmbeddedDocument) (drop-append-le at a.bytes g.more here) ∙ announced_on (drop at a.bytes) g.more n is

-- ---- a document that counts

abbrev none_seen : ℕ → Seen
none_seen looks = record { length = None; left = looks }

seen_none : (looks : ℕ) (b : Bytes) → piece_length b ≡ None → seen looks b ≡ none_seen looks
seen_none looks b e = ap (seen_of looks b) e

module _ (w : Held) (at looks : ℕ) (here : at ≤ length w.bytes) where
  at_rest : (more : Bytes) (x : Seen) → seen looks (drop at w.bytes ++ more) ≡ x → seen looks (drop at (w.bytes ++ more)) ≡ x
  at_rest more x e = ap (seen looks) (rest_at w at more here) ∙ e

  pub seen_unannounced : (e : Error) → (at + 4 ≤ length w.bytes) ⊎ (w.ended ≡ true) → extent EmbeddedDocument (drop at w.bytes) ≡ Err e → Settles (λ b. seen looks (drop at b)) w (none_seen looks)
  seen_unannounced e all is =
      λ more may. at_rest more (none_seen looks) (seen_none looks (drop at w.bytes ++ more) (none_announced (drop at w.bytes) more e (four_or_none w at more here all may) is))

  pub seen_large : (n : ℕ) → extent EmbeddedDocument (drop at w.bytes) ≡ Ok n → most_bytes < n → Settles (λ b. seen looks (drop at b)) w (none_seen looks)
  seen_large n is big = λ more may. at_rest more (none_seen looks) (ap (λ r. seen_of looks (drop at w.bytes ++ more) (length_within (length (drop at w.bytes ++ more)) r)) (announced_on (drop at w.bytes) more n is)
      ∙ by_length (nat_lt (length (drop at w.bytes ++ more)) n) (drop at w.bytes ++ more)) where
        by_length : (t : Bool) (b : Bytes) → seen_of looks b (cond t None (Some n)) ≡ none_seen looks
        by_length true b = refl
        by_length false b = by_most (nat_lt most_bytes n) (lt-ltb _ _ big) where
          by_most : (u : Bool) → u ≡ true → cond u (none_seen looks) (seen_by n (look_deep max_levels looks (take n b))) ≡ none_seen looks
          by_most true e = refl
          by_most false e = absurd cc

  pub seen_short : (n : ℕ) → w.ended ≡ true → extent EmbeddedDocument (drop at w.bytes) ≡ Ok n → length (drop at w.bytes) < n → Settles (λ b. seen looks (drop at b)) w (none_seen looks)
  seen_short n over is few = λ more may. at_rest more (none_seen looks) (seen_none looks (drop at w.bytes ++ more) (cut_short (drop at w.bytes) more n (may over) is few))

  pub seen_there : (n : ℕ) (l : Look) → extent EmbeddedDocument (drop at w.bytes) ≡ Ok n → n ≤ length (drop at w.bytes) → n ≤ most_bytes → l ≡ look_deep max_levels looks (take n (drop at w.bytes))
      → Settles (λ b. seen looks (drop at b)) w (seen_by n l)
  seen_there n l is all small look = λ more may. at_rest more (seen_by n l) (ap (seen_of looks (drop at w.bytes ++ more)) (is_there (drop at w.bytes) more n is all)
      ∙ by_most (nat_lt most_bytes n) (drop at w.bytes ++ more) (le-ltb _ _ small)
      ∙ ap (λ b. seen_by n (look_deep max_levels looks b)) (take-append-le n (drop at w.bytes) more all) ∙ ap (seen_by n) (sym look)) where
        by_most : (u : Bool) (b : Bytes) → u ≡ false → cond u (none_seen looks) (seen_by n (look_deep max_levels looks (take n b))) ≡ seen_by n (look_deep max_levels looks (take n b))
        by_most true b e = absurd cc
        by_most false b e = refl

  by_fine : (n : ℕ) (l : Look) (t : Bool) → l.fine ≡ t → seen_by n l ≡ record { length = if t then Some n else None; left = l.left }
  by_fine n l t e = ap (λ u. record { length = if u then Some n else None; left = l.left }) e

  pub seen_good : (n : ℕ) (l : Look) → extent EmbeddedDocument (drop at w.bytes) ≡ Ok n → n ≤ length (drop at w.bytes) → n ≤ most_bytes → l ≡ look_deep max_levels looks (take n (drop at w.bytes)) → l.fine ≡ true
      → Settles (λ b. seen looks (drop at b)) w (record { length = Some n; left = l.left })
  seen_good n l is all small look good = λ more may. seen_there n l is all small look more may ∙ by_fine n l true good

  pub seen_bad : (n : ℕ) (l : Look) → extent EmbeddedDocument (drop at w.bytes) ≡ Ok n → n ≤ length (drop at w.bytes) → n ≤ most_bytes → l ≡ look_deep max_levels looks (take n (drop at w.bytes)) → l.fine ≡ false
      → Settles (λ b. seen looks (drop at b)) w (record { length = None; left = l.left })
  seen_bad n l is all small look bad = λ more may. seen_there n l is all small look more may ∙ by_fine n l false bad

pub look_same : (looks n : ℕ) (same b : Bytes) (l : Look) → same ≡ b → l ≡ look_deep max_levels looks (take n same) → l ≡ look_deep max_levels looks (take n b)
look_same looks n same b l is look = look ∙ ap (λ x. look_deep max_levels looks (take n x)) is

-- ---- the file goes on

on_some : (looks : ℕ) (b : Bytes) → 0 < length b → goes_on looks b ≡ is_seen (seen looks b)
on_some looks [] h = absurd (omega (arith, h))
on_some looks (x ∷ xs) h = refl

none_left : (b : Bytes) → length b ≤ 0 → b ≡ []
none_left [] h = refl
none_left (x ∷ xs) h = absurd (omega (arith, h))

pub goes_over : (w : Held) (at looks : ℕ) → at ≤ length w.bytes → length w.bytes ≤ at → (at + 1 ≤ length w.bytes) ⊎ (w.ended ≡ true) → Settles (λ b. goes_on looks (drop at b)) w (fine looks)
goes_over w at looks here all (inl more) = absurd (omega (arith, all, more))
goes_over w at looks here all (inr over) =
    λ more may. ap (goes_on looks) (rest_at w at more here ∙ ap (λ m. drop at w.bytes ++ m) (may over) ∙ append-nil (drop at w.bytes) ∙ none_left (drop at w.bytes) (omega (arith, all, rest_length w at here)))

pub goes_to : (w : Held) (at looks : ℕ) (s : Seen) → at < length w.bytes → Settles (λ b. seen looks (drop at b)) w s → Settles (λ b. goes_on looks (drop at b)) w (is_seen s)
goes_to w at looks s here h =
    λ more may. on_some looks (drop at (w.bytes ++ more)) (omega (arith, here, length-drop at (w.bytes ++ more), length-append w.bytes more)) ∙ ap is_seen (h more may)

pub goes_seen : (w : Held) (at looks : ℕ) (s : Seen) (b : Bool) → at < length w.bytes → Settles (λ b. seen looks (drop at b)) w s → b ≡ is_some s.length → Settles (λ b. goes_on looks (drop at b)) w (record { fine = b; left = s.left })
goes_seen w at looks s b here h is = λ more may. goes_to w at looks s here h more may ∙ ap (λ c. record { fine = c; left = s.left }) (sym is)

-- ---- a place counts

pub counts_not : (w : Held) (looks : ℕ) (left : ℕ) → Settles (λ b. seen looks (drop 0 b)) w (record { length = None; left = left }) → Settles (counts looks) w (fault left)
counts_not w looks left h = λ more may. ap (λ (s : Seen). counts_of (w.bytes ++ more) s.left s.length) (h more may)

pub counts_on : (a b : Held) (l m : Option Bytes) (looks left n : ℕ) (x : Look) → Settles (λ b. seen looks (drop 0 b)) a (record { length = Some n; left = left }) → Grows a b l m → Settles (λ b. goes_on left (drop n b)) b x → Settles (counts looks) b x
counts_on a b l m looks left n x h g on =
    λ more may. ap (λ (s : Seen). counts_of (b.bytes ++ more) s.left s.length) (settles_grown (λ y. seen looks (drop 0 y)) a b l m (record { length = Some n; left = left }) h g more may) ∙ on more may

module _ (a b : Held) (l m : Option Bytes) (looks n : ℕ) (s : Seen) (is : s.length ≡ Some n) (h : Settles (λ x. seen looks (drop 0 x)) a s) where
  seen_so : Settles (λ x. seen looks (drop 0 x)) a (record { length = Some n; left = s.left })
  seen_so = λ more may. h more may ∙ ap (λ k. record { length = k; left = s.left }) is

  -- by what the call answered
  pub counts_if : (r : Result Look TakeFault) → OnOk r (Grows a b l m) → IfOk r (Settles (λ x. goes_on s.left (drop n x)) b) → IfOk r (Settles (counts looks) b)
  counts_if (Ok x) g on = counts_on a b l m looks s.left n x seen_so g on
  counts_if (Err e) g on = tt

-- ---- the document in front

pub piece_unannounced : (w : Held) (e : Error) → (4 ≤ length w.bytes) ⊎ (w.ended ≡ true) → extent EmbeddedDocument w.bytes ≡ Err e → Settles piece_length w None
piece_unannounced w e all is = λ more may. none_announced w.bytes more e (either all may) is where
  either : {more : Bytes} → (4 ≤ length w.bytes) ⊎ (w.ended ≡ true) → MayCome w more → (4 ≤ length w.bytes) ⊎ (more ≡ [])
  either (inl four) may = inl four
  either (inr over) may = inr (may over)

pub piece_short : (w : Held) (n : ℕ) → w.ended ≡ true → extent EmbeddedDocument w.bytes ≡ Ok n → length w.bytes < n → Settles piece_length w None
piece_short w n over is few = λ more may. cut_short w.bytes more n (may over) is few

pub piece_there : (w : Held) (n : ℕ) → extent EmbeddedDocument w.bytes ≡ Ok n → n ≤ length w.bytes → Settles piece_length w (Some n)
piece_there w n is all = λ more may. is_there w.bytes more n is all
