-- The search for a place that counts, byte by byte.
use Rattle.std.proofs.Common.{◌≡◌, ℕ, suc, ◌+◌, ◌<◌, true, false, [], ◌∷◌, ◌++◌, length, drop, Option, refl, ap, sym, subst, ◌∙◌, inl, inr, arith, append-nil}
use Rattle.std.specs.Prelude.{◌⊎◌, if◌then◌else◌}
use Rattle.std.specs.Io.KnownBytes.{IsAtEnd}
use Rattle.std.proofs.lemmas.List.{append_assoc, length-append, length-drop, drop-append-le}
use lib.Seq.{drop-drop}
use Rattle.bson_kinds.specs.Text.{Bytes}
use Rattle.bson_salvaging.specs.Salvage.{counts, gained, here_or, search}
use Rattle.bson_salvaging.specs.Searches.{Passes, Searches}
use Rattle.bson_salvaging.specs.Window.{Held, MayCome, Settles, Grows}
use Rattle.bson_salvaging.specs.declared.finding.Found.{Found}
use Rattle.bson_salvaging.specs.declared.looking.Look.{Look}
use Rattle.bson_salvaging.proofs.Windows.{grows_none, grows_then, may_come, all_bytes, passes_none}

abbrev pub plus : ℕ → Found → Found
plus n f = record { count = n + f.count; left = f.left }

-- a window and what was passed of it, after more bytes came
module _ (mid now next : Held) (l m : Option Bytes) (n : ℕ) (p : Passes n mid now) (g : Grows now next l m) where
  abbrev pub further : Held
  further = record { bytes = mid.bytes ++ g.more; ended = next.ended }

  pub further_grows : Grows mid further l m
  further_grows = record { more = g.more; bytes = refl; taken = g.taken; over = λ e. g.over (p.ended ∙ e); ends = λ e. by_end (g.ends e) } where
    by_end : (now.ended ≡ true) ⊎ IsAtEnd m → (mid.ended ≡ true) ⊎ IsAtEnd m
    by_end (inl e) = inl (sym p.ended ∙ e)
    by_end (inr e) = inr e

  pub further_passes : Passes n further next
  further_passes = record {
    within = omega (arith, p.within, length-append mid.bytes g.more);
    bytes = g.bytes ∙ ap (λ x. x ++ g.more) p.bytes ∙ sym (drop-append-le n mid.bytes g.more p.within);
    ended = refl;
  }

-- one byte more was passed
pub passes_one : (mid now next : Held) (n : ℕ) → Passes n mid now → 0 < length now.bytes → next.bytes ≡ drop 1 now.bytes → next.ended ≡ now.ended → Passes (n + 1) mid next
passes_one mid now next n p some bytes ended = record {
  within = omega (arith, p.within, some, ap length p.bytes, length-drop n mid.bytes);
  bytes = bytes ∙ ap (drop 1) p.bytes ∙ drop-drop 1 n mid.bytes;
  ended = ended ∙ p.ended;
}

-- So far: bytes came, and so many were passed, at none of which a place counts; the search goes on with these looks.
pub record IsSearching (looks : ℕ) (old now : Held) (left left' : Option Bytes) (count on : ℕ) : Type 0 where
  pub mid : Held
  pub grows : Grows old mid left left'
  pub passes : Passes count mid now
  pub same : (more : Bytes) → MayCome mid more → search looks (mid.bytes ++ more) ≡ plus count (search on (now.bytes ++ more))

same_found : (f : Found) → f ≡ plus 0 f
same_found f = let none : f.count ≡ 0 + f.count = omega arith in λ i. record { count = none i; left = f.left }

pub search_begun : (looks : ℕ) (old : Held) (left : Option Bytes) → IsSearching looks old old left left 0 looks
search_begun looks old left = record {
  mid = old;
  grows = grows_none old left;
  passes = passes_none old;
  same = λ more may. same_found (search looks (old.bytes ++ more));
}

module _ (looks : ℕ) (old now next : Held) (left l m : Option Bytes) (count on : ℕ) (s : IsSearching looks old now left l count on) (g : Grows now next l m) where
  -- more bytes came
  pub search_grown : IsSearching looks old next left m count on
  unfolding further_grows
  search_grown =
      let wide = further s.mid now next l m count s.passes g in
      let grown = further_grows s.mid now next l m count s.passes g in
      record {
        mid = wide;
        grows = grows_then old s.mid wide left l m s.grows grown;
        passes = further_passes s.mid now next l m count s.passes g;
        same = λ more may. ap (search looks) (append_assoc s.mid.bytes g.more more) ∙ s.same (g.more ++ more) (may_come s.mid wide l m grown more may) ∙ ap (λ b. plus count (search on b)) (sym (all_bytes now next l m g more));
      }

module _ (looks : ℕ) (old now : Held) (left l : Option Bytes) (count on : ℕ) (s : IsSearching looks old now left l count on) where
  may_now : (more : Bytes) → MayCome s.mid more → MayCome now more
  may_now more may = λ e. may (sym s.passes.ended ∙ e)

  nothing : (b : Bytes) → length b ≡ 0 → b ≡ []
  nothing [] h = refl
  nothing (x ∷ xs) h = absurd (omega (arith, h))

  -- no bytes are left
  pub search_over : length now.bytes ≡ 0 → now.ended ≡ true → Searches looks old now left l (record { count = count; left = on })
  search_over none over = record {
    mid = s.mid;
    grows = s.grows;
    passes = s.passes;
    settles = λ more may. s.same more may ∙ ap (λ b. plus count (search on b)) (ap (λ x. now.bytes ++ x) (may_now more may over) ∙ append-nil now.bytes ∙ nothing now.bytes none) ∙ (let zero_more : count + 0 ≡ count = omega arith in λ i. record { count = zero_more i; left = on });
  }

  search_some : (looks' : ℕ) (b : Bytes) (more : Bytes) → 0 < length b → search looks' (b ++ more) ≡ here_or (counts looks' (b ++ more)) (λ left. search (gained 1 left) (drop 1 b ++ more))
  search_some looks' [] more h = absurd (omega (arith, h))
  search_some looks' (x ∷ xs) more h = refl

  -- the place counts
  pub search_found : (x : Look) → 0 < length now.bytes → Settles (counts on) now x → x.fine ≡ true → Searches looks old now left l (record { count = count; left = x.left })
  search_found x some h good = record {
    mid = s.mid;
    grows = s.grows;
    passes = s.passes;
    settles = λ more may. s.same more may
        ∙ ap (plus count) (search_some on now.bytes more some ∙ ap (λ k. here_or k (λ left. search (gained 1 left) (drop 1 now.bytes ++ more))) (h more (may_now more may))
        ∙ ap (λ b. if b then record { count = 0; left = x.left } else (let f = search (gained 1 x.left) (drop 1 now.bytes ++ more) in record { count = suc f.count; left = f.left })) good)
        ∙ (let zero_more : count + 0 ≡ count = omega arith in λ i. record { count = zero_more i; left = x.left });
  }

  -- it does not
  pub search_passed : (x : Look) (next : Held) → 0 < length now.bytes → Settles (counts on) now x → x.fine ≡ false → next.bytes ≡ drop 1 now.bytes → next.ended ≡ now.ended → IsSearching looks old next left l (count + 1) (gained 1 x.left)
  search_passed x next some h bad bytes ended = record {
    mid = s.mid;
    grows = s.grows;
    passes = passes_one s.mid now next count s.passes some bytes ended;
    same = λ more may. s.same more may
        ∙ ap (plus count) (search_some on now.bytes more some ∙ ap (λ k. here_or k (λ left. search (gained 1 left) (drop 1 now.bytes ++ more))) (h more (may_now more may))
        ∙ ap (λ b. if b then record { count = 0; left = x.left } else (let f = search (gained 1 x.left) (drop 1 now.bytes ++ more) in record { count = suc f.count; left = f.left })) bad
        ∙ ap (λ b. let f = search (gained 1 x.left) (b ++ more) in record { count = suc f.count; left = f.left }) (sym bytes))
        ∙ one_more (search (gained 1 x.left) (next.bytes ++ more));
  } where
    one_more : (f : Found) → plus count (record { count = suc f.count; left = f.left }) ≡ plus (count + 1) f
    one_more f = let same : count + suc f.count ≡ count + 1 + f.count = omega arith in λ i. record { count = same i; left = f.left }

-- the same by the numbers that were computed
pub search_on : (looks : ℕ) (old now : Held) (left l : Option Bytes) (count on count' on' : ℕ) → IsSearching looks old now left l count on → count' ≡ count → on' ≡ on → IsSearching looks old now left l count' on'
search_on looks old now left l count on count' on' s c o = subst (IsSearching looks old now left l count') (sym o) (subst (λ n. IsSearching looks old now left l n on) (sym c) s)
