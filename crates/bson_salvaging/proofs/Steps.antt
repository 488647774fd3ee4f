-- The next stretch, whatever comes.
use Rattle.std.proofs.Common.{◌≡◌, ℕ, suc, ◌+◌, ◌-◌, ◌<◌, ◌≤◌, true, false, [], ◌∷◌, ◌++◌, length, drop, take, Option, Some, None, Result, Ok, Err, refl, ap, sym, subst, ◌∙◌, arith, append-nil}
use Rattle.std.specs.Prelude.{if◌then◌else◌, IfOk}
use Rattle.std.proofs.lemmas.Bool.{le-ltb, lt-ltb}
use Rattle.std.proofs.lemmas.List.{append_assoc, length-append, length-drop, take-append-le}
use lib.Seq.{drop-drop}
use Rattle.bson_kinds.specs.Text.{Bytes}
use Rattle.bson_rawdoc.specs.Cut.{piece_length}
use Rattle.bson_salvaging.specs.Looks.{is_walked, walked}
use Rattle.bson_salvaging.specs.Salvage.{gained, search, left_out_of, damage, faulty, leave_all, faulty_after, step_of, step, goes_on}
use Rattle.bson_salvaging.specs.Searches.{Passes, Searches, Leaves, Passed, IsStep}
use Rattle.bson_salvaging.specs.Window.{Held, MayCome, Settles, Grows}
use Rattle.bson_salvaging.specs.declared.finding.Found.{Found}
use Rattle.bson_salvaging.specs.declared.finding.Stop.{Stop}
use Rattle.bson_salvaging.specs.declared.looking.Look.{Look}
use Rattle.bson_salvaging.specs.declared.stepping.Step.{Step}
use Rattle.bson_salvaging.proofs.Windows.{grows_none, grows_then, all_bytes, settles_grown, passes_none}
use Rattle.bson_salvaging.proofs.Searching.{further, further_grows, further_passes}

-- ---- bytes that are left out

damage_some : (looks : ℕ) (b more : Bytes) → 0 < length b → damage looks (b ++ more) ≡ left_out_of (search (gained 1 looks) (drop 1 b ++ more))
damage_some looks [] more h = absurd (omega (arith, h))
damage_some looks (x ∷ xs) more h = refl

-- one byte was passed, and then those before a place that counts
pub damaged : (looks : ℕ) (old one new : Held) (l m : Option Bytes) (f : Found) (s : Step) → 0 < length old.bytes → one.bytes ≡ drop 1 old.bytes → one.ended ≡ old.ended → Searches (gained 1 looks) one new l m f
    → s.keeps ≡ false → s.count ≡ f.count + 1 → s.left ≡ f.left → Leaves (damage looks) old new l m s
damaged looks old one new l m f s some bytes ended x keeps count left =
    let same : s.count ≡ 1 + f.count = omega (arith, count) in
    let again : suc f.count ≡ s.count = omega (arith, count) in
    let first : Passes 1 old one = record { within = omega (arith, some); bytes = bytes; ended = ended } in
    let wide = further old one x.mid l m 1 first x.grows in
    let grown = further_grows old one x.mid l m 1 first x.grows in
    let passed = further_passes old one x.mid l m 1 first x.grows in
    record {
      mid = wide;
      grows = grown;
      passes = record {
        within = omega (arith, count, x.passes.within, ap length passed.bytes, length-drop 1 wide.bytes, length-append old.bytes x.grows.more, some);
        bytes = x.passes.bytes ∙ ap (drop f.count) passed.bytes ∙ drop-drop f.count 1 wide.bytes ∙ ap (λ n. drop n wide.bytes) (sym same);
        ended = x.passes.ended;
      };
      settles = λ more may. ap (damage looks) (append_assoc old.bytes x.grows.more more) ∙ damage_some looks old.bytes (x.grows.more ++ more) some
          ∙ ap (λ b. left_out_of (search (gained 1 looks) b)) (ap (λ y. y ++ (x.grows.more ++ more)) (sym bytes) ∙ sym (all_bytes one x.mid l m x.grows more)) ∙ ap left_out_of (x.settles more may) ∙ (λ i. record { keeps = sym keeps i; count = again i; left = sym left i });
      leaves = keeps;
    }

-- so far all bytes were passed
pub record IsLeaving (old now : Held) (left left' : Option Bytes) (count : ℕ) : Type 0 where
  pub mid : Held
  pub grows : Grows old mid left left'
  pub passes : Passes count mid now

pub leave_begun : (old : Held) (left : Option Bytes) → IsLeaving old old left left 0
leave_begun old left = record { mid = old; grows = grows_none old left; passes = passes_none old }

pub leave_passed : (old now next : Held) (left l : Option Bytes) (count n total : ℕ) → IsLeaving old now left l count → n ≡ length now.bytes → next.bytes ≡ drop n now.bytes → next.ended ≡ now.ended → total ≡ count + n → IsLeaving old next left l total
leave_passed old now next left l count n total s all bytes ended is = subst (IsLeaving old next left l) (sym is) (record {
  mid = s.mid;
  grows = s.grows;
  passes = record {
    within = omega (arith, s.passes.within, all, ap length s.passes.bytes, length-drop count s.mid.bytes);
    bytes = bytes ∙ ap (drop n) s.passes.bytes ∙ drop-drop n count s.mid.bytes;
    ended = ended ∙ s.passes.ended;
  };
})

pub leave_grown : (old now next : Held) (left l m : Option Bytes) (count : ℕ) → IsLeaving old now left l count → Grows now next l m → IsLeaving old next left m count
leave_grown old now next left l m count s g = record {
  mid = further s.mid now next l m count s.passes g;
  grows = grows_then old s.mid (further s.mid now next l m count s.passes g) left l m s.grows (further_grows s.mid now next l m count s.passes g);
  passes = further_passes s.mid now next l m count s.passes g;
}

pub left_all : (old now : Held) (left l : Option Bytes) (count : ℕ) → IsLeaving old now left l count → length now.bytes ≡ 0 → now.ended ≡ true → Leaves leave_all old now left l (record { keeps = false; count = count; left = 0 })
left_all old now left l count s none over =
    let size : length s.mid.bytes ≡ count = omega (arith, none, s.passes.within, ap length s.passes.bytes, length-drop count s.mid.bytes) in
    record {
      mid = s.mid;
      grows = s.grows;
      passes = s.passes;
      settles = λ more may. ap leave_all (ap (λ m. s.mid.bytes ++ m) (may (sym s.passes.ended ∙ over)) ∙ append-nil s.mid.bytes) ∙ (λ i. record { keeps = false; count = size i; left = 0 });
      leaves = refl;
    }

-- ---- the stretch by what is in front

module _ (looks : ℕ) (old a : Held) (l m : Option Bytes) (g : Grows old a l m) where
  -- no document is in front, and bytes were left out
  pub step_damaged : (b : Held) (n : Option Bytes) (s : Step) → Settles piece_length a None → Leaves (damage looks) a b m n s → IsStep looks old b l n s
  step_damaged b n s none x = record {
    mid = x.mid;
    grows = grows_then old a x.mid l m n g x.grows;
    passed = subst (λ k. Passed k s.count x.mid b) (sym x.leaves) x.passes;
    settles = λ more may. ap (step_of looks (x.mid.bytes ++ more)) (settles_grown piece_length a x.mid m n None none x.grows more may) ∙ x.settles more may;
  }

  module _ (n : ℕ) (piece : Settles piece_length a (Some n)) (there : n ≤ length a.bytes) where
    front : (b : Held) (k : Option Bytes) (h : Grows a b m k) (more : Bytes) → take n (b.bytes ++ more) ≡ take n a.bytes
    front b k h more = ap (take n) (all_bytes a b m k h more) ∙ take-append-le n a.bytes (h.more ++ more) there

    -- the document in front is kept
    pub step_kept : (left : ℕ) → is_walked (take n a.bytes) ≡ true → left ≡ gained n looks → IsStep looks old a l m (record { keeps = true; count = n; left = left })
    step_kept left good is = record {
      mid = a;
      grows = g;
      passed = (refl, there);
      settles = λ more may. ap (step_of looks (a.bytes ++ more)) (piece more may)
          ∙ ap (λ k. if k then record { keeps = true; count = n; left = gained n looks } else faulty_after looks (walked (take n (a.bytes ++ more))) (a.bytes ++ more) n) (ap is_walked (take-append-le n a.bytes more there) ∙ good)
          ∙ (λ i. record { keeps = true; count = n; left = sym is i });
    }

    module _ (used : ℕ) (bad : is_walked (take n a.bytes) ≡ false) (took : used ≡ walked (take n a.bytes)) where
      after : (b : Held) (k : Option Bytes) (h : Grows a b m k) (more : Bytes) → MayCome b more → step looks (b.bytes ++ more) ≡ faulty_after looks used (b.bytes ++ more) n
      after b k h more may =
          ap (step_of looks (b.bytes ++ more)) (settles_grown piece_length a b m k (Some n) piece h more may)
          ∙ ap (λ t. if t then record { keeps = true; count = n; left = gained n looks } else faulty_after looks (walked (take n (b.bytes ++ more))) (b.bytes ++ more) n) (ap is_walked (front b k h more) ∙ bad)
          ∙ ap (λ u. faulty_after looks u (b.bytes ++ more) n) (ap walked (front b k h more) ∙ sym took)

      -- it takes more looks than are left
      pub step_left : (b : Held) (k : Option Bytes) (s : Step) → looks < used → Leaves leave_all a b m k s → IsStep looks old b l k s
      step_left b k s few x = record {
        mid = x.mid;
        grows = grows_then old a x.mid l m k g x.grows;
        passed = subst (λ t. Passed t s.count x.mid b) (sym x.leaves) x.passes;
        settles = λ more may. after x.mid k x.grows more may ∙ ap (λ t. if t then leave_all (x.mid.bytes ++ more) else faulty (x.mid.bytes ++ more) n (goes_on (looks - used) (drop n (x.mid.bytes ++ more)))) (lt-ltb _ _ few) ∙ x.settles more may;
      }

      module _ (b : Held) (k : Option Bytes) (h : Grows a b m k) (look : Look) (many : used ≤ looks) (on : Settles (λ x. goes_on (looks - used) (drop n x)) b look) where
        onward : (c : Held) (j : Option Bytes) (d : Grows b c k j) (more : Bytes) → MayCome c more → step looks (c.bytes ++ more) ≡ faulty (c.bytes ++ more) n look
        onward c j d more may =
            after c j (grows_then a b c m k j h d) more may
            ∙ ap (λ t. if t then leave_all (c.bytes ++ more) else faulty (c.bytes ++ more) n (goes_on (looks - used) (drop n (c.bytes ++ more)))) (le-ltb _ _ many)
            ∙ ap (faulty (c.bytes ++ more) n) (settles_grown (λ x. goes_on (looks - used) (drop n x)) b c k j look on d more may)

        -- the file does not go on behind it
        pub step_faulty : (c : Held) (j : Option Bytes) (s : Step) → look.fine ≡ false → Leaves (damage look.left) b c k j s → IsStep looks old c l j s
        step_faulty c j s off x = record {
          mid = x.mid;
          grows = grows_then old b x.mid l k j (grows_then old a b l m k g h) x.grows;
          passed = subst (λ t. Passed t s.count x.mid c) (sym x.leaves) x.passes;
          settles = λ more may. onward x.mid j x.grows more may ∙ ap (λ t. if t then record { keeps = false; count = n; left = gained n look.left } else damage look.left (x.mid.bytes ++ more)) off ∙ x.settles more may;
        }

        -- it does, and the document alone is left out
        pub step_alone : (c : Held) (left : ℕ) → look.fine ≡ true → left ≡ gained n look.left → n ≤ length b.bytes → c.bytes ≡ drop n b.bytes → c.ended ≡ b.ended → IsStep looks old c l k (record { keeps = false; count = n; left = left })
        step_alone c left good is within bytes ended = record {
          mid = b;
          grows = grows_then old a b l m k g h;
          passed = record { within = within; bytes = bytes; ended = ended };
          settles = λ more may. onward b k (grows_none b k) more may ∙ ap (λ t. if t then record { keeps = false; count = n; left = gained n look.left } else damage look.left (b.bytes ++ more)) good ∙ (λ i. record { keeps = false; count = n; left = sym is i });
        }

-- ---- by what a call answered

module _ (looks : ℕ) (old a : Held) (l m : Option Bytes) (g : Grows old a l m) where
  pub damaged_if : (b : Held) (k : Option Bytes) (r : Result Step Stop) → Settles piece_length a None → IfOk r (Leaves (damage looks) a b m k) → IfOk r (IsStep looks old b l k)
  damaged_if b k (Ok s) none x = step_damaged looks old a l m g b k s none x
  damaged_if b k (Err e) none x = tt

  module _ (n : ℕ) (piece : Settles piece_length a (Some n)) (there : n ≤ length a.bytes) (used : ℕ) (bad : is_walked (take n a.bytes) ≡ false) (took : used ≡ walked (take n a.bytes)) where
    pub left_if : (b : Held) (k : Option Bytes) (r : Result Step Stop) → looks < used → IfOk r (Leaves leave_all a b m k) → IfOk r (IsStep looks old b l k)
    left_if b k (Ok s) few x = step_left looks old a l m g n piece there used bad took b k s few x
    left_if b k (Err e) few x = tt

    pub faulty_if : (b : Held) (k : Option Bytes) (h : Grows a b m k) (look : Look) → used ≤ looks → Settles (λ x. goes_on (looks - used) (drop n x)) b look → (c : Held) (j : Option Bytes) (r : Result Step Stop) → look.fine ≡ false → IfOk r (Leaves (damage look.left) b c k j)
        → IfOk r (IsStep looks old c l j)
    faulty_if b k h look many on c j (Ok s) off x = step_faulty looks old a l m g n piece there used bad took b k h look many on c j s off x
    faulty_if b k h look many on c j (Err e) off x = tt
