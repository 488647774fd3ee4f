-- Looks, element by element.
use Rattle.std.proofs.Common.{◌≡◌, ℕ, zero, suc, ◌+◌, ◌-◌, ◌<◌, ◌^◌, Bool, true, false, cond, length, Some, Result, Ok, Err, refl, ap, sym, subst, ◌∙◌, arith}
use Rattle.std.specs.Prelude.{not, nat_lt, pos}
use Rattle.std.specs.Ordering.{int_eq}
use Rattle.std.specs.Result.{is_err}
use Rattle.bson_kinds.specs.Text.{Bytes}
use Rattle.bson_kinds.specs.declared.element_type.ElementType.{ElementType}
use Rattle.bson_faults.specs.declared.raw.Error.{Error}
use Rattle.bson_faults.specs.declared.raw.Error.TheVariants.{TooShort, LengthDiffers, NoTerminator}
use Rattle.bson_rawdoc.specs.Envelope.{is_closed, envelope}
use Rattle.bson_rawdoc.specs.Next.{IsNext, count}
use Rattle.bson_rawdoc.specs.Numbers.{int32_in}
use Rattle.bson_rawdoc.specs.Walk.{Element, Walk, ended, faulty, then_walk, walk}
use Rattle.bson_salvaging.specs.Looks.{fine, fault, and_then, in_frame, within, look_along, look_deep, ends_well, framed, is_walked, framed_count, walked}
use Rattle.bson_salvaging.specs.declared.looking.Look.{Look}

frame_by : (p q r : Bool) (b d : Bytes) → cond p (Err TooShort) (cond (not q) (Err LengthDiffers) (cond (not r) (Err NoTerminator) (Ok b))) ≡ Ok d → b ≡ d
frame_by true q r b d e = absurd cc
frame_by false false r b d e = absurd cc
frame_by false true false b d e = absurd cc
frame_by false true true b d e = cc

-- bytes that are framed as a document are its bytes
pub frame : (b d : Bytes) → envelope b ≡ Ok d → b ≡ d
frame b d e = frame_by (nat_lt (length b) 5) (int_eq (int32_in b) (pos (length b))) (is_closed b) b d e

-- ---- into each element

pub no_not : (b : Bool) → not b ≡ false → b ≡ true
no_not true e = refl
no_not false e = absurd cc

pub not_so : (b : Bool) → not b ≡ true → b ≡ false
not_so true e = absurd cc
not_so false e = refl

pub look_begun : (levels looks : ℕ) (b d : Bytes) (w : Walk) → 0 < levels → Ok d ≡ envelope b → w ≡ walk d → look_along (within (look_deep (levels - 1))) looks w ≡ look_deep levels looks b
look_begun zero looks b d w h e is = absurd (omega (arith, h))
look_begun (suc n) looks b d w h e is =
    let less : suc n - 1 ≡ n = omega arith in
    ap (λ k. look_along (within (look_deep k)) looks w) less
    ∙ ap (look_along (within (look_deep n)) looks) (is ∙ ap walk (sym (frame b d (sym e))))
    ∙ ap (λ r. in_frame r looks (look_along (within (look_deep n)) looks (walk b))) e

module _ (inner : ElementType → ℕ → Bytes → Look) (left : ℕ) (old : Walk) (all : Look) (so_far : look_along inner left old ≡ all) where
  from : (w : Walk) → old ≡ w → look_along inner left w ≡ all
  from w is = ap (look_along inner left) (sym is) ∙ so_far

  pub look_ended : old ≡ ended → fine left ≡ all
  look_ended is = from ended is

  pub look_faulty : (e : Error) → old ≡ faulty e → fault left ≡ all
  look_faulty e is = from (faulty e) is

  pub look_used_up : (e : Element) (w : Walk) → left ≡ 0 → old ≡ then_walk e w → fault 0 ≡ all
  look_used_up e w none is = ap (λ n. look_along inner n (then_walk e w)) (sym none) ∙ from (then_walk e w) is

  next : (n : ℕ) (e : Element) (w : Walk) (l : Look) → left ≡ suc n → old ≡ then_walk e w → l ≡ inner e.kind (left - 1) e.value → and_then l (λ k. look_along inner k w) ≡ all
  next n e w l some is found =
      let less : left - 1 ≡ n = omega (arith, some) in
      ap (λ k. and_then k (λ k. look_along inner k w)) (found ∙ ap (λ k. inner e.kind k e.value) less)
      ∙ ap (λ n. look_along inner n (then_walk e w)) (sym some) ∙ from (then_walk e w) is

  one_more : (n : ℕ) → 0 < n → n ≡ suc (n - 1)
  one_more n h = omega (arith, h)

  pub look_next : (e : Element) (w : Walk) (l : Look) → 0 < left → old ≡ then_walk e w → l ≡ inner e.kind (left - 1) e.value → not l.fine ≡ false → look_along inner l.left w ≡ all
  look_next e w l some is found good = ap (λ b. cond b (look_along inner l.left w) l) (sym (no_not l.fine good)) ∙ next (left - 1) e w l (one_more left some) is found

  pub look_bad : (e : Element) (w : Walk) (l : Look) → 0 < left → old ≡ then_walk e w → l ≡ inner e.kind (left - 1) e.value → not l.fine ≡ true → l ≡ all
  look_bad e w l some is found bad = ap (λ b. cond b (look_along inner l.left w) l) (sym (not_so l.fine bad)) ∙ next (left - 1) e w l (one_more left some) is found

-- ---- each element, and not into it

-- So many elements were walked over, and this is left: the rest decides how the document ends.
pub record IsWalking (b : Bytes) (n : ℕ) (w : Walk) : Type 0 where
  pub fine : ends_well w ≡ is_walked b
  pub number : n + count w ≡ walked b
  pub few : n + count w < 2 ^ 31

pub walk_begun : (b d : Bytes) (w : Walk) → Ok d ≡ envelope b → w ≡ walk d → count w < 2 ^ 31 → IsWalking b 0 w
walk_begun b d w e is few =
    let same : w ≡ walk b = is ∙ ap walk (sym (frame b d (sym e))) in
    record {
      fine = ap ends_well same ∙ ap (λ r. framed r (ends_well (walk b))) e;
      number = omega (arith, ap count same ∙ ap (λ r. framed_count r (count (walk b))) e);
      few = omega (arith, few);
    }

module _ (b : Bytes) (n : ℕ) (old : Walk) (so_far : IsWalking b n old) where
  walked_to : (w : Walk) → old ≡ w → IsWalking b n w
  walked_to w is = subst (IsWalking b n) is so_far

  pub walk_ended : old ≡ ended → (true ≡ is_walked b) × (n ≡ walked b)
  walk_ended is = let s = walked_to ended is in (s.fine, omega (arith, s.number))

  faulted : (e : Error) → old ≡ faulty e → (false ≡ is_walked b) × (n ≡ walked b)
  faulted e is = let s = walked_to (faulty e) is in (s.fine, omega (arith, s.number))

  pub walk_stopped : (item : Result Element Error) (w : Walk) → IsNext old (Some item) w → true ≡ is_err item → (false ≡ is_walked b) × (n ≡ walked b)
  walk_stopped (Ok e) w step bad = absurd cc
  walk_stopped (Err e) w step bad = faulted e step.0

  pub walk_next : (item : Result Element Error) (w : Walk) → IsNext old (Some item) w → false ≡ is_err item → IsWalking b (n + 1) w
  walk_next (Err e) w step good = absurd cc
  walk_next (Ok e) w step good =
      let s = walked_to (then_walk e w) step in
      record { fine = s.fine; number = omega (arith, s.number); few = omega (arith, s.few) }
