-- A window that grows, and what is settled whatever comes.
use Rattle.std.proofs.Common.{◌≡◌, ℕ, ◌<◌, ◌≤◌, true, [], ◌++◌, length, drop, Option, refl, ap, sym, subst, ◌∙◌, inl, inr, arith, append-nil}
use Rattle.std.specs.Prelude.{◌⊎◌}
use Rattle.std.specs.Io.KnownBytes.{IsAtEnd}
use Rattle.std.proofs.KnownBytes.{Consumes-nil, Consumes-trans}
use Rattle.std.proofs.lemmas.List.{append_assoc, length-append, drop-append-le}
use Rattle.bson_kinds.specs.Text.{Bytes}
use Rattle.bson_io.specs.Ends.{Takes}
use Rattle.bson_salvaging.specs.Searches.{Passes}
use Rattle.bson_salvaging.specs.Window.{Held, MayCome, Settles, Grows}

pub grows_none : (h : Held) (left : Option Bytes) → Grows h h left left
grows_none h left = record { more = []; bytes = sym (append-nil h.bytes); taken = Consumes-nil left; over = λ e. (e, refl, refl); ends = λ e. inl e }

pub grows_then : (a b c : Held) (l m n : Option Bytes) → Grows a b l m → Grows b c m n → Grows a c l n
grows_then a b c l m n p q = record {
  more = p.more ++ q.more;
  bytes = q.bytes ∙ ap (λ x. x ++ q.more) p.bytes ∙ append_assoc a.bytes p.more q.more;
  taken = Consumes-trans l m n p.more q.more p.taken q.taken;
  over = λ e. let x = p.over e in let y = q.over x.0 in (y.0, ap (λ x. x ++ q.more) x.1 ∙ y.1, y.2 ∙ x.2);
  ends = λ e. by_end e (q.ends e);
} where
  still : IsAtEnd m → b.ended ≡ true → IsAtEnd n
  still at e = subst IsAtEnd (sym (q.over e).2) at

  by_first : b.ended ≡ true → (a.ended ≡ true) ⊎ IsAtEnd m → (a.ended ≡ true) ⊎ IsAtEnd n
  by_first e (inl x) = inl x
  by_first e (inr x) = inr (still x e)

  by_end : c.ended ≡ true → (b.ended ≡ true) ⊎ IsAtEnd n → (a.ended ≡ true) ⊎ IsAtEnd n
  by_end e (inl x) = by_first x (p.ends x)
  by_end e (inr x) = inr x

pub may_come : (a b : Held) (l m : Option Bytes) (g : Grows a b l m) (more : Bytes) → MayCome b more → MayCome a (g.more ++ more)
may_come a b l m g more may = λ e. let x = g.over e in ap (λ y. y ++ more) x.1 ∙ may x.0

pub all_bytes : (a b : Held) (l m : Option Bytes) (g : Grows a b l m) (more : Bytes) → b.bytes ++ more ≡ a.bytes ++ (g.more ++ more)
all_bytes a b l m g more = ap (λ x. x ++ more) g.bytes ∙ append_assoc a.bytes g.more more

-- what is settled stays settled
pub settles_grown : {A : Type 0} (ask : Bytes → A) (a b : Held) (l m : Option Bytes) (answer : A) → Settles ask a answer → Grows a b l m → Settles ask b answer
settles_grown ask a b l m answer s g = λ more may. ap ask (all_bytes a b l m g more) ∙ s (g.more ++ more) (may_come a b l m g more may)

pub longer : (a b : Held) (l m : Option Bytes) → Grows a b l m → length a.bytes ≤ length b.bytes
longer a b l m g = omega (arith, ap length g.bytes, length-append a.bytes g.more)

pub drop_front : (n : ℕ) (xs ys : Bytes) → n ≤ length xs → drop n (xs ++ ys) ≡ drop n xs ++ ys
drop_front n xs ys h = drop-append-le n xs ys h

-- the first n bytes were passed, of those that came
pub passes_none : (h : Held) → Passes 0 h h
passes_none h = record { within = omega arith; bytes = refl; ended = refl }

pub takes_then : (a b : Held) (l m n : Option Bytes) → Grows a b l m → Takes m n → Takes l n
takes_then a b l m n g t = record { bytes = g.more ++ t.bytes; taken = Consumes-trans l m n g.more t.bytes g.taken t.taken }

pub takes_grown : (a b c : Held) (l m n : Option Bytes) → Grows a b l m → Grows b c m n → Takes l n
takes_grown a b c l m n g h = record { bytes = g.more ++ h.more; taken = Consumes-trans l m n g.more h.more g.taken h.taken }

-- fewer are held than were asked for only where the source has given its last
pub over : (h : Held) (n : ℕ) → (n ≤ length h.bytes) ⊎ (h.ended ≡ true) → length h.bytes < n → h.ended ≡ true
over h n (inl all) few = absurd (omega (arith, all, few))
over h n (inr e) few = e

pub reach : (h : Held) (need least : ℕ) → (need ≤ length h.bytes → least ≤ length h.bytes) → (need ≤ length h.bytes) ⊎ (h.ended ≡ true) → (least ≤ length h.bytes) ⊎ (h.ended ≡ true)
reach h need least enough (inl all) = inl (enough all)
reach h need least enough (inr e) = inr e

pub takes_all : (a b : Held) (l m : Option Bytes) → Grows a b l m → Takes l m
takes_all a b l m g = record { bytes = g.more; taken = g.taken }
