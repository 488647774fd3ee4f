-- What is due to a sink, step by step.
use Rattle.std.proofs.Common.{◌≡◌, ◌+◌, [], ◌++◌, length, take, Option, Some, None, Result, Ok, Err, refl, ap, sym, subst, ◌∙◌, inr, inl, arith, append-nil}
use Rattle.std.specs.Io.KnownBytes.{Appends, Keeps}
use Rattle.std.specs.Result.{IsErrAnd}
use Rattle.std.proofs.KnownBytes.{Appends-nil, Appends-trans}
use Rattle.std.proofs.lemmas.List.{append_assoc, length-append, take_all}
use Rattle.std.proofs.Math.Seq.{take-append-add}
use Rattle.bson_kinds.specs.Text.{Bytes}
use Rattle.bson_io.specs.Ends.{AppendsPrefix, RoseOrLast}
use Rattle.bson_program.specs.Ends.{SinkChange}
use Rattle.bson_streaming.specs.Due.{IsDue, Moves}
use Rattle.bson_streaming.specs.Turn.{Breaks, IsTold}
use Rattle.bson_streaming.specs.declared.answering.Stop.{Stop}
use Rattle.bson_streaming.specs.declared.answering.Stop.TheVariants.{SinkFault, NoMemory}

pub as_prefix : (a b : Option Bytes) (xs : Bytes) → Appends a b xs → AppendsPrefix a b xs
as_prefix a b xs h = record { count = length xs; within = omega arith; grown = subst (Appends a b) (sym (take_all (length xs) xs (omega arith))) h }

pub none_prefix : (a : Option Bytes) (xs : Bytes) → AppendsPrefix a a xs
none_prefix a xs = record { count = 0; within = omega arith; grown = Appends-nil a }

pub kept : (a b : Option Bytes) → Keeps a b → Appends a b []
kept None b h = tt
kept (Some xs) None h = absurd h
kept (Some xs) (Some ys) h = h ∙ sym (append-nil xs)

pub prefix_behind : (a b c : Option Bytes) (xs ys : Bytes) → Appends a b xs → AppendsPrefix b c ys → AppendsPrefix a c (xs ++ ys)
prefix_behind a b c xs ys p q = record {
  count = length xs + q.count;
  within = omega (arith, q.within, length-append xs ys);
  grown = subst (Appends a c) (sym (take-append-add xs ys q.count)) (Appends-trans a b c xs (take q.count ys) p q.grown);
}

-- nothing was written
pub all_due : (a : Option Bytes) (xs : Bytes) → IsDue a a xs xs
all_due a xs = record { wrote = []; grown = Appends-nil a; whole = refl }

-- all was written
pub none_due : (a b : Option Bytes) (d xs : Bytes) → d ≡ [] → IsDue a b d xs → Appends a b xs
none_due a b d xs none p = subst (Appends a b) (sym (p.whole ∙ ap (λ l. p.wrote ++ l) none ∙ append-nil p.wrote)) p.grown

pub written_due : (a b : Option Bytes) (xs : Bytes) → Appends a b xs → IsDue a b [] xs
written_due a b xs h = record { wrote = xs; grown = h; whole = sym (append-nil xs) }

-- what is due of some bytes, and then of more
module _ (a b c : Option Bytes) (d xs ys : Bytes) (p : IsDue a b d xs) where
  parted : xs ++ ys ≡ p.wrote ++ (d ++ ys)
  parted = ap (λ l. l ++ ys) p.whole ∙ append_assoc p.wrote d ys

  pub due_then : (e : Bytes) → IsDue b c e (d ++ ys) → IsDue a c e (xs ++ ys)
  due_then e q = record {
    wrote = p.wrote ++ q.wrote;
    grown = Appends-trans a b c p.wrote q.wrote p.grown q.grown;
    whole = parted ∙ ap (λ l. p.wrote ++ l) q.whole ∙ sym (append_assoc p.wrote q.wrote e);
  }

  pub due_prefix : AppendsPrefix b c (d ++ ys) → AppendsPrefix a c (xs ++ ys)
  due_prefix q = subst (AppendsPrefix a c) (sym parted) (prefix_behind a b c p.wrote (d ++ ys) p.grown q)

  pub due_all : Appends b c (d ++ ys) → Appends a c (xs ++ ys)
  due_all q = subst (Appends a c) (sym parted) (Appends-trans a b c p.wrote (d ++ ys) p.grown q)

module _ (a b c : Option Bytes) (d xs : Bytes) (p : IsDue a b d xs) where
  more : d ≡ d ++ []
  more = sym (append-nil d)

  pub due_moved : (e : Bytes) → IsDue b c e d → IsDue a c e xs
  due_moved e q = subst (IsDue a c e) (append-nil xs) (due_then a b c d xs [] p e (subst (IsDue b c e) more q))

  pub due_short : AppendsPrefix b c d → AppendsPrefix a c xs
  due_short q = subst (AppendsPrefix a c) (append-nil xs) (due_prefix a b c d xs [] p (subst (AppendsPrefix b c) more q))

  pub due_written : Appends b c d → Appends a c xs
  due_written q = subst (Appends a c) (append-nil xs) (due_all a b c d xs [] p (subst (Appends b c) more q))

-- what was due was written, and a first part of a line
pub line_broken : (out err : SinkChange) (due more said line : Bytes) → Moves out due more → more ≡ [] → said ≡ line → AppendsPrefix err.before err.after said → RoseOrLast err.faults_before err.faults_after
    → Breaks out err due line
line_broken out err due more said line m none same told cause =
    let all : Appends out.before out.after due = none_due out.before out.after more due none m.parts in
    record { cause = inr cause; part = as_prefix out.before out.after due all; told = subst (AppendsPrefix err.before err.after) same told; in_order = inl all }

pub as_told : (line : Bytes) (out err : SinkChange) (old new : Bytes) (r : Result (Unit {0}) Stop) → IsErrAnd r (λ s. s ≡ SinkFault) → Breaks out err old line → IsTold line out err old new r
as_told line out err old new (Ok u) e b = absurd e
as_told line out err old new (Err SinkFault) e b = b
as_told line out err old new (Err NoMemory) e b = absurd cc
