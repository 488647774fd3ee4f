-- A stream under way.
use Rattle.std.proofs.Common.{◌≡◌, ℕ, ◌+◌, ◌*◌, ◌≤◌, ◌^◌, Bool, true, false, List, [], ◌∷◌, ◌++◌, length, Option, Result, Ok, Err, refl, ap, sym, subst, ◌∙◌, inl, inr, arith, append-nil}
use Rattle.std.specs.Prelude.{◌⊎◌, ◌||◌}
use Rattle.std.specs.Io.KnownBytes.{Consumes, Appends, Keeps}
use Rattle.std.proofs.KnownBytes.{Consumes-nil, Consumes-trans, Appends-nil, Appends-trans, Appends-kept}
use Rattle.std.proofs.lemmas.List.{length-append}
use Rattle.bson_kinds.specs.Text.{Bytes}
use Rattle.std.specs.Result.{IsErr}
use Rattle.bson_io.specs.declared.ends.Failed.{Failed}
use Rattle.bson_io.specs.Ends.{AppendsPrefix, Rose, RoseOrLast, Takes}
use Rattle.bson_rawdoc.proofs.Pieces.{piece_fits}
use Rattle.bson_program.specs.Ends.{SourceChange, SinkChange}
use Rattle.bson_streaming.specs.Answers.{Answer, bytes_of, lines_of, outputs, lines, has_refused}
use Rattle.bson_streaming.specs.Closing.{ending_of, place_of}
use Rattle.bson_streaming.specs.Due.{IsDue, Moves, Fails}
use Rattle.bson_streaming.specs.Halted.{Halted, IsHalted}
use Rattle.bson_streaming.specs.Next.{IsNextPiece}
use Rattle.bson_streaming.specs.Streamed.{IsLast, Documents, Stops, Faults, AreToldBefore, CutOff}
use Rattle.bson_streaming.specs.Turn.{Tells, Stays, IsWritten, IsBroken}
use Rattle.bson_streaming.specs.declared.closing.Halt.{Halt}
use Rattle.bson_streaming.specs.declared.closing.Halt.TheVariants as halts
use Rattle.bson_streaming.specs.declared.next.Piece.TheVariants as pieces
use Rattle.bson_streaming.proofs.OneMore.{outputs_last, lines_last, refused_last, no_documents, documents_last}
use Rattle.bson_streaming.proofs.Dues.{as_prefix, prefix_behind, all_due, due_then, due_prefix, due_all, due_moved, due_short}

abbrev pub source : (old new : Option Bytes) (before after : ℕ) → SourceChange
source old new before after = record { before = old; after = new; faults_before = before; faults_after = after }

abbrev pub sink : (room : Option ℕ) (old new : Option Bytes) (before after : ℕ) → SinkChange
sink room old new before after = record { room = room; before = old; after = new; faults_before = before; faults_after = after }

-- So far: these documents came of the source and are answered.
pub record IsUnderWay {S : Type 0} (gives : S → Bytes → Answer → S → Type 0) (first now : S) (input : SourceChange) (out err : SinkChange) (due : Bytes) (place number : ℕ) (refused : Bool) : Type 0 where
  pub came : Bytes
  pub answers : List Answer
  pub documents : Documents gives first now came answers
  pub taken : Consumes input.before input.after came
  pub steady : input.faults_after ≡ input.faults_before
  pub parts : IsDue out.before out.after due (outputs answers)
  pub quiet : out.faults_after ≡ out.faults_before
  pub told : Tells err (lines 0 answers)
  pub placed : place ≡ length came
  pub numbered : number ≡ length answers
  pub few : 5 * number ≤ place
  pub some : refused ≡ has_refused answers

pub begun : {S : Type 0} (gives : S → Bytes → Answer → S → Type 0) (first : S) (i : Option Bytes) (p : ℕ) (r : Option ℕ) (o : Option Bytes) (q : ℕ) (s : Option ℕ) (e : Option Bytes) (t : ℕ) (due : Bytes) → due ≡ []
    → IsUnderWay gives first first (source i i p p) (sink r o o q q) (sink s e e t t) due 0 0 false
begun gives first i p r o q s e t due none = record {
  came = [];
  answers = [];
  documents = no_documents gives first;
  taken = Consumes-nil i;
  steady = refl;
  parts = subst (λ d. IsDue o o d []) (sym none) (all_due o []);
  quiet = refl;
  told = record { grown = Appends-nil e; quiet = refl };
  placed = refl;
  numbered = refl;
  few = omega arith;
  some = refl;
}

pub as_cut : {S : Type 0} (gives : S → Bytes → Answer → S → Type 0) (first last : S) (input : SourceChange) (out err : SinkChange) (due : Bytes) (r : Result Halt Failed) → IsErr r → CutOff gives first input out err
    → IsHalted gives first last input out err due r
as_cut gives first last input out err due (Ok h) e c = absurd cc
as_cut gives first last input out err due (Err f) e c = c

behind_nothing : (a b : Option Bytes) (xs ys : Bytes) → ys ≡ [] → Consumes a b xs → Consumes a b (xs ++ ys)
behind_nothing a b xs ys none h = subst (Consumes a b) (sym (ap (λ l. xs ++ l) none ∙ append-nil xs)) h

at_last : (before mid after : ℕ) → mid ≡ before → RoseOrLast mid after → RoseOrLast before after
at_last before mid after same h = subst (λ n. RoseOrLast n after) same h

module _ {S : Type 0} (gives : S → Bytes → Answer → S → Type 0) (first now : S) (i i' : Option Bytes) (p p' : ℕ) (r : Option ℕ) (o o' : Option Bytes) (q q' : ℕ) (s : Option ℕ) (e e' : Option Bytes) (t t' : ℕ) (due : Bytes) (place number : ℕ) (refused : Bool)
    (w : IsUnderWay gives first now (source i i' p p') (sink r o o' q q') (sink s e e' t t') due place number refused) where
  -- ---- what is due was written

  pub flushed : (r' : Option ℕ) (o'' : Option Bytes) (q'' : ℕ) (more : Bytes) → Moves (sink r' o' o'' q' q'') due more
      → IsUnderWay gives first now (source i i' p p') (sink r o o'' q q'') (sink s e e' t t') more place number refused
  flushed r' o'' q'' more m =
      record {
        came = w.came;
        answers = w.answers;
        documents = w.documents;
        taken = w.taken;
        steady = w.steady;
        parts = due_moved o o' o'' due (outputs w.answers) w.parts more m.parts;
        quiet = m.quiet ∙ w.quiet;
        told = w.told;
        placed = w.placed;
        numbered = w.numbered;
        few = w.few;
        some = w.some;
      }

  pub unflushed : (r' : Option ℕ) (o'' : Option Bytes) (q'' : ℕ) → Fails (sink r' o' o'' q' q'') due → CutOff gives first (source i i' p p') (sink r o o'' q q'') (sink s e e' t t')
  unflushed r' o'' q'' f = record {
    came = w.came;
    rest = [];
    answers = w.answers;
    line = [];
    so_far = now;
    documents = w.documents;
    taken = behind_nothing i i' w.came [] refl w.taken;
    cause = inl (at_last q q' q'' w.quiet f.cause);
    out_grew = due_short o o' o'' due (outputs w.answers) w.parts f.part;
    err_grew = subst (AppendsPrefix e e') (sym (append-nil (lines 0 w.answers))) (as_prefix e e' (lines 0 w.answers) w.told.grown);
    in_order = inr (record { before = w.answers; last = []; parts = sym (append-nil w.answers); one = omega arith; told = w.told.grown });
  }

  -- ---- no more documents are taken

  halted : (h : Halt) (i'' : Option Bytes) (p'' : ℕ) (last : S) (rest : Bytes) → Consumes i' i'' rest → Stops (ending_of h) (source i i'' p p'') w.came rest w.answers → Faults (ending_of h) (source i i'' p p'')
      → IsLast (ending_of h) now last → place_of h (length w.came) ≡ length w.came → Halted gives first last (source i i'' p p'') (sink r o o' q q') (sink s e e' t t') due h
  halted h i'' p'' last rest taken stops faults state there = record {
    came = w.came;
    rest = rest;
    answers = w.answers;
    so_far = now;
    state = state;
    documents = w.documents;
    taken = Consumes-trans i i' i'' w.came rest w.taken taken;
    stops = stops;
    faults = faults;
    placed = there;
    parts = w.parts;
    quiet = w.quiet;
    told = w.told;
  }

  pub at_end : (i'' : Option Bytes) (p'' : ℕ) (bytes : Bytes) → IsNextPiece pieces.End bytes i' i'' → p'' ≡ p' → Halted gives first now (source i i'' p p'') (sink r o o' q q') (sink s e e' t t') due (halts.End refused)
  at_end i'' p'' bytes n same = by_case refused w.some where
    by_case : (b : Bool) → b ≡ has_refused w.answers → Halted gives first now (source i i'' p p'') (sink r o o' q q') (sink s e e' t t') due (halts.End b)
    by_case true is = halted (halts.End true) i'' p'' now bytes n.taken (n.is.0, n.is.1, sym is) (same ∙ w.steady) refl refl
    by_case false is = halted (halts.End false) i'' p'' now bytes n.taken (n.is.0, n.is.1, sym is) (same ∙ w.steady) refl refl

  pub at_break : (i'' : Option Bytes) (p'' : ℕ) (bytes : Bytes) → IsNextPiece pieces.Broken bytes i' i'' → p'' ≡ p' → Halted gives first now (source i i'' p p'') (sink r o o' q q') (sink s e e' t t') due (halts.Broken place)
  at_break i'' p'' bytes n same = halted (halts.Broken place) i'' p'' now bytes n.taken n.is (same ∙ w.steady) refl w.placed

  pub at_fault : (i'' : Option Bytes) (p'' : ℕ) → Takes i' i'' → Rose p' p'' → Halted gives first now (source i i'' p p'') (sink r o o' q q') (sink s e e' t t') due halts.SourceFault
  at_fault i'' p'' x rose = halted halts.SourceFault i'' p'' now x.bytes x.taken tt (subst (λ n. Rose n p'') w.steady rose) refl refl

  pub without_memory : (i'' : Option Bytes) (p'' : ℕ) (last : S) → Takes i' i'' → Halted gives first last (source i i'' p p'') (sink r o o' q q') (sink s e e' t t') due halts.NoMemory
  without_memory i'' p'' last x = halted halts.NoMemory i'' p'' last x.bytes x.taken tt tt tt refl

  -- ---- one document more

  module _ (i'' : Option Bytes) (p'' : ℕ) (doc : Bytes) (n : IsNextPiece pieces.Document doc i' i'') (same : p'' ≡ p') where
    pub too_long : 2 ^ 64 ≤ place + length doc → Halted gives first now (source i i'' p p'') (sink r o o' q q') (sink s e e' t t') due halts.TooLong
    too_long long = halted halts.TooLong i'' p'' now doc n.taken (omega (arith, long, w.placed)) (same ∙ w.steady) refl refl

    taken_last : Consumes i i'' (w.came ++ doc)
    taken_last = Consumes-trans i i' i'' w.came doc w.taken n.taken

    same_number : number ≡ length w.answers + 0
    same_number = omega (arith, w.numbered)

    lines_are : (a : Answer) → lines 0 w.answers ++ lines_of number a ≡ lines 0 (w.answers ++ a ∷ [])
    lines_are a = ap (λ m. lines 0 w.answers ++ lines_of m a) same_number ∙ sym (lines_last 0 w.answers a)

    module _ (next : S) (r' : Option ℕ) (o'' : Option Bytes) (q'' : ℕ) (s' : Option ℕ) (e'' : Option Bytes) (t'' : ℕ) where
      pub turned : (end : ℕ) (was : Bool) (more : Bytes) → end ≡ place + length doc → IsWritten (λ a. gives now doc a next) number (sink r' o' o'' q' q'') (sink s' e' e'' t' t'') due more was
          → IsUnderWay gives first next (source i i'' p p'') (sink r o o'' q q'') (sink s e e'' t t'') more end (number + 1) (refused || was)
      turned end was more is x = record {
        came = w.came ++ doc;
        answers = w.answers ++ x.answer ∷ [];
        documents = documents_last gives first now next w.came doc w.answers x.answer w.documents n.is x.given;
        taken = taken_last;
        steady = same ∙ w.steady;
        parts = subst (IsDue o o'' more) (sym (outputs_last w.answers x.answer)) (due_then o o' o'' due (outputs w.answers) (bytes_of x.answer) w.parts more x.due.parts);
        quiet = x.due.quiet ∙ w.quiet;
        told = record {
          grown = subst (Appends e e'') (lines_are x.answer) (Appends-trans e e' e'' (lines 0 w.answers) (lines_of number x.answer) w.told.grown x.told.grown);
          quiet = x.told.quiet ∙ w.told.quiet;
        };
        placed = omega (arith, is, w.placed, length-append w.came doc);
        numbered = omega (arith, w.numbered, length-append w.answers (x.answer ∷ []));
        few = omega (arith, is, w.few, (piece_fits doc (length doc) n.is).0);
        some = ap (λ b. b || was) w.some ∙ ap (λ b. has_refused w.answers || b) x.is ∙ sym (refused_last w.answers x.answer);
      }

      pub turn_broken : IsBroken (λ a. gives now doc a next) number (sink r' o' o'' q' q'') (sink s' e' e'' t' t'') due → CutOff gives first (source i i'' p p'') (sink r o o'' q q'') (sink s e e'' t t'')
      turn_broken x = record {
        came = w.came ++ doc;
        rest = [];
        answers = w.answers ++ x.answer ∷ [];
        line = [];
        so_far = next;
        documents = documents_last gives first now next w.came doc w.answers x.answer w.documents n.is x.given;
        taken = behind_nothing i i'' (w.came ++ doc) [] refl taken_last;
        cause = causes x.breaks.cause;
        out_grew = subst (AppendsPrefix o o'') (sym (outputs_last w.answers x.answer)) (due_prefix o o' o'' due (outputs w.answers) (bytes_of x.answer) w.parts x.breaks.part);
        err_grew =
            subst (AppendsPrefix e e'') (lines_are x.answer ∙ sym (append-nil (lines 0 (w.answers ++ x.answer ∷ []))))
            (prefix_behind e e' e'' (lines 0 w.answers) (lines_of number x.answer) w.told.grown x.breaks.told);
        in_order = orders x.breaks.in_order;
      } where
        causes : RoseOrLast q' q'' ⊎ RoseOrLast t' t'' → RoseOrLast q q'' ⊎ RoseOrLast t t''
        causes (inl h) = inl (at_last q q' q'' w.quiet h)
        causes (inr h) = inr (at_last t t' t'' w.told.quiet h)

        orders : Appends o' o'' (due ++ bytes_of x.answer) ⊎ Keeps e' e'' → Appends o o'' (outputs (w.answers ++ x.answer ∷ [])) ⊎ AreToldBefore e e'' (w.answers ++ x.answer ∷ [])
        orders (inl h) = inl (subst (Appends o o'') (sym (outputs_last w.answers x.answer)) (due_all o o' o'' due (outputs w.answers) (bytes_of x.answer) w.parts h))
        orders (inr h) = inr (record { before = w.answers; last = x.answer ∷ []; parts = refl; one = omega arith; told = Appends-kept e e' e'' (lines 0 w.answers) w.told.grown h })

      pub turn_stayed : (last : S) (more : Bytes) → Stays (sink r' o' o'' q' q'') (sink s' e' e'' t' t'') due more → Halted gives first last (source i i'' p p'') (sink r o o'' q q'') (sink s e e'' t t'') more halts.NoMemory
      turn_stayed last more x = record {
        came = w.came;
        rest = doc;
        answers = w.answers;
        so_far = now;
        state = tt;
        documents = w.documents;
        taken = taken_last;
        stops = tt;
        faults = tt;
        placed = refl;
        parts = due_moved o o' o'' due (outputs w.answers) w.parts more x.due.parts;
        quiet = x.due.quiet ∙ w.quiet;
        told = record {
          grown = subst (Appends e e'') (append-nil (lines 0 w.answers)) (Appends-trans e e' e'' (lines 0 w.answers) [] w.told.grown x.told.grown);
          quiet = x.told.quiet ∙ w.told.quiet;
        };
      }
