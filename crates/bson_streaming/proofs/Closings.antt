-- The end of a stream.
use Rattle.std.proofs.Common.{◌≡◌, ℕ, true, false, [], length, Option, refl, ap, sym, subst, ◌∙◌, inl, inr, arith, append-nil}
use Rattle.std.specs.Prelude.{◌⊎◌}
use Rattle.std.specs.Io.KnownBytes.{Appends, Keeps}
use Rattle.std.proofs.KnownBytes.{Appends-trans, Appends-kept}
use Rattle.bson_kinds.specs.Text.{Bytes}
use Rattle.bson_io.specs.Ends.{RoseOrLast}
use Rattle.bson_program.specs.Ends.{SourceChange}
use Rattle.bson_program.specs.Run.{AreWritten}
use Rattle.bson_streaming.specs.Answers.{Answer, outputs, lines}
use Rattle.bson_streaming.specs.Closing.{ending_of, place_of, line_of, IsClosed}
use Rattle.bson_streaming.specs.Halted.{Halted}
use Rattle.bson_streaming.specs.Streamed.{last_line, IsLast, Stops, Faults, Answered, AreToldBefore, IsStreamed}
use Rattle.bson_streaming.specs.declared.closing.Ending.{Ending}
use Rattle.bson_streaming.specs.declared.closing.Ending.TheVariants as endings
use Rattle.bson_streaming.specs.declared.closing.Halt.{Halt}
use Rattle.bson_streaming.specs.declared.closing.Halt.TheVariants as halts
use Rattle.bson_streaming.proofs.Dues.{prefix_behind, due_short, due_written}
use Rattle.bson_streaming.proofs.UnderWay.{sink}

same_line : (h : Halt) (n : ℕ) → place_of h n ≡ n → line_of h ≡ last_line (ending_of h) n
same_line (halts.End true) n e = refl
same_line (halts.End false) n e = refl
same_line (halts.Broken place) n e = ap (last_line endings.Broken) e
same_line halts.TooLong n e = refl
same_line halts.SourceFault n e = refl
same_line halts.NoMemory n e = refl

module _ {S : Type 0} (gives : S → Bytes → Answer → S → Type 0) (first last : S) (input : SourceChange) (r : Option ℕ) (o o' : Option Bytes) (q q' : ℕ) (s : Option ℕ) (e e' : Option Bytes) (t t' : ℕ) (due : Bytes) (halt : Halt)
    (h : Halted gives first last input (sink r o o' q q') (sink s e e' t t') due halt) (r' : Option ℕ) (o'' : Option Bytes) (q'' : ℕ) (s' : Option ℕ) (e'' : Option Bytes) (t'' : ℕ) where
  answered : (x : Ending) → Stops x input h.came h.rest h.answers → Faults x input → IsLast x h.so_far last → (line : Bytes) → line ≡ last_line x (length h.came)
      → AreWritten due line (sink r' o' o'' q' q'') (sink s' e' e'' t' t'') → Answered gives first last input (sink r o o'' q q'') (sink s e e'' t t'') x
  answered x stops faults state line is a = record {
    came = h.came;
    rest = h.rest;
    answers = h.answers;
    so_far = h.so_far;
    state = state;
    documents = h.documents;
    taken = h.taken;
    stops = stops;
    faults = faults;
    written = record {
      out_grew = due_written o o' o'' due (outputs h.answers) h.parts a.out_grew;
      err_grew = Appends-trans e e' e'' (lines 0 h.answers) (last_line x (length h.came)) h.told.grown (subst (Appends e' e'') is a.err_grew);
      out_quiet = a.out_quiet ∙ h.quiet;
      err_quiet = a.err_quiet ∙ h.told.quiet;
    };
  }

  as_halted : (x : Ending) → x ≡ ending_of halt → AreWritten due (line_of halt) (sink r' o' o'' q' q'') (sink s' e' e'' t' t'') → Answered gives first last input (sink r o o'' q q'') (sink s e e'' t t'') x
  as_halted x is a = subst (Answered gives first last input (sink r o o'' q q'') (sink s e e'' t t'')) (sym is) (answered (ending_of halt) h.stops h.faults h.state (line_of halt) (same_line halt (length h.came) h.placed) a)

  pub closed : (x : Ending) → IsClosed (line_of halt) (ending_of halt) (sink r' o' o'' q' q'') (sink s' e' e'' t' t'') due x → IsStreamed gives first last input (sink r o o'' q q'') (sink s e e'' t t'') x
  closed endings.Done a = as_halted endings.Done a.0 a.1
  closed endings.SomeRefused a = as_halted endings.SomeRefused a.0 a.1
  closed endings.Broken a = as_halted endings.Broken a.0 a.1
  closed endings.TooLong a = as_halted endings.TooLong a.0 a.1
  closed endings.SourceFault a = as_halted endings.SourceFault a.0 a.1
  closed endings.NoMemory a = answered endings.NoMemory tt tt tt [] refl a
  closed endings.SinkFault b = record {
    came = h.came;
    rest = h.rest;
    answers = h.answers;
    line = line_of halt;
    so_far = h.so_far;
    documents = h.documents;
    taken = h.taken;
    cause = causes b.cause;
    out_grew = due_short o o' o'' due (outputs h.answers) h.parts b.part;
    err_grew = prefix_behind e e' e'' (lines 0 h.answers) (line_of halt) h.told.grown b.told;
    in_order = orders b.in_order;
  } where
    at_last : (before mid after : ℕ) → mid ≡ before → RoseOrLast mid after → RoseOrLast before after
    at_last before mid after same x = subst (λ n. RoseOrLast n after) same x

    causes : RoseOrLast q' q'' ⊎ RoseOrLast t' t'' → RoseOrLast q q'' ⊎ RoseOrLast t t''
    causes (inl x) = inl (at_last q q' q'' h.quiet x)
    causes (inr x) = inr (at_last t t' t'' h.told.quiet x)

    orders : Appends o' o'' due ⊎ Keeps e' e'' → Appends o o'' (outputs h.answers) ⊎ AreToldBefore e e'' h.answers
    orders (inl x) = inl (due_written o o' o'' due (outputs h.answers) h.parts x)
    orders (inr x) = inr (record { before = h.answers; last = []; parts = sym (append-nil h.answers); one = omega arith; told = Appends-kept e e' e'' (lines 0 h.answers) h.told.grown x })
