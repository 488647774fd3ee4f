-- The end of a salvage.
use Rattle.std.proofs.Common.{◌≡◌, ℕ, Option, sym, subst, ◌∙◌, inl, inr}
use Rattle.std.proofs.KnownBytes.{Appends-trans}
use Rattle.bson_kinds.specs.Text.{Bytes}
use Rattle.bson_io.specs.Ends.{RoseOrLast}
use Rattle.bson_program.specs.Ends.{SourceChange}
use Rattle.bson_streaming.specs.Streamed.{last_line}
use Rattle.bson_streaming.specs.declared.closing.Ending.{Ending}
use Rattle.bson_streaming.specs.declared.closing.Ending.TheVariants as endings
use Rattle.bson_streaming.proofs.Dues.{as_prefix, prefix_behind}
use Rattle.bson_streaming.proofs.UnderWay.{sink}
use Rattle.bson_salvaging.specs.Halted.{ending_of, Tells, Fails, Halted, IsClosed}
use Rattle.bson_salvaging.specs.Salvaged.{saved, lines, Salvaged, CutOff, IsSalvaged}
use Rattle.bson_salvaging.specs.declared.salvaging.Halt.{Halt}

module _ (input : SourceChange) (r : Option ℕ) (o o' : Option Bytes) (q q' : ℕ) (s : Option ℕ) (e e' : Option Bytes) (t t' : ℕ) (halt : Halt)
    (h : Halted input (sink r o o' q q') (sink s e e' t t') halt) (s' : Option ℕ) (e'' : Option Bytes) (t'' : ℕ) where
  ended_so : (x : Ending) → x ≡ ending_of halt → Tells (sink s' e' e'' t' t'') (last_line (ending_of halt) 0) → Salvaged input (sink r o o' q q') (sink s e e'' t t'') x
  ended_so x is a = subst (Salvaged input (sink r o o' q q') (sink s e e'' t t'')) (sym is) (record {
    stretches = h.stretches;
    rest = h.rest;
    taken = h.taken;
    walked = h.walked;
    stops = h.stops;
    faults = h.faults;
    written = record {
      out_grew = h.written.grown;
      err_grew = Appends-trans e e' e'' (lines 0 h.stretches) (last_line (ending_of halt) 0) h.told.grown a.grown;
      out_quiet = h.written.quiet;
      err_quiet = a.quiet ∙ h.told.quiet;
    };
  })

  cut_off : Fails (sink s' e' e'' t' t'') (last_line (ending_of halt) 0) → CutOff input (sink r o o' q q') (sink s e e'' t t'')
  cut_off a = record {
    stretches = h.stretches;
    rest = h.rest;
    line = last_line (ending_of halt) 0;
    taken = h.taken;
    walked = h.walked;
    cause = inr (subst (λ n. RoseOrLast n t'') h.told.quiet a.cause);
    out_grew = as_prefix o o' (saved h.stretches) h.written.grown;
    err_grew = prefix_behind e e' e'' (lines 0 h.stretches) (last_line (ending_of halt) 0) h.told.grown a.part;
    in_order = inl h.written.grown;
  }

  pub ended : (x : Ending) → IsClosed halt (sink s' e' e'' t' t'') x → IsSalvaged input (sink r o o' q q') (sink s e e'' t t'') x
  ended endings.Done a = ended_so endings.Done a.0 a.1
  ended endings.SomeRefused a = ended_so endings.SomeRefused a.0 a.1
  ended endings.Broken a = ended_so endings.Broken a.0 a.1
  ended endings.TooLong a = ended_so endings.TooLong a.0 a.1
  ended endings.SourceFault a = ended_so endings.SourceFault a.0 a.1
  ended endings.NoMemory a = ended_so endings.NoMemory a.0 a.1
  ended endings.SinkFault a = cut_off a
