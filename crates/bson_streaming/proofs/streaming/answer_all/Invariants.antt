use Rattle.std.proofs.Common.{◌-◌, ◌≤◌, ◌^◌}
use Rattle.bson_program.specs.Ends.{source_change, sink_change}
use Rattle.bson_streaming.proofs.UnderWay.{IsUnderWay}
use Rattle.bson_streaming.proofs.streaming.answer_all.Given as goal

-- Of the loop's fields the first is what was answered so far; no count fell.
abbrev pub invariant-loop-bytes : goal.invariant-loop-bytes
invariant-loop-bytes g l = record {
  way : IsUnderWay (g.J.Job.gives) l.initial.job l.job (source_change g.I.Source.left g.I.Source.faults l.initial.input l.input) (sink_change g.O.Sink.written g.O.Sink.room g.O.Sink.faults l.initial.out l.out)
      (sink_change g.E.Sink.written g.E.Sink.room g.E.Sink.faults l.initial.err l.err) l.due.bytes l.place l.number l.refused;
  input_later : g.I.Source.faults l.initial.input ≤ g.I.Source.faults l.input;
  out_later : g.O.Sink.faults l.initial.out ≤ g.O.Sink.faults l.out;
  err_later : g.E.Sink.faults l.initial.err ≤ g.E.Sink.faults l.err;
}

abbrev pub decreases-loop-bytes : goal.decreases-loop-bytes
decreases-loop-bytes g l = 2 ^ 64 - l.place
