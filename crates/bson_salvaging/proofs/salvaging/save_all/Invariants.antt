use Rattle.std.proofs.Common.{◌-◌, ◌≤◌, ◌^◌}
use Rattle.bson_program.specs.Ends.{source_change, sink_change}
use Rattle.bson_salvaging.proofs.Saves.{IsSaving}
use Rattle.bson_salvaging.proofs.salvaging.save_all.Given as goal

-- Of the loop's fields the first is what was written and told so far; no count fell.
abbrev pub invariant-loop-window : goal.invariant-loop-window
invariant-loop-window g l = record {
  saving : IsSaving (source_change g.I.Source.left g.I.Source.faults l.initial.input l.input) (sink_change g.O.Sink.written g.O.Sink.room g.O.Sink.faults l.initial.out l.out)
      (sink_change g.E.Sink.written g.E.Sink.room g.E.Sink.faults l.initial.err l.err) l.window l.place l.looks l.left_out;
  input_later : g.I.Source.faults l.initial.input ≤ g.I.Source.faults l.input;
  out_later : g.O.Sink.faults l.initial.out ≤ g.O.Sink.faults l.out;
  err_later : g.E.Sink.faults l.initial.err ≤ g.E.Sink.faults l.err;
}

abbrev pub decreases-loop-window : goal.decreases-loop-window
decreases-loop-window g l = 2 ^ 64 - l.place
