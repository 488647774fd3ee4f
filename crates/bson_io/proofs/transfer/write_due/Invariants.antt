-- The first `at` bytes that are to be written were, and the rest still fits in what room was told; no call has failed.
use Rattle.std.proofs.Common.{◌≡◌, ◌-◌, ◌≤◌, length, take, drop}
use Rattle.std.specs.Io.KnownBytes.{Appends}
use Rattle.bson_io.specs.Ends.{FitsIn}
use Rattle.bson_io.proofs.transfer.write_due.Given as goal

abbrev pub invariant-loop-at : goal.invariant-loop-at
invariant-loop-at g l = record {
  within : l.at ≤ length l.due;
  written : Appends (g.O.Sink.written l.initial.out) (g.O.Sink.written l.out) (take l.at l.due);
  room : FitsIn (g.O.Sink.room l.initial.out) l.due → FitsIn (g.O.Sink.room l.out) (drop l.at l.due);
  kept : g.O.Sink.faults l.out ≡ g.O.Sink.faults l.initial.out;
}

abbrev pub decreases-loop-at : goal.decreases-loop-at
decreases-loop-at g l = length l.due - l.at
