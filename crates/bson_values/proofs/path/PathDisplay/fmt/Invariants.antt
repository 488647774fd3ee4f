use Rattle.std.proofs.Common.{take}
use Rattle.std.specs.Fmt.{HasWritten, IsPlainFormatter}
use Rattle.bson_values.proofs.SegmentTexts.{segments_text}
use Rattle.bson_values.proofs.path.PathDisplay.fmt.Given as goal

abbrev pub invariant-loop-i : goal.invariant-loop-i
invariant-loop-i g l =
    IsPlainFormatter l.initial.f → HasWritten g.W.Write.write_str_gives l.initial.f (segments_text 0 (take l.i l.self.segments.items)) l.f
