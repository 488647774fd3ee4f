-- The end of a stream. For the contracts of functions inside this crate and their proofs. Source: this library's own programs.
use Rattle.std.specs.Prelude.{◌≡◌, ℕ, true, false, []}
use Rattle.bson_kinds.specs.Text.{Bytes, Utf8}
use Rattle.bson_program.specs.Ends.{SinkChange}
use Rattle.bson_program.specs.Run.{AreWritten}
use Rattle.bson_streaming.specs.Streamed.{last_line}
use Rattle.bson_streaming.specs.Turn.{Breaks}
use Rattle.bson_streaming.specs.declared.closing.Ending.{Ending}
use Rattle.bson_streaming.specs.declared.closing.Ending.TheVariants as endings
use Rattle.bson_streaming.specs.declared.closing.Halt.{Halt}
use Rattle.bson_streaming.specs.declared.closing.Halt.TheVariants as halts

abbrev pub ending_of : Halt → Ending
ending_of (halts.End false) = endings.Done
ending_of (halts.End true) = endings.SomeRefused
ending_of (halts.Broken place) = endings.Broken
ending_of halts.TooLong = endings.TooLong
ending_of halts.SourceFault = endings.SourceFault
ending_of halts.NoMemory = endings.NoMemory

-- the place that the last line tells
abbrev pub place_of : Halt → (came : ℕ) → ℕ
place_of (halts.Broken place) came = place
place_of h came = came

abbrev pub line_of : Halt → Utf8
line_of h = last_line (ending_of h) (place_of h 0)

-- What was due was written, and then the last line; or a call on a sink failed, or memory ran out before the last line.
abbrev pub IsClosed : (line : Utf8) → (ending : Ending) → (out err : SinkChange) → (due : Bytes) → Ending → Type 0
IsClosed line ending out err due endings.SinkFault = Breaks out err due line
IsClosed line ending out err due endings.NoMemory = AreWritten due [] out err
IsClosed line ending out err due e = (e ≡ ending) × AreWritten due line out err
