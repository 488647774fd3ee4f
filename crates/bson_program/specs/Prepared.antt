-- The answer of a run before it is written, and whether it was. Source: this library's own programs.
use Rattle.std.specs.Prelude.{◌≡◌, ◌⊎◌, ℕ, Result, Ok, Err, string_bytes}
use Rattle.std.specs.Global.{Vec}
use Rattle.std.specs.declared.alloc.AllocError.{AllocError}
use Rattle.bson_program.specs.Ends.{SourceChange, SinkChange, ReadAs}
use Rattle.bson_program.specs.Input.{InputEnds, IsUnread}
use Rattle.bson_program.specs.Run.{Expected, AreKept, AreWritten, AreCut}
use Rattle.bson_program.specs.declared.answer.Answer.{Answer}
use Rattle.bson_program.specs.declared.endings.Endings.{Endings}

-- the answer is what must be written
abbrev pub Says : {Status : Type 0} → Expected Status → Answer Status → Type 0
Says IsExpected a = IsExpected a.status a.bytes.items (string_bytes a.lines)

-- the whole input, or the answer where it was not read to its end
abbrev pub IsTaken : {Status : Type 0} → InputEnds Status → SourceChange → Result (Vec ℕ) (Answer Status) → Type 0
IsTaken ends input (Ok bytes) = ReadAs input bytes.items
IsTaken ends input (Err a) = Says (IsUnread ends input) a

-- the answer was written, or a sink failed; or memory ran out before there was one
abbrev pub IsFinished : {Status : Type 0} → Endings Status → Result (Answer Status) AllocError → (out err : SinkChange) → Status → Type 0
IsFinished e (Ok a) out err status =
    ((status ≡ a.status) × AreWritten a.bytes.items (string_bytes a.lines) out err)
    ⊎ ((status ≡ e.sink_fault) × AreCut a.bytes.items (string_bytes a.lines) out err)
IsFinished e (Err x) out err status = (status ≡ e.no_memory) × AreKept out err
