-- Sources and sinks in memory: which of their calls fail, and how much the others move.
-- Calls are numbered from 1. A call with an empty buffer or piece has no number. Source: std's `Read` and `Write`.
use Rattle.std.specs.Prelude.{◌≡◌, ℕ, ◌+◌, ◌-◌, ◌<◌, min, max, List, ◌++◌, take, drop, Contains, slice_get, unwrap_or}
use Rattle.bson_io.specs.Ends.{last_count}

-- a source: its bytes not yet read, its two lists, how many calls were numbered, how many failed
pub record SourceInMemory : Type 0 where
  pub left : List ℕ
  pub fails : List ℕ
  pub most : List ℕ
  pub calls : ℕ
  pub faults : ℕ

-- a sink: its bytes, how many more it takes, its two lists, how many calls were numbered, how many failed
pub record SinkInMemory : Type 0 where
  pub written : List ℕ
  pub room : ℕ
  pub fails : List ℕ
  pub most : List ℕ
  pub calls : ℕ
  pub faults : ℕ

-- how many calls were numbered after one more: the numbers end at the last u64
abbrev pub next_calls : ℕ → ℕ
next_calls calls = min (calls + 1) last_count

-- after so many numbered calls, the next one has a number that is in the list
abbrev pub IsListed : List ℕ → ℕ → Type 0
IsListed fails calls = (calls < last_count) × Contains fails (calls + 1)

-- after so many numbered calls, how many of the bytes that fit the next one moves: as many as its
-- entry says, where 0 counts as 1, and all of them past the list's end
abbrev pub moved_of : List ℕ → ℕ → ℕ → ℕ
moved_of most calls fits = min fits (max (unwrap_or (slice_get most calls) fits) 1)

-- a numbered read took so many bytes off the front of what was left
abbrev pub ReadMoved : SourceInMemory → SourceInMemory → ℕ → Type 0
ReadMoved old new n = new ≡ record old { left = drop n old.left; calls = next_calls old.calls }

-- a numbered read failed, which is counted
abbrev pub ReadFailed : SourceInMemory → SourceInMemory → Type 0
ReadFailed old new = new ≡ record old { calls = next_calls old.calls; faults = old.faults + 1 }

-- a numbered write took so many bytes of the front of the piece
abbrev pub WriteMoved : SinkInMemory → SinkInMemory → List ℕ → ℕ → Type 0
WriteMoved old new piece n = new ≡ record old { written = old.written ++ take n piece; room = old.room - n; calls = next_calls old.calls }

-- a numbered write failed, which is counted
abbrev pub WriteFailed : SinkInMemory → SinkInMemory → Type 0
WriteFailed old new = new ≡ record old { calls = next_calls old.calls; faults = min (old.faults + 1) last_count }
