-- What contracts see of a steady sink. Source: this library's own types.
use Rattle.std.specs.Prelude.{ℕ, ◌-◌, List, length, take}
use Rattle.bson_io.specs.declared.steady.SteadySink.{SteadySink}

-- the bytes written so far
abbrev pub steady_written : SteadySink → List ℕ
steady_written s = take s.len s.room.now

-- how many more bytes there is room for
abbrev pub steady_room : SteadySink → ℕ
steady_room s = length s.room.now - s.len

-- how many calls failed so far
abbrev pub steady_faults : SteadySink → ℕ
steady_faults s = s.faults
