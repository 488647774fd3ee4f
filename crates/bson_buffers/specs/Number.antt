-- The number of a status. Source: this library's own calls with buffers.
use Rattle.std.specs.Prelude.{ℕ}
use Rattle.bson_buffers.specs.declared.status.Status.{Status}
use Rattle.bson_buffers.specs.declared.status.Status.TheVariants.{Done, SomeRefused, ShapeRefused, ReadRefused, WriteRefused, Broken, End, BufferTooSmall, NoMemory, Different, OldRefused, NewRefused}

abbrev pub number_of : Status → ℕ
number_of Done = 0
number_of SomeRefused = 1
number_of ShapeRefused = 2
number_of ReadRefused = 3
number_of WriteRefused = 4
number_of Broken = 5
number_of End = 6
number_of BufferTooSmall = 7
number_of NoMemory = 8
number_of Different = 9
number_of OldRefused = 10
number_of NewRefused = 11
