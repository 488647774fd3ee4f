-- The number that a program ends with. Source: this library's own programs.
use Rattle.std.specs.Prelude.{ℕ}
use Rattle.bson_recast_run.specs.declared.status.Status.{Status}
use Rattle.bson_recast_run.specs.declared.status.Status.TheVariants.{Done, ReadRefused, WriteRefused, Usage, SourceFault, SinkFault, NoMemory}

abbrev pub number_of : Status → ℕ
number_of Done = 0
number_of ReadRefused = 1
number_of WriteRefused = 2
number_of Usage = 3
number_of SourceFault = 4
number_of SinkFault = 5
number_of NoMemory = 6
