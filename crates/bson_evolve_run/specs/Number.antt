-- The number that the program ends with. Source: this library's own programs.
use Rattle.std.specs.Prelude.{ℕ}
use Rattle.bson_evolve_run.specs.declared.status.CheckStatus.{CheckStatus}
use Rattle.bson_evolve_run.specs.declared.status.CheckStatus.TheVariants.{Yes, No, Usage, SinkFault, NoMemory}

abbrev pub number_of : CheckStatus → ℕ
number_of Yes = 0
number_of No = 1
number_of Usage = 3
number_of SinkFault = 5
number_of NoMemory = 6
