-- The number that the program ends with. Source: this library's own programs.
use Rattle.std.specs.Prelude.{ℕ}
use Rattle.bson_infer_run.specs.declared.status.InferStatus.{InferStatus}
use Rattle.bson_infer_run.specs.declared.status.InferStatus.TheVariants.{Done, DocumentRefused, Broken, Usage, SourceFault, SinkFault, NoMemory}

abbrev pub number_of : InferStatus → ℕ
number_of Done = 0
number_of DocumentRefused = 1
number_of Broken = 2
number_of Usage = 3
number_of SourceFault = 4
number_of SinkFault = 5
number_of NoMemory = 6
