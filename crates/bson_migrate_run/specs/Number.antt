-- The number that the program ends with. Source: this library's own programs.
use Rattle.std.specs.Prelude.{ℕ}
use Rattle.bson_migrate_run.specs.declared.status.MigrateStatus.{MigrateStatus}
use Rattle.bson_migrate_run.specs.declared.status.MigrateStatus.TheVariants.{Done, SomeRefused, Broken, Usage, SourceFault, SinkFault, NoMemory}

abbrev pub number_of : MigrateStatus → ℕ
number_of Done = 0
number_of SomeRefused = 1
number_of Broken = 2
number_of Usage = 3
number_of SourceFault = 4
number_of SinkFault = 5
number_of NoMemory = 6
