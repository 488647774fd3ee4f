-- Why a salvage stops. For the contracts of functions inside this crate and their proofs. Source: this library's own programs.
use Rattle.bson_source.specs.declared.taking.TakeFault.{TakeFault}
use Rattle.bson_source.specs.declared.taking.TakeFault.TheVariants as faults
use Rattle.bson_salvaging.specs.declared.finding.Stop.{Stop}
use Rattle.bson_salvaging.specs.declared.finding.Stop.TheVariants as stops

abbrev pub stop_of : TakeFault → Stop
stop_of faults.Failed = stops.SourceFault
stop_of faults.NoMemory = stops.NoMemory
