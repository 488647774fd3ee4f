use Rattle.bson_laws.proofs.DatumSpelled.{tree_spelled, datum_meant, uuid_spelled}
use Rattle.bson_laws.proofs.DatumWritten.{written_sorted, written_fits, scope_written}
use Rattle.bson_laws.proofs.law_datum_spells.Goals as goal

pub returns : goal.returns
returns c = record { spells = tree_spelled; sorted = written_sorted; fits = written_fits; scope = scope_written; means = datum_meant; uuid = uuid_spelled }
