use Rattle.bson_ser_parts.proofs.Paired.{refuses_name}
use Rattle.bson_ser_parts.proofs.pair.begin_variant.Goals as goal

pub returns-in-Err-clause-refused : goal.returns-in-Err-clause-refused
returns-in-Err-clause-refused g c = refuses_name c.args.name.now c.in-Err.halt _ c.in-Err.ensures.refused c.take_back.ensures.placed
