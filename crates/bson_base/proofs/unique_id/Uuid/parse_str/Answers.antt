use Rattle.bson_base.proofs.ParsedTexts.{no_uuid}
use Rattle.bson_base.proofs.unique_id.Uuid.parse_str.Goals as goal

pub returns-in-Err : goal.returns-in-Err
returns-in-Err c = record { value = no_uuid _ _ _ c.in-Err.is c.try_parse.ensures.ok }
