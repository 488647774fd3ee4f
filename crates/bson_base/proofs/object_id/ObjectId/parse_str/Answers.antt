use Rattle.bson_base.proofs.ParsedTexts.{digits_taken}
use Rattle.bson_base.proofs.object_id.ObjectId.parse_str.Goals as goal

pub returns-in-Ok-clause-taken : goal.returns-in-Ok-clause-taken
returns-in-Ok-clause-taken c = rw c.in-Ok.is at (digits_taken c.args.text.now 12 c.from_hex.result c.from_hex.ensures)

pub returns-in-Err-clause-taken : goal.returns-in-Err-clause-taken
returns-in-Err-clause-taken c = rw c.in-Err.is at (digits_taken c.args.text.now 12 c.from_hex.result c.from_hex.ensures)
