use Rattle.std.proofs.Common.{sym, ◌∙◌}
use Rattle.std.proofs.lemmas.Bool.{eqb-true}
use Rattle.bson_pass_parts.proofs.KeptLeaves.{uuid_is}
use Rattle.bson_pass_parts.proofs.kept.is_uuid.Goals as goal

pub returns-then-uint32_in-eq16-clause-uuid : goal.returns-then-uint32_in-eq16-clause-uuid
returns-then-uint32_in-eq16-clause-uuid c = λ h. uuid_is c.args.bytes.now c.requires.bytes c.if-bytes-ne21.false (sym c.uint32_in.ensures ∙ c.if-uint32_in-eq16.true) (eqb-true _ _ h)
