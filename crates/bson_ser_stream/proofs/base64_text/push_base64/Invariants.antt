use Rattle.std.proofs.Common.{length}
use Rattle.bson_ser_stream.proofs.Base64Groups.{IsRead}
use Rattle.bson_ser_stream.proofs.base64_text.push_base64.Given as goal

abbrev pub invariant-groups : goal.invariant-groups
invariant-groups g l = IsRead l.initial.rest l.rest l.initial.out l.out l.initial.steps l.steps

abbrev pub decreases-groups : goal.decreases-groups
decreases-groups g l = length l.rest
