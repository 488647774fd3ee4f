use Rattle.std.proofs.Common.{length}
use Rattle.bson_ser_parts.proofs.Base64Groups.{IsJudged}
use Rattle.bson_ser_parts.proofs.base64_text.is_base64.Given as goal

abbrev pub invariant-groups : goal.invariant-groups
invariant-groups l = IsJudged l.initial.rest l.rest

abbrev pub decreases-groups : goal.decreases-groups
decreases-groups l = length l.rest
