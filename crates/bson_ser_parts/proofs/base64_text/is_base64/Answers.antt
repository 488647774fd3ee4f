use Rattle.std.proofs.Common.{sym, ◌∙◌}
use Rattle.std.proofs.lemmas.List.{take_rest}
use Rattle.bson_ser_parts.proofs.Base64Groups.{judged_step, judged_short, is_three, not_three}
use Rattle.bson_ser_parts.proofs.base64_text.is_base64.Goals as goal

pub returns-then-ne : goal.returns-then-ne
returns-then-ne c =
    sym (rw c.as_bytes-rest.ensures.value at (judged_short _ _ c.groups.invariant c.groups-test.true (λ three. not_three c.group_length.result c.if-ne.ensures (sym c.group_length.ensures ∙ three))))

pub groups-preserved : goal.groups-preserved
groups-preserved c =
    rw take_rest (judged_step _ _ c.groups.invariant c.groups-test.true (c.group_length.ensures ∙ is_three c.group_length.result c.if-ne.ensures))
