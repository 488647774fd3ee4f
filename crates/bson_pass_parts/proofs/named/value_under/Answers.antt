use Rattle.std.proofs.Common.{refl, sym}
use Rattle.bson_pass_parts.proofs.KnownNames.{named_first}
use Rattle.bson_pass_parts.proofs.named.value_under.Goals as goal

pub returns : goal.returns
returns c =
    let named = c.if-not-is_key.ensures in
    named_first c.args.bytes.now c.args.name.now c.in_ok-kind.kind c.in-Ok.len c.in-len1-up.len_at_least (named.cut refl) (named.text refl) (sym c.in_ok-kind.ensures.kind) (sym c.in-Ok.ensures) c.if-rest-len.false
