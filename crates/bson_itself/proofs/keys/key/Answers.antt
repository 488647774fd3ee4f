use Rattle.std.proofs.Common.{sym, subst, ◌∙◌}
use Rattle.std.specs.Str.{IsUtf8}
use Rattle.std.proofs.lemmas.Str.{is_utf8-from_IsUtf8}
use Rattle.bson_itself.proofs.Left.{key_is}
use Rattle.bson_itself.proofs.keys.key.Goals as goal

pub from_utf8_unchecked-name-requires : goal.from_utf8_unchecked-name-requires
from_utf8_unchecked-name-requires c = subst IsUtf8 (sym c.split_at.ensures.front) c.in-Ok.ensures.utf8

pub returns : goal.returns
returns c =
    key_is c.args.bytes.now c.in-Ok.len c.from_utf8_unchecked-name.result.now c.split_at.result.1.now c.in-Ok.ensures.within c.in-Ok.ensures.cut (is_utf8-from_IsUtf8 _ c.in-Ok.ensures.utf8)
    (c.from_utf8_unchecked-name.ensures ∙ c.split_at.ensures.front) c.split_at.ensures.back
