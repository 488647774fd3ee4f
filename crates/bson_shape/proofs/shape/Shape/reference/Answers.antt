use Rattle.std.proofs.Common.{refl}
use Rattle.std.proofs.lemmas.Str.{is_utf8-from_IsUtf8, IsUtf8-had}
use Rattle.bson_shape.proofs.shape.Shape.reference.Goals as goal

pub invariant_of-result : goal.invariant_of-result
invariant_of-result c = (refl, is_utf8-from_IsUtf8 _ (IsUtf8-had _ c.args.name.ok))
