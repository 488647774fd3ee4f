use Rattle.std.proofs.Common.{◌≡◌, ◌∙◌, ap, subst, arith}
use Rattle.std.proofs.lemmas.Str.{is_utf8-from_IsUtf8, IsUtf8-had}
use Rattle.bson_shape.specs.Levels.{deepest_part}
use Rattle.bson_shape.specs.Makers.{AreParts}
use Rattle.bson_shape.specs.ShapeView.{parts_of}
use Rattle.bson_shape.proofs.shape.Shape.tuple_struct.Goals as goal

pub invariant_of-result : goal.invariant_of-result
invariant_of-result c =
    let ps = parts_of c.args.items.items in
    let same = ap parts_of c.deref.ensures.value in
    let count : c.deepest_part-inner_levels.result ≡ deepest_part ps = c.deepest_part-inner_levels.ensures.levels ∙ ap deepest_part same in
    (omega arith, (is_utf8-from_IsUtf8 _ (IsUtf8-had _ c.args.name.ok), omega arith, subst AreParts same c.deepest_part-inner_levels.ensures.shapes))
