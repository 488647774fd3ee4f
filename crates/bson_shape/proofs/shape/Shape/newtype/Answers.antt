use Rattle.std.proofs.Common.{◌≡◌, sym, ap, subst, ◌∙◌, false, string_bytes, arith}
use Rattle.std.proofs.lemmas.Str.{is_utf8-from_IsUtf8, IsUtf8-had}
use Rattle.bson_shape.specs.Form.{Form}
use Rattle.bson_shape.specs.Levels.{levels}
use Rattle.bson_shape.specs.Makers.{is_reserved_newtype, IsShape}
use Rattle.bson_shape.proofs.shape.Shape.newtype.Goals as goal

pub invariant_of-result : goal.invariant_of-result
invariant_of-result c =
    let name = string_bytes c.args.name in
    let value : Form = c.in_ok-new.field-0.value in
    let same : value ≡ c.args.value = c.in_ok-new.ensures.ok in
    let free : is_reserved_newtype name ≡ false = ap is_reserved_newtype (sym c.as_str.ensures.value) ∙ sym c.is_reserved_newtype.ensures ∙ c.if-is_reserved_newtype.false in
    let count : c.levels-value_levels.result ≡ levels value = c.levels-value_levels.ensures.levels ∙ ap levels (sym same) in
    (omega arith, (record { text = is_utf8-from_IsUtf8 _ (IsUtf8-had _ c.args.name.ok); free = free; few = omega arith }, subst IsShape (sym same) c.levels-value_levels.ensures.shape))
