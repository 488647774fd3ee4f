use Rattle.std.proofs.Common.{sym, subst, Option, ◌∙◌}
use Rattle.std.specs.Prelude.{IfSome}
use Rattle.std.proofs.lemmas.Str.{is_utf8-from_IsUtf8}
use Rattle.bson_base.specs.Tree.{Tree}
use Rattle.bson_shape.specs.ShapeView.{variants_of}
use Rattle.bson_pass_parts.specs.Put.{IsPut}
use Rattle.bson_pass_parts.proofs.Forms.{names_is, unit_read}
use Rattle.bson_pass_parts.proofs.variant.recast_variant.Goals as goal

pub returns : goal.returns
returns c = λ reader.
    let unit = names_is c.args.variants.now c.args.name.now (sym c.names_unit.ensures ∙ c.if-not-names_unit.false) in
    subst (λ (o : Option Tree). IfSome c.put_text.result (IsPut o c.args.made.now.items c.put_text.new.made.items)) (sym (unit_read reader (variants_of c.args.variants.now) c.args.name.now c.args.levels (is_utf8-from_IsUtf8 _ c.utf8.name) unit)) c.put_text.ensures
