use Rattle.std.proofs.Common.{ap, ◌∙◌, length, Some, arith}
use Rattle.std.specs.Prelude.{option_map}
use Rattle.std.proofs.lemmas.List.{length-take-le}
use Rattle.bson_base.proofs.Base64Texts.{base64_some, base64_none}
use Rattle.bson_ser_parts.proofs.base64_text.group_length.Goals as goal

pub returns-in-Ok : goal.returns-in-Ok
returns-in-Ok c =
    ap (option_map length) (base64_some _ _ c.in-Ok.ensures.ok.0)
    ∙ ap Some (length-take-le c.in-Ok.length c.decode_slice_unchecked.new.output (omega (arith, c.in-Ok.ensures.ok.2, c.decode_slice_unchecked.auto.output)))

pub returns-in-Err : goal.returns-in-Err
returns-in-Err c = ap (option_map length) (base64_none _ _ c.in-Err.ensures.err)
