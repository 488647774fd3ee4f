use Rattle.std.proofs.Common.{◌<◌, ◌∙◌, Ok, ap, sym, arith, pos, codes}
use Rattle.bson_values.specs.Value as values
use Rattle.bson_values.specs.Value.{u8}
use Rattle.bson_laws.specs.Datum.{two, wrapped, nameless}
use Rattle.bson_laws.specs.TreeRaw.{built_value}
use Rattle.bson_base.specs.Tree as trees
use Rattle.bson_kinds.specs.Piece.{made}
use Rattle.bson_raw_parts.proofs.BuiltValues.{made_is, plain_binary, other_binary}
use Rattle.bson_raw_parts.proofs.values.binary.Goals as goal

pub returns-then-subtype-eq0 : goal.returns-then-subtype-eq0
returns-then-subtype-eq0 c = plain_binary c.args.subtype c.args.content.now c.if-subtype-eq0.true ∙ ap Ok (sym c.in_ok-bytes.ensures.datum)

pub returns : goal.returns
returns c =
    let n = c.args.subtype in
    let b = c.args.content.now in
    let above : 0 < n = omega (arith, c.if-subtype-eq0.false) in
    let body = c.in_ok-body.ensures.datum ∙ ap (λ v. nameless made (two made (codes "bytes") v (codes "subType") (values.integer u8 (pos n)))) c.in_ok-bytes.ensures.datum in
    made_is c.wrap.result (built_value (trees.binary n b)) _ (other_binary n b above ∙ ap (λ v. Ok (wrapped made (codes "$binary") v)) (sym body)) c.wrap.ensures.datum
