use Rattle.std.proofs.Common.{◌+◌, sym, ap, ◌∙◌, arith}
use Rattle.std.specs.Str.{is_utf8}
use Rattle.bson_itself.proofs.Parts.{text_is}
use Rattle.bson_itself.proofs.values.text_len.Goals as goal

pub returns-clause-text : goal.returns-clause-text
returns-clause-text c =
    let n = c.uint32_in-count.result in
    text_is c.args.bytes.now (n + 4) c.known_bytes.ensures (omega arith) (omega arith) (ap (λ m. m + 4) (sym c.uint32_in-count.ensures)) (sym c.if-not-is_closed.ensures) (ap is_utf8 (sym c.inside.ensures) ∙ sym c.if-not-is_utf8.ensures)
