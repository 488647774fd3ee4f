use Rattle.std.proofs.Common.{◌++◌, ap, ◌∙◌}
use Rattle.bson_kinds.specs.Text.{Bytes}
use Rattle.bson_recast_run.proofs.RowBytes.{row_put}
use Rattle.bson_recast_run.proofs.made_rows.put_row.Goals as goal

pub returns : goal.returns
returns c =
    row_put c.append-5.result c.args.number c.as_bytes-digits.result.now c.args.out.now.items c.append.new.out.items c.append-2.new.out.items c.append-3.new.out.items c.append-4.new.out.items c.append-5.new.out.items
    (c.as_bytes-digits.ensures.value ∙ c.format.ensures.text) c.in_ok-append.ensures c.in_ok-append-2.ensures (c.in_ok-append-3.ensures ∙ ap (λ (b : Bytes). c.append-2.new.out.items ++ b) c.between_digits.ensures)
    c.in_ok-append-4.ensures c.append-5.ensures
