use Rattle.std.proofs.Common.{◌+◌, ◌-◌, ◌++◌, ap, sym, ◌∙◌, append_assoc}
use Rattle.std.specs.Fmt.{decimal}
use Rattle.bson_kinds.specs.Text.{Bytes}
use Rattle.bson_base.specs.Tree.{document, element, enc, array_elements}
use Rattle.bson_kinds.specs.declared.element_type.ElementType.TheVariants.{EmbeddedDocument}
use Rattle.bson_recast_run.specs.Made.{row_fields, rows_from}
use Rattle.bson_recast_run.proofs.NextRow.{next_row}
use Rattle.bson_recast_run.proofs.made_rows.rows_made.Goals as goal

pub loop-number-preserved : goal.loop-number-preserved
loop-number-preserved c =
    let i = c.loop-number.number in
    let before = c.loop-number.out.items in
    let added = element EmbeddedDocument (decimal i) (enc (document (row_fields i))) in
    let rest = array_elements (i + 1) (rows_from row_fields (i + 1) (c.args.count - (i + 1))) in
    ap (λ (b : Bytes). b ++ rest) c.in_ok-put_row.ensures ∙ append_assoc before added rest ∙ ap (λ (b : Bytes). before ++ b) (sym (next_row i c.args.count c.loop-number-test.true)) ∙ c.loop-number.invariant
