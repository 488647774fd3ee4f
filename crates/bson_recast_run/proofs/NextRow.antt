-- The rows from a number on are its row and those from the next number on.
use Rattle.std.proofs.Common.{◌≡◌, ℕ, suc, ◌+◌, ◌-◌, ◌<◌, ◌++◌, ap, ◌∙◌, arith}
use Rattle.std.specs.Fmt.{decimal}
use Rattle.bson_base.specs.Tree.{document, element, enc, array_elements}
use Rattle.bson_kinds.specs.declared.element_type.ElementType.TheVariants.{EmbeddedDocument}
use Rattle.bson_recast_run.specs.Made.{row_fields, rows_from}

pub next_row : (number count : ℕ) → number < count
    → array_elements number (rows_from row_fields number (count - number)) ≡ element EmbeddedDocument (decimal number) (enc (document (row_fields number))) ++ array_elements (number + 1) (rows_from row_fields (number + 1) (count - (number + 1)))
next_row number count below =
    let left : count - number ≡ suc (count - (number + 1)) = omega (arith, below) in
    let more : suc number ≡ number + 1 = omega arith in
    ap (λ k. array_elements number (rows_from row_fields number k)) left
    ∙ ap (λ n. element EmbeddedDocument (decimal number) (enc (document (row_fields number))) ++ array_elements n (rows_from row_fields n (count - (number + 1)))) more
