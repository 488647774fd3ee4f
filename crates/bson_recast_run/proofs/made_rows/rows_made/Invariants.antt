use Rattle.std.proofs.Common.{◌≡◌, ◌-◌, ◌++◌}
use Rattle.bson_base.specs.Tree.{array_elements}
use Rattle.bson_recast_run.specs.Made.{row_fields, rows_from}
use Rattle.bson_recast_run.proofs.made_rows.rows_made.Given as goal

abbrev pub invariant-loop-number : goal.invariant-loop-number
invariant-loop-number l = l.out.items ++ array_elements l.number (rows_from row_fields l.number (l.count - l.number)) ≡ array_elements 0 (rows_from row_fields 0 l.count)
