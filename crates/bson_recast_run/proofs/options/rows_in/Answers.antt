use Rattle.std.proofs.Common.{sym, ◌∙◌, arith}
use Rattle.bson_recast_run.proofs.RowsAsked.{rows_same, rows_unlike, rows_over, rows_unparsed}
use Rattle.bson_recast_run.proofs.options.rows_in.Goals as goal
use Rattle.bson_recast_run.proofs.options.rows_in.Goals.{else-rows-le-MAX_ROWS-via-then-rows-le-MAX_ROWS+else-eq, else-rows-le-MAX_ROWS-via-else-rows-le-MAX_ROWS}

pub returns-in_default : goal.returns-in_default
returns-in_default c = sym (rows_unparsed c.args.word.now c.parse.result c.in_default.field-0 c.parse.ensures.value.0 c.in_default.is)

pub returns-then-eq : goal.returns-then-eq
returns-then-eq c = sym (rows_same c.args.word.now c.format.result.now c.in-Ok.rows c.if-rows-le-MAX_ROWS.true c.format.ensures.text (sym c.eq.ensures ∙ c.if-eq.true))

pub returns-else-rows-le-MAX_ROWS : goal.returns-else-rows-le-MAX_ROWS
returns-else-rows-le-MAX_ROWS c = elim c.else-rows-le-MAX_ROWS.branch [
  | else-rows-le-MAX_ROWS-via-then-rows-le-MAX_ROWS+else-eq w ↦
      sym (rows_unlike c.args.word.now w.format.result.now c.parse.result c.in-Ok.rows c.parse.ensures.value.0 c.in-Ok.is w.format.ensures.text (sym w.eq.ensures ∙ w.if-eq.false))
  | else-rows-le-MAX_ROWS-via-else-rows-le-MAX_ROWS w ↦ sym (rows_over c.args.word.now c.parse.result c.in-Ok.rows c.parse.ensures.value.0 c.in-Ok.is (omega (arith, w.if-rows-le-MAX_ROWS.false)))
]
