use Rattle.std.proofs.Common.{◌∙◌, arith}
use Rattle.bson_io.proofs.Transfers.{written_more, fits_less}
use Rattle.bson_io.specs.declared.ends.Failed.{Failed}
use Rattle.bson_io.proofs.transfer.write_due.Goals as goal

pub loop-at-preserved : goal.loop-at-preserved
loop-at-preserved g c =
    record {
      within = omega (arith, c.in_ok-at.ensures.bound);
      written = written_more _ _ _ c.loop-at.at c.in_ok-at.field-0 c.args.due.now c.loop-at.invariant.written c.in_ok-at.ensures.bytes;
      room = λ fits. fits_less Failed _ _ c.loop-at.at c.in_ok-at.field-0 c.args.due.now (c.loop-at.invariant.room fits) c.in_ok-at.ensures.room;
      kept = c.in_ok-at.ensures.cause.kept ∙ c.loop-at.invariant.kept;
    }
