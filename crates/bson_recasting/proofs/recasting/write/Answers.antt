use Rattle.std.proofs.Common.{Ok, sym, subst}
use Rattle.std.proofs.lemmas.Result.{err_from_is_err_and}
use Rattle.bson_datum.specs.View.{view}
use Rattle.bson_tree_recast.specs.Recast.{recast_read}
use Rattle.bson_recasting.specs.Recasting.{IsAppended}
use Rattle.bson_recasting.proofs.RecastErrors.{write_error}
use Rattle.bson_recasting.proofs.recasting.write.Goals as goal

pub returns-in_err-to_buf : goal.returns-in_err-to_buf
returns-in_err-to_buf c =
    let p = err_from_is_err_and c.from_residual.result c.from_residual.ensures.1 in
    let refused = write_error (view c.args.datum.now) c.in_err-to_buf.field-0.0 p.0 c.in_err-to_buf.ensures.refused p.2 in
    record { exact = subst (λ r. IsAppended (recast_read (Ok (view c.args.datum.now))) c.args.out.now.bytes c.to_buf.new.out.bytes r) (sym p.1) (refused, c.in_err-to_buf.ensures.kept) }
