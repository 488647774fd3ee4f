use Rattle.std.proofs.Common.{IfOk, ap, subst}
use Rattle.bson_datum.specs.Borrowed.{IsOwned}
use Rattle.bson_values.specs.ErrorView.{read_fault, read_failure}
use Rattle.bson_values.specs.Stop.{stop_view}
use Rattle.bson_datum.specs.View.{view}
use Rattle.bson_laws.specs.Reads.{answered}
use Rattle.bson_met.specs.Gives.{Reaches}
use Rattle.bson_de_raw.proofs.Documents.{placed_as}
use Rattle.bson_de_tree.proofs.reading.with_path.Goals as goal

pub returns-in-Ok : goal.returns-in-Ok
returns-in-Ok c = record {
  exact = λ expected h. ap answered (subst (λ r. Reaches view r expected) c.in-Ok.is h);
  owned = λ h. subst (λ r. IfOk r IsOwned) c.in-Ok.is h;
}

pub returns-in-Err : goal.returns-in-Err
returns-in-Err c = record {
  exact = λ expected h. placed_as (stop_view read_fault c.in-Err.stop) (read_failure c.from_stop.result) expected c.from_stop.ensures.placed (subst (λ r. Reaches view r expected) c.in-Err.is h);
  owned = λ h. tt;
}
