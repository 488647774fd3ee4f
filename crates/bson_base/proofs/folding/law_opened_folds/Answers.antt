use Rattle.bson_base.proofs.FoldedBack.{folds, folds_inside_out}
use Rattle.bson_base.proofs.folding.law_opened_folds.Goals as goal

pub returns : goal.returns
returns c = record { folds = folds; inside_out = folds_inside_out }
