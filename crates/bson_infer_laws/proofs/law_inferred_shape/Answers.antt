use Rattle.bson_infer_laws.proofs.Levels.{inferred_shape, inferred_levels}
use Rattle.bson_infer_laws.proofs.PlainJoin.{inferred_plain}
use Rattle.bson_infer_laws.proofs.law_inferred_shape.Goals as goal

pub returns : goal.returns
returns c = record { shape = inferred_shape; levels = inferred_levels; plain = inferred_plain }
