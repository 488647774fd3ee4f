use Rattle.bson_infer_laws.proofs.Above.{above_trans, absorbs}
use Rattle.bson_infer_laws.proofs.Commutes.{join_itself}
use Rattle.bson_infer_laws.proofs.Joins.{joins}
use Rattle.bson_infer_laws.proofs.Proper.{join_joined}
use Rattle.bson_infer_laws.proofs.law_join.Goals as goal

pub returns : goal.returns
returns c = record { joined = join_joined; above = joins; absorbs = absorbs; itself = join_itself; transitive = above_trans }
