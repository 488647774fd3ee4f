use Rattle.bson_infer_run.proofs.Documents.{FirstAre}
use Rattle.bson_infer_run.proofs.inferring.first_unsound.Given as goal

abbrev pub invariant-loop-i : goal.invariant-loop-i
invariant-loop-i l = FirstAre l.i l.documents
