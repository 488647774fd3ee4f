use Rattle.std.proofs.Common.{◌≡◌, drop}
use Rattle.bson_infer_laws.specs.Inferred.{joined_shapes, inferred}
use Rattle.bson_infer_run.specs.Infer.{documents_of, AreSound}
use Rattle.bson_infer_run.proofs.inferring.summary_of.Given as goal

-- what is left, joined with what there is, gives all
abbrev pub invariant-loop-document : goal.invariant-loop-document
invariant-loop-document l = record {
  joined : joined_shapes l.summary (documents_of (drop l.document-index l.documents)) ≡ inferred (documents_of l.documents);
  sound : AreSound (documents_of (drop l.document-index l.documents));
}
