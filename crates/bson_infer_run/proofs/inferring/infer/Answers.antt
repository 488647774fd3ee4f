use Rattle.std.proofs.Common.{sym, subst}
use Rattle.bson_shape.specs.Makers.{IsShape}
use Rattle.bson_infer_run.specs.Infer.{documents_of}
use Rattle.bson_infer_run.proofs.Documents.{sound_shape}
use Rattle.bson_infer_run.proofs.inferring.infer.Goals as goal

pub shape_of-requires : goal.shape_of-requires
shape_of-requires c = subst IsShape (sym c.in-Ok.ensures) (sound_shape (documents_of c.args.documents.now) c.in_default.ensures)
