use Rattle.bson_rawdoc.specs.Cut.{cut}
use Rattle.bson_infer_run.proofs.Gatherings.{none_left, gathered_shape}
use Rattle.bson_infer_run.proofs.file.infer_file.Goals as goal

pub shape_of-requires : goal.shape_of-requires
shape_of-requires c =
    let g = c.in_ok-gathered.gathered in gathered_shape (cut c.args.file.now).pieces g c.in_ok-gathered.ensures (none_left g.unsound (λ n e. c.in_default-unsound.not-Some n e))
