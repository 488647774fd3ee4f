use Rattle.bson_program.proofs.Answered.{answered}
use Rattle.bson_infer_run.specs.Rows.{infer_program}
use Rattle.bson_infer_run.proofs.Answered.{settled}
use Rattle.bson_infer_run.proofs.WholeFiles.{writes_shape, writes_documents}
use Rattle.bson_infer_run.proofs.running.run_infer.Goals as goal

pub returns : goal.returns
returns g c =
    let is = answered infer_program settled _ c.prepare-prepared.result c.prepare-prepared.ensures.expected c.finish.ensures.finished c.prepare-prepared.ensures.later c.finish.ensures.out_later c.finish.ensures.err_later in
    record {
      documents = λ ts sound words told small quiet. writes_documents ts _ is sound words told small quiet;
      infers = λ file s words told small found quiet. writes_shape file s _ is words told small found quiet;
      answers = is;
    }
