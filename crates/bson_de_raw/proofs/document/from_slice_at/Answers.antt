use Rattle.bson_de_raw.proofs.ReadBack.{read_back}
use Rattle.bson_de_raw.proofs.document.from_slice_at.Goals as goal

pub returns-clause-read_back : goal.returns-clause-read_back
returns-clause-read_back c = λ v t plain fits mean sound is.
    read_back c.args.shape.now c.args.bytes.now v t c.read_document.result c.known.ensures.shape plain fits mean sound is c.read_document.ensures.exact
