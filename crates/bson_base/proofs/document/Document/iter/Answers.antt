use Rattle.bson_base.proofs.Documents.{distinct-pairs}
use Rattle.bson_base.proofs.document.Document.iter.Goals as goal

pub returns-clause-distinct : goal.returns-clause-distinct
returns-clause-distinct c = distinct-pairs c.args.self.now.0 c.as_slice.ensures.unique
