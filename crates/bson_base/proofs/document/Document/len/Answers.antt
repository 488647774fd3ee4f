use Rattle.std.proofs.Common.{◌∙◌, ap, sym, length}
use Rattle.bson_base.proofs.Documents.{count-pairs, distinct-pairs}
use Rattle.bson_base.proofs.document.Document.len.Goals as goal

pub returns-clause-len : goal.returns-clause-len
returns-clause-len c = ap length c.as_slice.ensures.pairs ∙ sym (count-pairs c.args.self.now.0)

pub returns-clause-distinct : goal.returns-clause-distinct
returns-clause-distinct c = distinct-pairs c.args.self.now.0 c.as_slice.ensures.unique
