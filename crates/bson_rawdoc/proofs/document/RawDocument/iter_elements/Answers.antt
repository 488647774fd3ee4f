use Rattle.std.proofs.Common.{◌<◌, ◌^◌, sym, subst}
use Rattle.bson_rawdoc.specs.Next.{count}
use Rattle.bson_rawdoc.proofs.Counts.{count_below}
use Rattle.bson_rawdoc.proofs.document.RawDocument.iter_elements.Goals as goal

pub returns-clause-few : goal.returns-clause-few
returns-clause-few c = subst (λ w. count w < 2 ^ 31) (sym c.over.ensures.walk) (count_below c.args.self.bytes.now c.args.self.enveloped)
