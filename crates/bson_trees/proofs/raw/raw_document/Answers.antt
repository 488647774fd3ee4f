use Rattle.std.proofs.Common.{rules}
use Rattle.bson_values.specs.Value as value
use Rattle.bson_laws.specs.Judged.{judged}
use Rattle.bson_laws.specs.ReadsRaw.{raw_document_of}
use Rattle.bson_texts.proofs.Mapped.{taken, not_taken}
use Rattle.bson_trees.proofs.raw.raw_document.Goals as goal

pub returns : goal.returns
returns c = record { exact = taken value.raw_document (judged c.args.value.now) raw_document_of _ c.in_ok-document.ensures.exact }

pub returns-in_err-document : goal.returns-in_err-document
returns-in_err-document c = let here = not_taken value.raw_document (judged c.args.value.now) raw_document_of c.in_err-document.field-0.0 c.in_err-document.ensures.exact in record { exact = search (rules, here) }
