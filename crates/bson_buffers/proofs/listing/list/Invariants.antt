use Rattle.std.proofs.Common.{◌≡◌, ◌++◌, length, drop, string_bytes}
use Rattle.bson_buffers.specs.Lists.{offset_in}
use Rattle.bson_buffers.specs.Prover.Listed.{texts_of, records_from}
use Rattle.bson_buffers.proofs.listing.list.Given as goal

abbrev pub invariant-loop-document : goal.invariant-loop-document
invariant-loop-document l = record {
  at : l.offset ≡ offset_in l.file l.number;
  texts : string_bytes l.text ++ texts_of (drop l.document-index l.refused) ≡ texts_of l.refused;
  records : l.refusals.items ++ records_from l.file (length (string_bytes l.text)) (drop l.document-index l.refused) ≡ records_from l.file 0 l.refused;
}
