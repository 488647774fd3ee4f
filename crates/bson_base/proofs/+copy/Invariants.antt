use Rattle.std.proofs.Common.{◌≡◌, take}
use Rattle.bson_base.specs.BsonView.{trees_of, listed_pairs}
use Rattle.bson_base.proofs.+copy.Given as goal

abbrev pub invariant-bson::copies_of-loop-value : goal.invariant-bson::copies_of-loop-value
invariant-bson::copies_of-loop-value l = trees_of l.copies.items ≡ trees_of (take l.value-index l.values)

abbrev pub invariant-document::Document::try_clone-loop-pair : goal.invariant-document::Document::try_clone-loop-pair
invariant-document::Document::try_clone-loop-pair l = listed_pairs l.pairs ≡ listed_pairs (take l.pair-index l.own)
