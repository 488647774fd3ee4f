use Rattle.std.proofs.Common.{◌≡◌}
use Rattle.bson_base.specs.BsonView.{pairs_of}
use Rattle.bson_json_laws.specs.WrapperKeys.{first_wrapper}
use Rattle.bson_json_read.proofs.wrapped.first_wrapper.Given as goal

abbrev pub invariant-loop-key : goal.invariant-loop-key
invariant-loop-key l = first_wrapper l.pairs ≡ first_wrapper (pairs_of l.document)
