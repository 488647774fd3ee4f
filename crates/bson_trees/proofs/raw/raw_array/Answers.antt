use Rattle.std.proofs.Common.{rules}
use Rattle.bson_values.specs.Value as value
use Rattle.bson_laws.specs.Judged.{judged}
use Rattle.bson_laws.specs.ReadsRaw.{raw_array_of}
use Rattle.bson_texts.proofs.Mapped.{taken, not_taken}
use Rattle.bson_trees.proofs.raw.raw_array.Goals as goal

pub returns : goal.returns
returns c = record { exact = taken value.raw_array (judged c.args.value.now) raw_array_of _ c.in_ok-array.ensures.exact }

pub returns-in_err-array : goal.returns-in_err-array
returns-in_err-array c = let here = not_taken value.raw_array (judged c.args.value.now) raw_array_of c.in_err-array.field-0.0 c.in_err-array.ensures.exact in record { exact = search (rules, here) }
