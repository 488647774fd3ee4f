use Rattle.std.proofs.Common.{rules}
use Rattle.bson_values.specs.Value as value
use Rattle.bson_laws.specs.Judged.{judged}
use Rattle.bson_laws.specs.Taken.{bytes_of}
use Rattle.bson_texts.proofs.Mapped.{taken, not_taken}
use Rattle.bson_leaves.proofs.leaf.borrowed_bytes.Goals as goal

pub returns : goal.returns
returns c = record { exact = taken value.bytes (judged c.args.value.now) (bytes_of) _ c.in_ok-bytes.ensures }

pub returns-in_err-bytes : goal.returns-in_err-bytes
returns-in_err-bytes c = let here = not_taken value.bytes (judged c.args.value.now) (bytes_of) c.in_err-bytes.field-0.0 c.in_err-bytes.ensures in record { exact = search (rules, here) }
