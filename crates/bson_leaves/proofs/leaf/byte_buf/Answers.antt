use Rattle.std.proofs.Common.{rules}
use Rattle.bson_kinds.specs.Piece.{made}
use Rattle.bson_values.specs.Value as value
use Rattle.bson_laws.specs.Judged.{judged}
use Rattle.bson_laws.specs.Taken.{buffer_of}
use Rattle.bson_texts.proofs.Mapped.{taken, not_taken}
use Rattle.bson_leaves.proofs.leaf.byte_buf.Goals as goal

pub returns : goal.returns
returns c = record { exact = taken (λ bs. value.bytes (made bs)) (judged c.args.value.now) (buffer_of) _ c.in_ok-bytes.ensures }

pub returns-in_err-bytes : goal.returns-in_err-bytes
returns-in_err-bytes c = let here = not_taken (λ bs. value.bytes (made bs)) (judged c.args.value.now) (buffer_of) c.in_err-bytes.field-0.0 c.in_err-bytes.ensures in record { exact = search (rules, here) }
