use Rattle.std.proofs.Common.{arith}
use Rattle.bson_base.proofs.Lengths.{length-text}
use Rattle.bson_ser_stream.proofs.Growth.{Grows-trans}
use Rattle.bson_ser_stream.proofs.Puts.{Grows-refused, out_of_memory, no_room}
use Rattle.bson_ser_stream.proofs.extended.put_db_pointer.Goals as goal

pub returns-in_err-push_all : goal.returns-in_err-push_all
returns-in_err-push_all g c =
    out_of_memory _ _ _ _ _ _ _ (Grows-trans _ _ _ _ _ _ c.in_ok-push_text.ensures.grows (Grows-refused _ _ _ _ c.in_err-push_all.ensures.err)) _ c.from_residual-in_err-push_all.ensures.1
    (λ ok. omega (arith, length-text c.args.namespace.now, c.in_ok-push_text.ensures.ok.spare, no_room _ _ c.in_err-push_all.ensures.free))
