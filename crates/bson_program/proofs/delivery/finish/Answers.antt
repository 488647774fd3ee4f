use Rattle.std.proofs.Common.{refl, subst, inr}
use Rattle.bson_program.specs.Ends.{sink_change}
use Rattle.bson_program.specs.Run.{AreCut}
use Rattle.bson_program.proofs.delivery.finish.Goals as goal

pub returns-clause-finished : goal.returns-clause-finished
returns-clause-finished g c =
    let out = sink_change g.O.Sink.written g.O.Sink.room g.O.Sink.faults c.args.out.now c.deliver.new.out in
    let err = sink_change g.E.Sink.written g.E.Sink.room g.E.Sink.faults c.args.err.now c.deliver.new.err in
    let failed = c.in-Err.ensures in
    let cut : AreCut c.deref.result.now c.as_str.result.now out err =
    record { cause = failed.cause; out_grew = failed.out_part; err_grew = failed.err_part; in_order = failed.order; no_room = λ out_fits err_fits. absurd (let no = failed.room out_fits err_fits in cc) } in
    let of_bytes : AreCut c.in-Ok.answer.bytes.items c.as_str.result.now out err = subst (λ b. AreCut b c.as_str.result.now out err) c.deref.ensures.value cut in
    rw c.in-Ok.is (inr (refl, subst (λ l. AreCut c.in-Ok.answer.bytes.items l out err) c.as_str.ensures.value of_bytes))
