use Rattle.std.proofs.Common.{arith, ap, Err}
use Rattle.bson_streaming.proofs.UnderWay.{begun, as_cut, flushed, unflushed, at_end, at_break, at_fault, without_memory, too_long, turned, turn_broken, turn_stayed}
use Rattle.bson_streaming.proofs.streaming.answer_all.Goals as goal

pub loop-bytes-init : goal.loop-bytes-init
loop-bytes-init g c = record { way = begun _ _ _ _ _ _ _ _ _ _ _ c.requires; input_later = omega arith; out_later = omega arith; err_later = omega arith }

pub returns-in_err-flush_if-clause-halted : goal.returns-in_err-flush_if-clause-halted
returns-in_err-flush_if-clause-halted g c =
    as_cut _ _ _ _ _ _ _ c.from_residual.result c.from_residual.ensures.0
    (unflushed _ _ _ _ _ _ _ _ _ _ _ _ _ _ _ _ _ _ _ _ _ c.loop-bytes.invariant.way _ _ _ c.in_err-flush_if.ensures.flushed)

pub returns-in-Ok-End-clause-halted : goal.returns-in-Ok-End-clause-halted
returns-in-Ok-End-clause-halted g c =
    let w = flushed _ _ _ _ _ _ _ _ _ _ _ _ _ _ _ _ _ _ _ _ _ c.loop-bytes.invariant.way _ _ _ _ c.in_ok-flush_if.ensures.flushed in
    let n = rw c.in-Ok-End.field-0-is at c.in-Ok-End.ensures.next in
    at_end _ _ _ _ _ _ _ _ _ _ _ _ _ _ _ _ _ _ _ _ _ w _ _ c.next_document.new.bytes.items n (c.in-Ok-End.ensures.kept (λ e. cc))

pub returns-in-Ok-Broken-clause-halted : goal.returns-in-Ok-Broken-clause-halted
returns-in-Ok-Broken-clause-halted g c =
    let w = flushed _ _ _ _ _ _ _ _ _ _ _ _ _ _ _ _ _ _ _ _ _ c.loop-bytes.invariant.way _ _ _ _ c.in_ok-flush_if.ensures.flushed in
    let n = rw c.in-Ok-Broken.field-0-is at c.in-Ok-Broken.ensures.next in
    at_break _ _ _ _ _ _ _ _ _ _ _ _ _ _ _ _ _ _ _ _ _ w _ _ c.next_document.new.bytes.items n (c.in-Ok-Broken.ensures.kept (λ e. cc))

pub returns-in-Err-Failed-clause-halted : goal.returns-in-Err-Failed-clause-halted
returns-in-Err-Failed-clause-halted g c =
    let w = flushed _ _ _ _ _ _ _ _ _ _ _ _ _ _ _ _ _ _ _ _ _ c.loop-bytes.invariant.way _ _ _ _ c.in_ok-flush_if.ensures.flushed in
    at_fault _ _ _ _ _ _ _ _ _ _ _ _ _ _ _ _ _ _ _ _ _ w _ _ c.in-Err-Failed.ensures.taken (c.in-Err-Failed.ensures.failed (ap Err c.in-Err-Failed.field-0-is))

pub returns-in-Err-NoMemory-clause-halted : goal.returns-in-Err-NoMemory-clause-halted
returns-in-Err-NoMemory-clause-halted g c =
    let w = flushed _ _ _ _ _ _ _ _ _ _ _ _ _ _ _ _ _ _ _ _ _ c.loop-bytes.invariant.way _ _ _ _ c.in_ok-flush_if.ensures.flushed in
    without_memory _ _ _ _ _ _ _ _ _ _ _ _ _ _ _ _ _ _ _ _ _ w _ _ _ c.in-Err-NoMemory.ensures.taken

pub returns-in_default-clause-halted : goal.returns-in_default-clause-halted
returns-in_default-clause-halted g c =
    let w = flushed _ _ _ _ _ _ _ _ _ _ _ _ _ _ _ _ _ _ _ _ _ c.loop-bytes.invariant.way _ _ _ _ c.in_ok-flush_if.ensures.flushed in
    let n = rw c.in-Ok-Document.field-0-is at c.in-Ok-Document.ensures.next in
    too_long _ _ _ _ _ _ _ _ _ _ _ _ _ _ _ _ _ _ _ _ _ w _ _ c.next_document.new.bytes.items n (c.in-Ok-Document.ensures.kept (λ e. cc)) (omega (arith, c.len.ensures, c.in_default.ensures))

pub returns-in-Err-SinkFault-clause-halted : goal.returns-in-Err-SinkFault-clause-halted
returns-in-Err-SinkFault-clause-halted g c =
    let w = flushed _ _ _ _ _ _ _ _ _ _ _ _ _ _ _ _ _ _ _ _ _ c.loop-bytes.invariant.way _ _ _ _ c.in_ok-flush_if.ensures.flushed in
    let n = rw c.in-Ok-Document.field-0-is at c.in-Ok-Document.ensures.next in
    turn_broken _ _ _ _ _ _ _ _ _ _ _ _ _ _ _ _ _ _ _ _ _ w _ _ c.next_document.new.bytes.items n (c.in-Ok-Document.ensures.kept (λ e. cc)) _ _ _ _ _ _ _
    (rw (c.in-Err-SinkFault.field-0-is, c.deref.ensures.value) at c.in-Err-SinkFault.ensures.turn)

pub returns-in-Err-NoMemory-answer_one-clause-halted : goal.returns-in-Err-NoMemory-answer_one-clause-halted
returns-in-Err-NoMemory-answer_one-clause-halted g c =
    let w = flushed _ _ _ _ _ _ _ _ _ _ _ _ _ _ _ _ _ _ _ _ _ c.loop-bytes.invariant.way _ _ _ _ c.in_ok-flush_if.ensures.flushed in
    let n = rw c.in-Ok-Document.field-0-is at c.in-Ok-Document.ensures.next in
    turn_stayed _ _ _ _ _ _ _ _ _ _ _ _ _ _ _ _ _ _ _ _ _ w _ _ c.next_document.new.bytes.items n (c.in-Ok-Document.ensures.kept (λ e. cc)) c.loop-bytes.job _ _ _ _ _ _ _ _
    (rw c.in-Err-NoMemory-answer_one.field-0-is at c.in-Err-NoMemory-answer_one.ensures.turn)

pub loop-bytes-preserved : goal.loop-bytes-preserved
loop-bytes-preserved g c =
    let w = flushed _ _ _ _ _ _ _ _ _ _ _ _ _ _ _ _ _ _ _ _ _ c.loop-bytes.invariant.way _ _ _ _ c.in_ok-flush_if.ensures.flushed in
    let n = rw c.in-Ok-Document.field-0-is at c.in-Ok-Document.ensures.next in
    record {
      way = turned _ _ _ _ _ _ _ _ _ _ _ _ _ _ _ _ _ _ _ _ _ w _ _ c.next_document.new.bytes.items n (c.in-Ok-Document.ensures.kept (λ e. cc)) _ _ _ _ _ _ _ c.in-Some.next c.in-Ok.was_refused _ (omega (arith, c.len.ensures, c.in-Some.ensures))
          (rw c.deref.ensures.value at c.in-Ok.ensures.turn);
      input_later = omega (arith, c.loop-bytes.invariant.input_later, c.next_document.ensures.later);
      out_later = omega (arith, c.loop-bytes.invariant.out_later, c.flush_if.ensures.later, c.answer_one.ensures.out_later);
      err_later = omega (arith, c.loop-bytes.invariant.err_later, c.answer_one.ensures.err_later);
    }
