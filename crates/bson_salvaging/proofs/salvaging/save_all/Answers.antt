use Rattle.std.proofs.Common.{◌≡◌, ◌<◌, ◌∙◌, ap, sym, arith, length, Err}
use Rattle.bson_salvaging.specs.declared.finding.Stop.TheVariants as stops
use Rattle.bson_salvaging.proofs.Saves.{begun, grown, at_end, at_fault, without_memory, too_long, stretches_too_long, stretch_counts, saved_one, saved_none, stretch_unwritten}
use Rattle.bson_salvaging.proofs.Windows.{over}
use Rattle.bson_salvaging.proofs.salvaging.save_all.Goals as goal

pub loop-window-init : goal.loop-window-init
loop-window-init g c = record { saving = begun _ _ _ _ _ _ _ _ c.new-window.result c.new-window.ensures.bytes c.new-window.ensures.ended; input_later = omega arith; out_later = omega arith; err_later = omega arith }

pub returns-in-Err-Failed-clause-halted : goal.returns-in-Err-Failed-clause-halted
returns-in-Err-Failed-clause-halted g c = at_fault _ _ _ _ _ _ _ _ _ _ c.loop-window.invariant.saving _ _ c.in-Err-Failed.ensures.taken (c.in-Err-Failed.ensures.failed (ap Err c.in-Err-Failed.field-0-is))

pub returns-in-Err-NoMemory-clause-halted : goal.returns-in-Err-NoMemory-clause-halted
returns-in-Err-NoMemory-clause-halted g c = without_memory _ _ _ _ _ _ _ _ _ _ c.loop-window.invariant.saving _ _ c.in-Err-NoMemory.ensures.taken

pub returns-then-bytes-eq0-clause-halted : goal.returns-then-bytes-eq0-clause-halted
returns-then-bytes-eq0-clause-halted g c =
    let w = grown _ _ _ _ _ _ _ _ _ _ c.loop-window.invariant.saving _ _ c.fill.new.self c.in-Ok.ensures.grows (c.in-Ok.ensures.kept (λ e. cc)) in
    let none : length c.fill.new.self.bytes < 1 = omega (arith, c.if-bytes-eq0.true, ap length c.bytes.ensures.bytes) in
    at_end _ _ _ _ _ _ _ _ _ _ w (omega (arith, none)) (over c.fill.new.self 1 c.in-Ok.ensures.enough none)

pub returns-in-Err-SourceFault-clause-halted : goal.returns-in-Err-SourceFault-clause-halted
returns-in-Err-SourceFault-clause-halted g c =
    let w = grown _ _ _ _ _ _ _ _ _ _ c.loop-window.invariant.saving _ _ c.fill.new.self c.in-Ok.ensures.grows (c.in-Ok.ensures.kept (λ e. cc)) in
    at_fault _ _ _ _ _ _ _ _ _ _ w _ _ c.in-Err-SourceFault.ensures.taken (c.in-Err-SourceFault.ensures.failed (ap Err c.in-Err-SourceFault.field-0-is))

pub returns-in-Err-TooLong-clause-halted : goal.returns-in-Err-TooLong-clause-halted
returns-in-Err-TooLong-clause-halted g c =
    let w = grown _ _ _ _ _ _ _ _ _ _ c.loop-window.invariant.saving _ _ c.fill.new.self c.in-Ok.ensures.grows (c.in-Ok.ensures.kept (λ e. cc)) in
    too_long _ _ _ _ _ _ _ _ _ _ w _ _ c.in-Err-TooLong.ensures.taken (c.in-Err-TooLong.ensures.kept (λ e. let clash : Err stops.TooLong ≡ Err stops.SourceFault = ap Err (sym c.in-Err-TooLong.field-0-is) ∙ e in cc))

pub returns-in-Err-NoMemory-next_stretch-clause-halted : goal.returns-in-Err-NoMemory-next_stretch-clause-halted
returns-in-Err-NoMemory-next_stretch-clause-halted g c =
    let w = grown _ _ _ _ _ _ _ _ _ _ c.loop-window.invariant.saving _ _ c.fill.new.self c.in-Ok.ensures.grows (c.in-Ok.ensures.kept (λ e. cc)) in
    without_memory _ _ _ _ _ _ _ _ _ _ w _ _ c.in-Err-NoMemory-next_stretch.ensures.taken

pub returns-in_default-clause-halted : goal.returns-in_default-clause-halted
returns-in_default-clause-halted g c =
    let w = grown _ _ _ _ _ _ _ _ _ _ c.loop-window.invariant.saving _ _ c.fill.new.self c.in-Ok.ensures.grows (c.in-Ok.ensures.kept (λ e. cc)) in
    stretches_too_long _ _ _ _ _ _ _ _ _ _ _ _ _ _ _ _ _ _ _ _ _ w c.in-Ok-next_stretch.stretch c.in-Ok-next_stretch.ensures.step (omega (arith, c.if-bytes-eq0.false, ap length c.bytes.ensures.bytes)) (c.in-Ok-next_stretch.ensures.kept (λ e. cc))

pub returns-in-Err-SinkFault-clause-halted : goal.returns-in-Err-SinkFault-clause-halted
returns-in-Err-SinkFault-clause-halted g c =
    let w = grown _ _ _ _ _ _ _ _ _ _ c.loop-window.invariant.saving _ _ c.fill.new.self c.in-Ok.ensures.grows (c.in-Ok.ensures.kept (λ e. cc)) in
    saved_none _ _ _ _ _ _ _ _ _ _ _ _ _ _ _ _ _ _ _ _ _ w c.in-Ok-next_stretch.stretch c.in-Ok-next_stretch.ensures.step (omega (arith, c.if-bytes-eq0.false, ap length c.bytes.ensures.bytes)) (c.in-Ok-next_stretch.ensures.kept (λ e. cc))
    _ _ _ _ _ _ c.in-Some.next (omega (arith, c.in-Some.ensures)) (rw c.in-Err-SinkFault.field-0-is at c.in-Err-SinkFault.ensures.writes)

pub returns-in-Err-NoMemory-write_stretch-clause-halted : goal.returns-in-Err-NoMemory-write_stretch-clause-halted
returns-in-Err-NoMemory-write_stretch-clause-halted g c =
    let w = grown _ _ _ _ _ _ _ _ _ _ c.loop-window.invariant.saving _ _ c.fill.new.self c.in-Ok.ensures.grows (c.in-Ok.ensures.kept (λ e. cc)) in
    stretch_unwritten _ _ _ _ _ _ _ _ _ _ _ _ _ _ _ _ _ _ _ _ _ w c.in-Ok-next_stretch.stretch c.in-Ok-next_stretch.ensures.step (omega (arith, c.if-bytes-eq0.false, ap length c.bytes.ensures.bytes)) (c.in-Ok-next_stretch.ensures.kept (λ e. cc))
    _ _ _ _ _ _ c.in-Some.next (omega (arith, c.in-Some.ensures)) (rw c.in-Err-NoMemory-write_stretch.field-0-is at c.in-Err-NoMemory-write_stretch.ensures.writes)

pub loop-window-smaller : goal.loop-window-smaller
loop-window-smaller g c =
    let w = grown _ _ _ _ _ _ _ _ _ _ c.loop-window.invariant.saving _ _ c.fill.new.self c.in-Ok.ensures.grows (c.in-Ok.ensures.kept (λ e. cc)) in
    omega (arith, c.in-Some.ensures, stretch_counts _ _ _ _ _ _ _ _ _ _ _ _ _ _ _ _ _ _ _ _ _ w c.in-Ok-next_stretch.stretch c.in-Ok-next_stretch.ensures.step (omega (arith, c.if-bytes-eq0.false, ap length c.bytes.ensures.bytes)) (c.in-Ok-next_stretch.ensures.kept (λ e. cc)))

pub loop-window-preserved : goal.loop-window-preserved
loop-window-preserved g c =
    let w = grown _ _ _ _ _ _ _ _ _ _ c.loop-window.invariant.saving _ _ c.fill.new.self c.in-Ok.ensures.grows (c.in-Ok.ensures.kept (λ e. cc)) in
    record {
      saving = saved_one _ _ _ _ _ _ _ _ _ _ _ _ _ _ _ _ _ _ _ _ _ w c.in-Ok-next_stretch.stretch c.in-Ok-next_stretch.ensures.step (omega (arith, c.if-bytes-eq0.false, ap length c.bytes.ensures.bytes)) (c.in-Ok-next_stretch.ensures.kept (λ e. cc))
          _ _ _ _ _ _ c.in-Some.next (omega (arith, c.in-Some.ensures)) c.write_stretch.new.window c.in-Ok-write_stretch.ensures.writes;
      input_later = omega (arith, c.loop-window.invariant.input_later, c.fill.ensures.later, c.next_stretch.ensures.later);
      out_later = omega (arith, c.loop-window.invariant.out_later, c.write_stretch.ensures.out_later);
      err_later = omega (arith, c.loop-window.invariant.err_later, c.write_stretch.ensures.err_later);
    }
