use Rattle.std.proofs.Common.{subst, sym, rules}
use Rattle.bson_migrate_run.specs.Step.{IsUnderWay}
use Rattle.bson_migrate_run.proofs.Listing.{stepped, ended_whole, room}
use Rattle.bson_migrate_run.proofs.migrating.migrate_each.Goals as goal

pub overflow_add-number : goal.overflow_add-number
overflow_add-number c =
    let step = rw c.in-Ok.is at c.in-Some.ensures.steps in
    let fits = room c.args.shape.now c.args.file.now c.loop-piece.piece-iterator c.next.new.self c.in-Ok.bytes.now c.loop-piece.number c.loop-piece.out.bytes c.loop-piece.refused.items step c.loop-piece.invariant.2 in
    search rules

pub loop-piece-preserved : goal.loop-piece-preserved
loop-piece-preserved c =
    let step = rw c.in-Ok.is at c.in-Some.ensures.steps in (
      tt,
      tt,
      stepped c.args.shape.now c.args.file.now c.loop-piece.piece-iterator c.next.new.self c.in-Ok.bytes.now c.loop-piece.number c.loop-piece.out.bytes c.migrate_one.new.out.bytes
          c.loop-piece.refused.items c.migrate_one.new.refused.items step c.in_ok-migrate_one.ensures c.loop-piece.invariant.2,
    )

pub returns : goal.returns
returns c =
    ended_whole c.args.shape.now c.args.file.now c.loop-piece.piece-iterator c.loop-piece.number _ c.in-None.ensures.steps.0
    (subst (λ o. IsUnderWay c.args.shape.now c.args.file.now c.loop-piece.piece-iterator c.loop-piece.number o c.loop-piece.refused.items) (sym c.into_vec.ensures) c.loop-piece.invariant.2)
