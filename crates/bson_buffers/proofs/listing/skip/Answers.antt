use Rattle.std.proofs.Common.{◌≡◌, ◌+◌, ◌-◌, suc, ap, arith}
use Rattle.bson_buffers.specs.Prover.Listed.{bytes_from}
use Rattle.bson_buffers.proofs.Skipped.{one_skipped}
use Rattle.bson_buffers.proofs.listing.skip.Goals as goal

pub loop-preserved : goal.loop-preserved
loop-preserved c =
    let file = c.args.file.now in
    let end = c.loop.end in
    let left : c.args.count - c.loop.counter ≡ suc (c.args.count - (c.loop.counter + 1)) = omega (arith, c.loop-test.true) in
    let one = one_skipped file end c.in-Document.length (c.args.count - (c.loop.counter + 1)) c.in-Document.ensures.found in
    omega (arith, c.loop.invariant, ap (bytes_from file end) left, one)
