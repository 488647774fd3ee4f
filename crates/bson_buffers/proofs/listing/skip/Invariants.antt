use Rattle.std.proofs.Common.{◌≡◌, ◌+◌, ◌-◌}
use Rattle.bson_buffers.specs.Prover.Listed.{bytes_from}
use Rattle.bson_buffers.proofs.listing.skip.Given as goal

abbrev pub invariant-loop : goal.invariant-loop
invariant-loop l = l.end + bytes_from l.file l.end (l.fn.count - l.counter) ≡ l.fn.place + bytes_from l.file l.fn.place l.fn.count
