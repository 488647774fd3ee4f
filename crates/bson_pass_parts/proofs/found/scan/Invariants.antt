use Rattle.std.proofs.Common.{◌≡◌, drop}
use Rattle.bson_pass_parts.specs.Free.{is_free}
use Rattle.bson_pass_parts.proofs.found.scan.Given as goal

abbrev pub invariant-loop-place : goal.invariant-loop-place
invariant-loop-place l = is_free l.key l.fields ≡ is_free l.key (drop l.place l.fields)
