use Rattle.std.proofs.Common.{◌≡◌, drop}
use Rattle.bson_pass_parts.specs.Free.{is_free}
use Rattle.bson_pass_parts.proofs.found.is_free.Given as goal

abbrev pub invariant-loop-field : goal.invariant-loop-field
invariant-loop-field l = is_free l.key l.fields ≡ is_free l.key (drop l.field-index l.fields)
