use Rattle.std.proofs.Common.{◌≡◌, drop}
use Rattle.bson_pass_parts.specs.Free.{names_unit}
use Rattle.bson_pass_parts.proofs.variant.names_unit.Given as goal

abbrev pub invariant-loop-variant : goal.invariant-loop-variant
invariant-loop-variant l = names_unit l.name l.variants ≡ names_unit l.name (drop l.variant-index l.variants)
