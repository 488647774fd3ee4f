use Rattle.std.proofs.Common.{◌≡◌, length, map, string_bytes}
use Rattle.bson_recast_run.specs.Options.{options_of, no_options}
use Rattle.bson_recast_run.proofs.options.leading_options.Given as goal

abbrev pub invariant-loop-rest : goal.invariant-loop-rest
invariant-loop-rest l = options_of l.options (map string_bytes l.rest) ≡ options_of no_options (map string_bytes l.words)

abbrev pub decreases-loop-rest : goal.decreases-loop-rest
decreases-loop-rest l = length l.rest
